use Rattle.vpc_model.specs.Step.Enter.{enter_host}
use Rattle.box_steps.proofs.HostAnswers.{host_lies}
use Rattle.box_steps.proofs.RouterAnswers.{answers_by_host}
use Rattle.box_steps.proofs.enter.enter_host_on.Goals as goal
use Rattle.box_steps.specs.Cuts.{Standing}

pub to_host_in-requires-clause-host : goal.to_host_in-requires-clause-host
to_host_in-requires-clause-host c = host_lies (Standing c.args.f.now) c.args.f.now c.args.v c.args.i.now c.host_on-host.result c.host_on-host.ensures

pub returns : goal.returns
returns c =
    let d = c.args.f.now in
    answers_by_host d c.args.v (enter_host d c.args.v) c.args.i.now c.within.result c.host_on-host.result c.to_host_in.result c.requires.valid.part c.within.ensures.image
    c.host_on-host.ensures c.to_host_in.ensures

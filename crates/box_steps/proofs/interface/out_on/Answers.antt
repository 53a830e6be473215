use Rattle.std.proofs.Common.{subst}
use Rattle.vpc_base.specs.declared.headers.Dir.TheVariants as dirs
use Rattle.vpc_model.specs.Accepted.{IsAccepted}
use Rattle.vpc_model.specs.Appliances.{appliances_of}
use Rattle.box_steps.proofs.Narrowing.{moment-narrowed}
use Rattle.box_steps.proofs.StoppedSteps.{stopped_step}
use Rattle.box_steps.proofs.PassedSteps.{passed_step}
use Rattle.box_steps.proofs.LetInSteps.{to_router}
use Rattle.box_steps.proofs.interface.out_on.Goals as goal

pub returns-in-Some : goal.returns-in-Some
returns-in-Some c =
    stopped_step c.args.f.now (appliances_of c.args.f.now) c.args.label c.args.i dirs.Outward c.args.m.now c.barrier_on.new.m c.barrier_on.result c.in-Some.stop c.requires.place c.requires.moment
    c.in-Some.is c.barrier_on.ensures

pub returns-in-None : goal.returns-in-None
returns-in-None c =
    let d = c.args.f.now in
    passed_step d (appliances_of d) c.args.label c.args.i dirs.Outward c.args.m.now c.barrier_on.new.m c.pass.new.m c.barrier_on.result _ c.pass.result
    (subst IsAccepted c.network.ensures c.description.ensures.accepted) c.requires.place c.requires.moment c.requires.room c.in-None.is c.barrier_on.ensures
    (to_router d (appliances_of d) c.args.i c.subnet_of.result c.barrier_on.new.m (moment-narrowed d c.args.label c.barrier_on.new.m.header.part c.args.m.now c.barrier_on.new.m c.requires.moment c.barrier_on.ensures.answers.body.within c.barrier_on.ensures.narrowed).valid.part c.subnet_of.ensures.number)
    c.pass.ensures

use Rattle.box_steps.proofs.OwnAnswers.{address_answers}
use Rattle.box_steps.proofs.hosts.address_on.Goals as goal

pub returns : goal.returns
returns c =
    address_answers c.args.i.now c.args.side c.args.own c.narrow.result c.requires.valid c.requires.walk c.requires.address
    (record { told = c.narrow.ensures.told; body = c.narrow.ensures.body; ends = c.narrow.ensures.ends })

use Rattle.std.proofs.Common.{◌∙◌, sym}
use Rattle.fabric.proofs.Peered.{can_carry}
use Rattle.box_steps.proofs.PeeringAnswers.{answers_of_peering, peer-told}
use Rattle.box_steps.proofs.peering.peer_on.Goals as goal

pub returns-in_default : goal.returns-in_default
returns-in_default c = absurd (peer-told c.args.f.now c.args.x c.args.v (can_carry c.args.f.now c.args.x c.args.v c.requires.sound) (sym c.in_default.is ∙ c.far_vpc.ensures))

pub carries_on-carry-requires-clause-carrier : goal.carries_on-carry-requires-clause-carrier
carries_on-carry-requires-clause-carrier c = c.edges.ensures.carriers c.args.x c.args.v (can_carry c.args.f.now c.args.x c.args.v c.requires.sound)

pub returns : goal.returns
returns c =
    answers_of_peering c.args.f.now c.edges.result.now c.args.x c.args.v c.in-Some.other (can_carry c.args.f.now c.args.x c.args.v c.requires.sound) c.args.i.now c.carries_on-carry.result c.after_carry.result c.edges.ensures
    (sym c.in-Some.is ∙ c.far_vpc.ensures) c.after_carry.ensures c.carries_on-carry.ensures

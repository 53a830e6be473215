use Rattle.std.proofs.Common.{◌∙◌, sym}
use Rattle.appliances.proofs.Forwarding.{boxes_at-number}
use Rattle.box_images.proofs.Reducing.{walk_within}
use Rattle.box_steps.proofs.TakenIn.{taken_in_all, taken_in_own, taken_in_sent}
use Rattle.box_steps.proofs.interface.taken_in_on.Goals as goal

pub returns-in_default : goal.returns-in_default
returns-in_default g c =
    taken_in_all c.args.f.now c.args.deciders.now.appliances c.args.i c.args.image.now c.requires.appliances c.requires.valid.part (sym c.in_default.is ∙ c.number.ensures)

pub returns-then-own : goal.returns-then-own
returns-then-own g c =
    taken_in_own c.args.f.now c.args.deciders.now.appliances c.args.i c.args.image.now c.in-Some.k c.own_on-own.result c.requires.appliances (sym c.in-Some.is ∙ c.number.ensures) c.if-own.true c.own_on-own.ensures

pub passes_on-passes-requires-clause-number : goal.passes_on-passes-requires-clause-number
passes_on-passes-requires-clause-number g c = (boxes_at-number c.args.deciders.now.appliances c.args.i c.in-Some.k (sym c.in-Some.is ∙ c.number.ensures)).0

pub passes_on-passes-requires-clause-walk : goal.passes_on-passes-requires-clause-walk
passes_on-passes-requires-clause-walk g c = walk_within c.args.image.now c.within.result c.requires.walk c.within.ensures.kind

pub returns : goal.returns
returns g c =
    taken_in_sent c.args.f.now c.args.deciders.now.appliances c.args.i c.args.image.now c.within.result c.in-Some.k c.own_on-own.result c.passes_on-passes.result c.sent_on.result c.requires.appliances
    c.requires.valid.part (sym c.in-Some.is ∙ c.number.ensures) c.if-own.false c.within.ensures.image c.sent_on.ensures c.own_on-own.ensures c.passes_on-passes.ensures

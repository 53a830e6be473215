use Rattle.std.proofs.Common.{◌∙◌, sym}
use Rattle.nat_gateway.proofs.Additions.{inward-by_open, inward-without_open}
use Rattle.nat_gateway.proofs.growing.GrowingNatsNatBook.inward.Goals as goal

pub returns-in-Some-clause-answer : goal.returns-in-Some-clause-answer
returns-in-Some-clause-answer c = inward-by_open c.args.self.now.entries c.args.nat c.args.h.now c.in-Some.after c.made.result c.answer_to.result (sym c.opening.ensures ∙ c.in-Some.is) c.made.ensures c.answer_to.ensures

pub returns-in-None-clause-answer : goal.returns-in-None-clause-answer
returns-in-None-clause-answer c = inward-without_open c.args.self.now.entries c.args.nat c.args.h.now (sym c.opening.ensures ∙ c.in-None.is)

use Rattle.std.proofs.Common.{rules}
use Rattle.nat_gateway.proofs.Additions.{free-beside, kept_same}
use Rattle.nat_gateway.proofs.growing.GrowingNats.first_free.Goals as goal

pub invariant_of-self : goal.invariant_of-self
invariant_of-self c = kept_same _ _ _ _ _ _ _ _ _ _ c.self.invariant c.first_free.ensures.same

pub returns-clause-answer : goal.returns-clause-answer
returns-clause-answer c = rw (← c.self.view_is) (free-beside _ _ _ _ c.args.nat c.args.h.now _ _ _ c.self.invariant.ports.first (search rules) c.first_free.ensures.answer)

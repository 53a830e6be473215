use Rattle.std.proofs.Common.{◌∙◌, sym, rules}
use Rattle.nat_gateway.specs.Tables.{key_after}
use Rattle.nat_gateway.proofs.Additions.{value-in_rest, value-in_table}
use Rattle.nat_gateway.proofs.growing.GrowingNats.made.Goals as goal

pub returns-in-Some : goal.returns-in-Some
returns-in-Some c = rw (← c.self.view_is) (value-in_table key_after (λ t. t.before) _ _ _ (record { nat = c.args.nat; header = c.args.h.now }) _ c.self.invariant.befores.first (sym c.get.ensures ∙ c.in-Some.is))

pub returns-in-None : goal.returns-in-None
returns-in-None c = rw (← c.self.view_is) (value-in_rest key_after (λ t. t.before) _ _ _ _ (record { nat = c.args.nat; header = c.args.h.now }) _ c.self.invariant.befores.first (sym c.get.ensures ∙ c.in-None.is) (search rules) c.before_of.ensures)

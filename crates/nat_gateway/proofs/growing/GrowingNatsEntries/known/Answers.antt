use Rattle.std.proofs.Common.{◌∙◌, sym, rules}
use Rattle.nat_gateway.specs.Tables.{key_before}
use Rattle.nat_gateway.proofs.Additions.{value-in_rest, value-in_table}
use Rattle.nat_gateway.proofs.growing.GrowingNatsEntries.known.Goals as goal

pub returns-in-Some-clause-known : goal.returns-in-Some-clause-known
returns-in-Some-clause-known c = rw (← c.self.view_is) (value-in_table key_before (λ t. t.after) _ _ _ (record { nat = c.args.nat; header = c.args.h.now }) _ c.self.invariant.afters.first (sym c.get.ensures ∙ c.in-Some.is))

pub returns-in-None-clause-known : goal.returns-in-None-clause-known
returns-in-None-clause-known c = rw (← c.self.view_is) (value-in_rest key_before (λ t. t.after) _ _ _ _ (record { nat = c.args.nat; header = c.args.h.now }) _ c.self.invariant.afters.first (sym c.get.ensures ∙ c.in-None.is) (search rules) c.after_of.ensures)

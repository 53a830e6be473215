use Rattle.std.proofs.Common.{◌∙◌, ◌↔◌, IsTrue, List, ap, arith, subst, sym, ℕ}
use Rattle.number_tables.specs.Entries.{value_at}
use Rattle.security_groups.specs.Sharing.{Shares}
use Rattle.security_groups.proofs.attached.Attached.share.Goals as goal

pub returns-in-Some : goal.returns-in-Some
returns-in-Some c =
    let one = c.args.one in
    let other = c.args.other in
    let found = sym (c.get.ensures ∙ ap (λ (k : ℕ). value_at k c.self.inside.told) c.key_of.ensures) ∙ c.in-Some.is in
    subst (λ (keys : List ℕ). IsTrue c.in-Some.shared ↔ Shares keys one keys other) c.self.view_is (c.self.invariant one other c.in-Some.shared (omega (arith, c.ranges.one.fits)) (omega (arith, c.ranges.other.fits)) found)

pub returns-in-None : goal.returns-in-None
returns-in-None c = subst (λ (keys : List ℕ). IsTrue c.share.result ↔ Shares keys c.args.one keys c.args.other) c.self.view_is c.share.ensures

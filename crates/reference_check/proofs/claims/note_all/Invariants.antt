use Rattle.std.proofs.Common.{◌≡◌, List, map, take, ℕ}
use Rattle.reference_check.specs.declared.claims.Claim.{Claim}
use Rattle.reference_check.specs.Claims.{noted_all}
use Rattle.reference_check.proofs.claims.note_all.Given as goal

abbrev pub invariant-loop-id : goal.invariant-loop-id
invariant-loop-id l = (f : List ℕ → Claim) → l.fn.claims ≡ map f l.targets → l.claims ≡ noted_all l.targets l.row (take l.id-index l.ids) f

-- Whole numbers.
use Rattle.std.proofs.Common.{◌≡◌, ◌==◌, ◌<◌, ◌≤◌, arith, ℕ}
use Rattle.std.proofs.lemmas.Bool.Decides.{nat_tests}

pub eqb-comm : (a b : ℕ) → (a == b) ≡ (b == a)
eqb-comm a b = grind (arith, nat_tests)

-- no count is above a limit and within it
pub few-or-many : (count limit : ℕ) → limit < count → count ≤ limit → ⊥
few-or-many count limit many few = omega arith

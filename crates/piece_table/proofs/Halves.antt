-- A search that halves.
use Rattle.std.proofs.Common.{◌≡◌, ℕ, ◌≤◌, ◌<◌, ◌+◌, ◌*◌, ◌^◌, arith, ap, ⊎_elim, ◌∙◌}
use Rattle.std.proofs.Math.Nat.{mul-le-mul_left, pow-le-pow_right}
use Rattle.std.proofs.lemmas.Nat.{pow-add}
use Rattle.std.proofs.lemmas.Bool.{cases_lt}

-- one more step over at most half the width
pub halved : (a b w v n : ℕ) → b ≡ a + 1 → 2 * v ≤ w → 2 ^ a * w ≤ n → 2 ^ b * v ≤ n
halved a b w v n e half bound =
    let m : 2 ^ a * (2 * v) ≤ 2 ^ a * w = mul-le-mul_left (2 ^ a) half in
    let p : 2 ^ b ≡ 2 ^ a * 2 = ap (λ k. 2 ^ k) e ∙ pow-add 2 a 1 in
    rw p (omega (arith, m, bound))

-- and one more step where there was some width
pub one_more : (a b w n : ℕ) → b ≡ a + 1 → 1 ≤ w → 2 ^ a * w ≤ n → 2 ^ b ≤ 2 * n
one_more a b w n e some bound =
    let m : 2 ^ a * 1 ≤ 2 ^ a * w = mul-le-mul_left (2 ^ a) some in
    let p : 2 ^ b ≡ 2 ^ a * 2 = ap (λ k. 2 ^ k) e ∙ pow-add 2 a 1 in
    rw p (omega (arith, m, bound))

-- a search among few pieces takes few steps
pub few_steps : (count s most : ℕ) → 2 ^ s ≤ 4 * count → 4 * count < 2 ^ (most + 1) → s ≤ most
few_steps count s most few bound =
    ⊎_elim (λ more. let p : 2 ^ (most + 1) ≤ 2 ^ s = pow-le-pow_right {n = 2} (omega arith) {i = most + 1} {j = s} (omega arith) in absurd (omega arith)) (λ le. omega arith) (cases_lt most s)

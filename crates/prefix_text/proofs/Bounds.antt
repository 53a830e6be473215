-- Bounds of blocks.
use Rattle.std.proofs.Common.{◌≡◌, ℕ, ◌≤◌, ◌<◌, ◌+◌, ◌-◌, ◌*◌, ◌/◌, ◌%◌, ◌^◌, arith, sym, ap, subst, ◌∙◌}
use Rattle.std.proofs.Math.Nat.{mul-le-mul, div-lt_iff_lt-mul, mul-mod_left}
use Rattle.std.proofs.lemmas.Nat.{pow-add}
use Rattle.prefix_text.specs.Block.{IsBlock, block_of}

-- a multiple of s below m * s has room for s more
block_fits : (a s m : ℕ) → 0 < s → a < m * s → a - a % s + (s - 1) < m * s
block_fits a s m some below =
    let q : a / s < m = (div-lt_iff_lt-mul {k = s} {x = a} {y = m} some).1 below in
    let q1 : a / s + 1 ≤ m = omega arith in
    let same : s ≤ s = omega arith in
    let e : (a / s + 1) * s ≤ m * s = mul-le-mul q1 same in
    omega (arith, e)

-- the last address of a block fits 32 bits
pub prefix_fits : (a len : ℕ) → a < 2 ^ 32 → len ≤ 32 → 0 < 2 ^ (32 - len) → a - a % 2 ^ (32 - len) + (2 ^ (32 - len) - 1) < 2 ^ 32
prefix_fits a len below short some =
    let n : len + (32 - len) ≡ 32 = omega arith in
    let e : 2 ^ len * 2 ^ (32 - len) ≡ 2 ^ 32 = sym (pow-add 2 len (32 - len)) ∙ ap (λ k. 2 ^ k) n in
    subst (λ k. a - a % 2 ^ (32 - len) + (2 ^ (32 - len) - 1) < k) e (block_fits a (2 ^ (32 - len)) (2 ^ len) some (subst (λ k. a < k) (sym e) below))

-- without its remainder a number is a multiple
clear_host : (a s : ℕ) → 0 < s → (a - a % s) % s ≡ 0
clear_host a s some = let e : a - a % s ≡ (a / s) * s = omega arith in rw e (mul-mod_left (a / s) s)

-- a block around an address is one
pub block_of_is_block : (a len : ℕ) → a < 2 ^ 32 → len ≤ 32 → 0 < 2 ^ (32 - len) → IsBlock (block_of a len)
block_of_is_block a len below short some = record { short = short; clear = clear_host a (2 ^ (32 - len)) some; fits = prefix_fits a len below short some }

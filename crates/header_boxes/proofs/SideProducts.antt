-- Products of five numbers, each at most the size of a side.
use Rattle.std.proofs.Common.{ℕ, ◌≤◌, ◌*◌, ◌^◌}
use Rattle.std.proofs.Math.Nat.{mul-le-mul}

pub two_sides : (p q : ℕ) → p ≤ 2 ^ 16 → q ≤ 2 ^ 16 → p * q ≤ 2 ^ 32
two_sides p q hp hq = mul-le-mul hp hq

pub three_sides : (dst r : ℕ) → dst ≤ 2 ^ 32 → r ≤ 2 ^ 32 → dst * r ≤ 2 ^ 64
three_sides dst r hd hr = mul-le-mul hd hr

pub four_sides : (src r : ℕ) → src ≤ 2 ^ 32 → r ≤ 2 ^ 64 → src * r ≤ 2 ^ 96
four_sides src r hs hr = mul-le-mul hs hr

pub five_sides : (proto r : ℕ) → proto ≤ 2 ^ 8 → r ≤ 2 ^ 96 → proto * r ≤ 2 ^ 104
five_sides proto r hp hr = mul-le-mul hp hr

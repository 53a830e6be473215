-- Blocks that share an address.
use Rattle.std.proofs.Common.{◌≡◌, ℕ, ◌≤◌, ◌<◌, ◌+◌, ◌-◌, ◌*◌, ◌/◌, ◌%◌, ◌^◌, ◌⊎◌, ap, arith, inl, inr, nat_le, pow_pos, sym, true, ◌∙◌}
use Rattle.std.proofs.Math.Nat.{mul-le-mul_right, lt_of_mul-lt-mul_right}
use Rattle.std.proofs.lemmas.Nat.{div-add-mod', pow-add}
use Rattle.std.proofs.lemmas.Bool.{and_parts, cases_lt, leb-true}
use Rattle.prefix_text.specs.Block.{Block, IsBlock, holds, last_of, size_of}
use Rattle.block_pieces.specs.Sweep.{order_of}

-- a block of s addresses that begins within one of t * s lies in it
within : (s t k m : ℕ) → 0 < s → m * (t * s) ≤ k * s → k * s < m * (t * s) + t * s → k * s + s ≤ m * (t * s) + t * s
within s t k m some from upto =
    let whole : m * (t * s) + t * s ≡ (m * t + t) * s = omega arith in
    let lt : k * s < (m * t + t) * s = omega arith in
    let below : k < m * t + t = lt_of_mul-lt-mul_right s lt in
    let room : (k + 1) * s ≤ (m * t + t) * s = mul-le-mul_right s (omega arith) in
    omega arith

-- a block of t * s addresses that begins within one of s begins no later
begins : (s t k m : ℕ) → 0 < s → k * (t * s) < m * s + s → k * (t * s) ≤ m * s
begins s t k m some upto =
    let lt : (k * t) * s < (m + 1) * s = omega arith in
    let below : k * t < m + 1 = lt_of_mul-lt-mul_right s lt in
    let le : (k * t) * s ≤ m * s = mul-le-mul_right s (omega arith) in
    omega arith

-- a size is a multiple of a smaller one
size_of-multiple : (a b : ℕ) → a ≤ b → b ≤ 32 → size_of a ≡ 2 ^ (b - a) * size_of b
size_of-multiple a b le short =
    let e : (b - a) + (32 - b) ≡ 32 - a = omega arith in
    sym (ap (λ n. 2 ^ n) e) ∙ pow-add 2 (b - a) (32 - b)

-- the addresses of a block are counted by its size
multiple : (b : Block) → IsBlock b → (b.first / size_of b.length) * size_of b.length ≡ b.first
multiple b is = let e = div-add-mod' b.first (size_of b.length) in omega (arith, e, is.clear)

-- the shorter block holds the longer one that begins in it
pub last_of-le : (b c : Block) → IsBlock b → IsBlock c → b.length ≤ c.length → b.first ≤ c.first → c.first ≤ last_of b → last_of c ≤ last_of b
last_of-le b c is_b is_c le from upto =
    let s : ℕ = size_of c.length in
    let t : ℕ = 2 ^ (c.length - b.length) in
    let some : 0 < s = pow_pos (32 - c.length) in
    let size : size_of b.length ≡ t * s = size_of-multiple b.length c.length le is_c.short in
    let k : ℕ = c.first / s in
    let m : ℕ = b.first / size_of b.length in
    let at_c : k * s ≡ c.first = multiple c is_c in
    let at_b : m * (t * s) ≡ b.first = ap (λ n. m * n) (sym size) ∙ multiple b is_b in
    let room = within s t k m some (omega arith) (omega (arith, pow_pos (32 - b.length))) in
    omega arith

-- a shorter block that begins within a longer one begins with it
pub first-le : (b c : Block) → IsBlock b → IsBlock c → c.length ≤ b.length → c.first ≤ last_of b → c.first ≤ b.first
first-le b c is_b is_c le upto =
    let s : ℕ = size_of b.length in
    let t : ℕ = 2 ^ (b.length - c.length) in
    let some : 0 < s = pow_pos (32 - b.length) in
    let size : size_of c.length ≡ t * s = size_of-multiple c.length b.length le is_b.short in
    let k : ℕ = c.first / size_of c.length in
    let m : ℕ = b.first / s in
    let at_b : m * s ≡ b.first = multiple b is_b in
    let at_c : k * (t * s) ≡ c.first = ap (λ n. k * n) (sym size) ∙ multiple c is_c in
    let le = begins s t k m some (omega arith) in
    omega arith

-- a block that comes after another and begins in it lies in it
pub last_of-after : (b c : Block) → IsBlock b → IsBlock c → order_of b ≤ order_of c → c.first ≤ last_of b → last_of c ≤ last_of b
last_of-after b c is_b is_c after upto =
    elim (cases_lt c.length b.length) [
      | inl shorter ↦ let le = first-le b c is_b is_c (omega arith) upto in absurd (omega (arith, is_b.short, is_c.short))
      | inr longer ↦ last_of-le b c is_b is_c longer (omega (arith, is_b.short, is_c.short)) upto
    ]

-- of two blocks that share an address the longer one lies in the other
pub nested : (b c : Block) (a : ℕ) → IsBlock b → IsBlock c → holds a b ≡ true → holds a c ≡ true → b.length ≤ c.length → (b.first ≤ c.first) × (last_of c ≤ last_of b)
nested b c a is_b is_c in_b in_c le =
    let at_b = and_parts (nat_le b.first a) (nat_le a (last_of b)) in_b in
    let at_c = and_parts (nat_le c.first a) (nat_le a (last_of c)) in_c in
    let from_b = leb-true b.first a at_b.0 in
    let upto_b = leb-true a (last_of b) at_b.1 in
    let from_c = leb-true c.first a at_c.0 in
    let upto_c = leb-true a (last_of c) at_c.1 in
    let from : b.first ≤ c.first = first-le c b is_c is_b le (omega arith) in
    (from, last_of-le b c is_b is_c le from (omega arith))

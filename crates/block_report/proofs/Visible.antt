-- Numbers and blocks are ids.
use Rattle.std.proofs.Common.{◌≡◌, ℕ, ◌^◌, ◌/◌, ◌%◌, ◌<◌, ◌≤◌, List, ◌++◌, [], true, length, get_or, codes, decimal, All, arith, lit<, refl, le-leb, length-append}
use Rattle.std.proofs.lemmas.Bool.{and_from}
use Rattle.std.proofs.lemmas.Fmt.{decimal_is_IsNumeral, decimal_nonempty, length-decimal-le}
use Rattle.std.proofs.lemmas.List.Elements.{All-append, All-cons, All-from_get_or, All-nil}
use Rattle.std.proofs.lemmas.List.Sums.{list_all-from_AllPass}
use Rattle.std.proofs.lemmas.Str.Parse.{digit_at}
use Rattle.prefix_text.specs.Addr.{addr_text}
use Rattle.prefix_text.specs.Block.{Block, IsBlock, block_text}
use Rattle.prefix_text.proofs.BlockLaws.{length-block_text-le}
use Rattle.vpc_model.specs.Id.{is_id, is_visible}

-- a character that an id may have
abbrev Visible : ℕ → Type 0
Visible c = is_visible c ≡ true

All-visible-decimal : (n : ℕ) → n < 2 ^ 64 → All Visible (decimal n)
All-visible-decimal n small =
    All-from_get_or Visible (decimal n) 0 λ i h.
    let c = get_or (decimal n) i 0 in
    let digit = digit_at (decimal n) i (decimal_is_IsNumeral n small).0.1 h in
    let low : 33 ≤ c = omega (arith, digit.0) in
    let high : c ≤ 126 = omega (arith, digit.1) in
    and_from _ _ (le-leb 33 c low) (le-leb c 126 high)

All-visible-addr_text : (n : ℕ) → n < 2 ^ 32 → All Visible (addr_text n)
All-visible-addr_text n fits =
    let dot : All Visible (codes ".") = All-cons Visible 46 [] refl (All-nil Visible) in
    let a = All-visible-decimal (n / 2 ^ 24) (omega arith) in
    let b = All-visible-decimal (n / 2 ^ 16 % 256) (omega arith) in
    let c = All-visible-decimal (n / 2 ^ 8 % 256) (omega arith) in
    let d = All-visible-decimal (n % 256) (omega arith) in
    All-append Visible _ _ (All-append Visible _ _ (All-append Visible _ _ (All-append Visible _ _ (All-append Visible _ _ (All-append Visible _ _ a dot) b) dot) c) dot) d

All-visible-block_text : (b : Block) → IsBlock b → All Visible (block_text b)
All-visible-block_text b h =
    let slash : All Visible (codes "/") = All-cons Visible 47 [] refl (All-nil Visible) in
    let addr = All-visible-addr_text b.first (omega (arith, h.fits)) in
    All-append Visible _ _ (All-append Visible _ _ addr slash) (All-visible-decimal b.length (omega (arith, h.short)))

-- a short text of such characters
id_from : (text : List ℕ) → 1 ≤ length text → length text ≤ 256 → All Visible text → is_id text ≡ true
id_from text some short visible = and_from _ _ (le-leb 1 _ some) (and_from _ _ (le-leb _ 256 short) (list_all-from_AllPass is_visible text visible))

-- a number is an id
pub number_is_id : (n : ℕ) → n < 2 ^ 16 → is_id (decimal n) ≡ true
number_is_id n fits =
    let small : n < 2 ^ 64 = omega (arith, fits) in
    let some : 1 ≤ length (decimal n) = omega (arith, decimal_nonempty n small) in
    let short : length (decimal n) ≤ 256 = omega (arith, length-decimal-le 5 n (lit< tt) (omega (arith, fits)) small) in
    id_from _ some short (All-visible-decimal n small)

-- a block is an id
pub block_is_id : (b : Block) → IsBlock b → is_id (block_text b) ≡ true
block_is_id b h =
    let front = addr_text b.first in
    let some : 1 ≤ length (block_text b) = omega (arith, length-append (front ++ codes "/") (decimal b.length), length-append front (codes "/")) in
    let short : length (block_text b) ≤ 256 = omega (arith, length-block_text-le b h) in
    id_from _ some short (All-visible-block_text b h)

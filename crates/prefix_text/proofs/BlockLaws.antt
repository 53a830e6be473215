-- Prefixes and their texts.
use Rattle.std.proofs.Common.{length, length-append, codes, decimal, ◌++◌, ◌≡◌, ◌≢◌, ℕ, ◌-◌, ◌%◌, ◌^◌, ◌<◌, ◌≤◌, ◌==◌, false, List, [], ◌∷◌, Option, Some, None, All, refl, sym, ap, ◌∙◌, arith, lit<, ne_eqb, append_assoc, pow_pos, subst}
use Rattle.std.proofs.lemmas.Option.{none-some, same_Some}
use Rattle.std.proofs.lemmas.Fmt.{decimal_nonempty}
use Rattle.std.proofs.lemmas.List.Elements.{All-append, All-cons, All-nil}
use Rattle.std.specs.List.{before_first, after_first}
use Rattle.std.specs.Option.{option_zip, option_map}
use Rattle.prefix_text.specs.Number.{number_of}
use Rattle.prefix_text.specs.Addr.{addr_of, addr_text}
use Rattle.prefix_text.specs.Block.{Block, IsBlock, IsPrefixText, block_of, block_text, cidr_text, prefix_of, size_of}
use Rattle.prefix_text.proofs.Bounds.{block_of_is_block}
use Rattle.prefix_text.proofs.NumberLaws.{number_of-decimal, number_of-Some, All-decimal, two_digits}
use Rattle.prefix_text.proofs.AddrLaws.{addr_of-addr_text, addr_of-Some, All-addr_text, length-addr_text-le}
use Rattle.prefix_text.proofs.PartLemmas.{before_first-separator, after_first-separator, before_first-after_first}
use Rattle.prefix_text.proofs.RangeLaws.{option_zip-Some}

-- what the value comes from
option_map-Some : {A B P : Type 0} (f : A → B) (o : Option A) (y : B) → option_map f o ≡ Some y → ((x : A) → o ≡ Some x → f x ≡ y → P) → P
option_map-Some f None y e k = absurd (none-some y e)
option_map-Some f (Some x) y e k = k x refl (same_Some (f x) y e)

-- what is printed reads as what it was, without the host bits
pub prefix_of-cidr_text : (addr length : ℕ) → addr < 2 ^ 32 → length ≤ 32 → prefix_of (cidr_text addr length) ≡ Some (block_of addr length)
prefix_of-cidr_text addr length fits short =
    let apart = All-addr_text addr 47 fits (lit< tt) (λ same. omega arith) in
    let text : cidr_text addr length ≡ addr_text addr ++ 47 ∷ decimal length = append_assoc (addr_text addr) (47 ∷ []) (decimal length) in
    rw (text, before_first-separator 47 (addr_text addr) (decimal length) apart, after_first-separator 47 (addr_text addr) (decimal length) apart, addr_of-addr_text addr fits, number_of-decimal length 32 short (omega arith))

-- a block is the one around its least address
block_of-first : (b : Block) → IsBlock b → block_of b.first b.length ≡ b
block_of-first b h = let same : b.first - b.first % size_of b.length ≡ b.first = omega (arith, h.clear) in λ i. record { first = same i; length = b.length }

-- what is printed reads as what it was
pub prefix_of-block_text : (b : Block) → IsBlock b → prefix_of (block_text b) ≡ Some b
prefix_of-block_text b h = prefix_of-cidr_text b.first b.length (omega (arith, h.fits)) h.short ∙ ap (λ x. Some x) (block_of-first b h)

-- a text that reads as a prefix is an address and a length
pub prefix_of-Some : (text : List ℕ) (b : Block) → prefix_of text ≡ Some b → IsPrefixText text b × IsBlock b
prefix_of-Some text b e =
    let before = before_first (λ c. c == 47) text in
    let after = after_first (λ c. c == 47) text in
    option_map-Some (λ p. block_of p.0 p.1) (option_zip (addr_of before) (number_of after 32)) b e λ p both around.
    let (read_addr, read_length) = option_zip-Some (addr_of before) (number_of after 32) p.0 p.1 both in
    let addr = addr_of-Some before p.0 read_addr in
    let len = number_of-Some after 32 p.1 read_length in
    let some : 0 < length after = omega (arith, ap length len.0, decimal_nonempty p.1 (omega (arith, len.1))) in
    let split = before_first-after_first 47 text some in
    let spelled : text ≡ cidr_text p.0 p.1 = split ∙ rw (addr.0, len.0) (sym (append_assoc (addr_text p.0) (47 ∷ []) (decimal p.1))) in
    let block : IsBlock b = subst IsBlock around (block_of_is_block p.0 p.1 addr.1 len.1 (pow_pos (32 - p.1))) in
    (record { addr = p.0; length = p.1; addr_fits = addr.1; short = len.1; spelled = spelled; around = sym around }, block)

-- a block's text has no such byte: no blank, no line end and no dash
pub All-block_text : (b : Block) (c : ℕ) → IsBlock b → c < 48 → c ≢ 46 → c ≢ 47 → All (λ x. (x == c) ≡ false) (block_text b)
All-block_text b c h other no_dot no_slash =
    let apart = λ (x : ℕ). (x == c) ≡ false in
    let differs : 47 ≡ c → ⊥ = λ same. no_slash (sym same) in
    let slash : All apart (codes "/") = All-cons apart 47 [] (ne_eqb 47 c differs) (All-nil apart) in
    let addr = All-addr_text b.first c (omega (arith, h.fits)) other no_dot in
    All-append apart _ _ (All-append apart _ _ addr slash) (All-decimal b.length c (omega (arith, h.short)) other)

pub length-block_text-le : (b : Block) → IsBlock b → length (block_text b) ≤ 18
length-block_text-le b h =
    let addr = length-addr_text-le b.first (omega (arith, h.fits)) in
    let len = two_digits b.length h.short in
    let front = addr_text b.first in
    omega (arith, length-append (front ++ codes "/") (decimal b.length), length-append front (codes "/"))

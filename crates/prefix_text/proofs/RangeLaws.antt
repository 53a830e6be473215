-- Ranges of ports and their texts.
use Rattle.std.proofs.Common.{◌≡◌, ◌≢◌, ℕ, ◌^◌, ◌<◌, ◌≤◌, ◌==◌, false, List, [], ◌∷◌, ◌++◌, length, Option, Some, None, decimal, codes, All, sym, ap, ◌∙◌, arith, lit<, ne_eqb, append_assoc, length-append}
use Rattle.std.proofs.lemmas.Option.{none-some, same_Some}
use Rattle.std.proofs.lemmas.Fmt.{decimal_nonempty, length-decimal-le}
use Rattle.std.proofs.lemmas.List.Elements.{All-append, All-cons, All-nil}
use Rattle.std.specs.List.{before_first, after_first}
use Rattle.std.specs.Option.{option_zip}
use Rattle.prefix_text.specs.Number.{number_of}
use Rattle.prefix_text.specs.Range.{range_text, range_of}
use Rattle.prefix_text.proofs.NumberLaws.{number_of-decimal, number_of-Some, All-decimal}
use Rattle.prefix_text.proofs.PartLemmas.{before_first-separator, after_first-separator, before_first-after_first}

-- what two reads gave, if both gave something
pub option_zip-Some : {A B : Type 0} (o : Option A) (p : Option B) (x : A) (y : B) → option_zip o p ≡ Some (x, y) → (o ≡ Some x) × (p ≡ Some y)
option_zip-Some None p x y e = absurd (none-some (x, y) e)
option_zip-Some (Some a) None x y e = absurd (none-some (x, y) e)
option_zip-Some (Some a) (Some b) x y e = let same = same_Some (a, b) (x, y) e in (ap (λ p. Some p.0) same, ap (λ p. Some p.1) same)

-- what is printed reads as what it was
pub range_of-range_text : (r : ℕ × ℕ) → r.0 < 2 ^ 16 → r.1 < 2 ^ 16 → range_of (range_text r) ≡ Some r
range_of-range_text r first last =
    let apart = All-decimal r.0 45 (omega arith) (lit< tt) in
    let text : range_text r ≡ decimal r.0 ++ 45 ∷ decimal r.1 = append_assoc (decimal r.0) (45 ∷ []) (decimal r.1) in
    rw (text, before_first-separator 45 (decimal r.0) (decimal r.1) apart, after_first-separator 45 (decimal r.0) (decimal r.1) apart, number_of-decimal r.0 65535 (omega arith) (omega arith), number_of-decimal r.1 65535 (omega arith) (omega arith))

-- a text that reads as a range is the range's text
pub range_of-Some : (text : List ℕ) (r : ℕ × ℕ) → range_of text ≡ Some r → (text ≡ range_text r) × (r.0 < 2 ^ 16) × (r.1 < 2 ^ 16)
range_of-Some text r e =
    let (read_first, read_last) = option_zip-Some (number_of (before_first (λ c. c == 45) text) 65535) (number_of (after_first (λ c. c == 45) text) 65535) r.0 r.1 e in
    let first = number_of-Some (before_first (λ c. c == 45) text) 65535 r.0 read_first in
    let last = number_of-Some (after_first (λ c. c == 45) text) 65535 r.1 read_last in
    let some : 0 < length (after_first (λ c. c == 45) text) = omega (arith, ap length last.0, decimal_nonempty r.1 (omega (arith, last.1))) in
    let split = before_first-after_first 45 text some in
    (split ∙ rw (first.0, last.0) (sym (append_assoc (decimal r.0) (45 ∷ []) (decimal r.1))), omega (arith, first.1), omega (arith, last.1))

-- a range's text has no such byte: no blank, no line end, no dot and no slash
pub All-range_text : (r : ℕ × ℕ) (c : ℕ) → r.0 < 2 ^ 16 → r.1 < 2 ^ 16 → c < 48 → c ≢ 45 → All (λ x. (x == c) ≡ false) (range_text r)
All-range_text r c first last other no_dash =
    let apart = λ (x : ℕ). (x == c) ≡ false in
    let differs : 45 ≡ c → ⊥ = λ same. no_dash (sym same) in
    let dash : All apart (codes "-") = All-cons apart 45 [] (ne_eqb 45 c differs) (All-nil apart) in
    All-append apart _ _ (All-append apart _ _ (All-decimal r.0 c (omega arith) other) dash) (All-decimal r.1 c (omega arith) other)

pub length-range_text-le : (r : ℕ × ℕ) → r.0 < 2 ^ 16 → r.1 < 2 ^ 16 → length (range_text r) ≤ 11
length-range_text-le r first last =
    let a = length-decimal-le 5 r.0 (lit< tt) (omega arith) (omega arith) in
    let b = length-decimal-le 5 r.1 (lit< tt) (omega arith) (omega arith) in
    simp length-append (omega arith)

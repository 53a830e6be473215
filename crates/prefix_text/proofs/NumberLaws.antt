-- Numbers and their texts.
use Rattle.std.proofs.Common.{◌≡◌, ℕ, ◌^◌, ◌<◌, ◌≤◌, ◌==◌, false, true, List, length, get_or, Some, decimal, All, sym, ap, ◌∙◌, arith, lit<, ne_eqb, not, ◌||◌, inl, inr, le-leb, eq-eqb, eqb-true}
use Rattle.std.proofs.lemmas.Bool.{and_parts, and_from, or_cases, or_left, or_right, not_from_false, not-true, eqb-false, leb-true, cases_lt, cond-true}
use Rattle.std.proofs.lemmas.Option.{cond_some}
use Rattle.std.proofs.lemmas.Fmt.{decimal_is_IsNumeral, decimal_is_IsNumeral_wide, decimal_digit, first_decimal, length-decimal-le, decimal-digits_value, digits_decimal, digits_value-decimal}
use Rattle.std.proofs.lemmas.List.Elements.{All-from_get_or}
use Rattle.std.proofs.lemmas.Str.Parse.{digit_at, IsNumeralModel, numerals_by_value, tells_all_ascii_digits, digits_value_short}
use Rattle.std.specs.Str.{all_ascii_digits}
use Rattle.std.specs.Str.Parse.{digits_value}
use Rattle.prefix_text.specs.Number.{is_number, number_of}

-- std's words for the digits of a numeral and its value
own : IsNumeralModel (λ ds. all_ascii_digits ds ≡ true) (digits_value 10)
own = numerals_by_value _ tells_all_ascii_digits

-- a decimal has one digit, or begins with another digit than 0
no_leading_zero : (n : ℕ) → n < 2 ^ 64 → (length (decimal n) == 1 || not (get_or (decimal n) 0 0 == 48)) ≡ true
no_leading_zero n small =
    elim (cases_lt n 10) [
      | inl one ↦ or_left _ _ (eq-eqb _ 1 (ap length (decimal_digit n one)))
      | inr more ↦
          let first : 48 < get_or (decimal n) 0 0 = first_decimal n (omega arith) small in
          let other : get_or (decimal n) 0 0 ≡ 48 → ⊥ = λ zero. omega arith in
          or_right _ _ (not_from_false _ (ne_eqb _ 48 other))
    ]

pub is_number-decimal : (n : ℕ) → n < 10 ^ 10 → is_number (decimal n) ≡ true
is_number-decimal n short =
    let small : n < 2 ^ 64 = omega arith in
    let long : 0 < length (decimal n) = (decimal_is_IsNumeral n small).0.0 in
    let within : length (decimal n) ≤ 10 = length-decimal-le 10 n (omega arith) short small in
    and_from _ _ (and_from _ _ (digits_decimal own n small) (and_from _ _ (le-leb 1 _ (omega arith)) (le-leb _ 10 within))) (no_leading_zero n small)

-- what is printed reads as what it was
pub number_of-decimal : (n max : ℕ) → n ≤ max → n < 10 ^ 10 → number_of (decimal n) max ≡ Some n
number_of-decimal n max fits short =
    let value : digits_value 10 (decimal n) ≡ n = digits_value-decimal own n (omega arith) in
    cond-true _ _ _ (and_from _ _ (is_number-decimal n short) (le-leb _ max (omega arith))) ∙ ap (λ k. Some k) value

-- a text that reads as a number is the number's text
pub number_of-Some : (text : List ℕ) (max n : ℕ) → number_of text max ≡ Some n → (text ≡ decimal n) × (n ≤ max) × (n < 10 ^ 10)
number_of-Some text max n e =
    let (test, value) = cond_some _ _ n e in
    let (form, fits) = and_parts _ _ test in
    let (some_digits, zero) = and_parts _ _ form in
    let (digits, lengths) = and_parts _ _ some_digits in
    let (long, short) = and_parts _ _ lengths in
    let some : 1 ≤ length text = leb-true 1 (length text) long in
    let below : digits_value 10 text < 10 ^ 10 = digits_value_short own text 10 digits (leb-true (length text) 10 short) in
    let alone : get_or text 0 0 ≡ 48 → length text ≡ 1 = λ first.
    elim (or_cases _ _ zero) [
      | inl one ↦ eqb-true _ 1 one
      | inr other ↦ absurd (eqb-false _ 48 (not-true _ other) first)
    ] in
    let spelled : decimal (digits_value 10 text) ≡ text = decimal-digits_value own text digits (omega arith) alone (omega arith) in
    let most : digits_value 10 text ≤ max = leb-true _ max fits in
    (sym spelled ∙ ap (λ k. decimal k) value, omega arith, omega arith)

-- a number below a hundred has two digits at most
pub two_digits : (n : ℕ) → n ≤ 32 → length (decimal n) ≤ 2
two_digits n fits = length-decimal-le 2 n (lit< tt) (omega arith) (omega arith)

-- a number's text has no such byte: no blank, no line end, no dot, no dash and no slash
pub All-decimal : (n c : ℕ) → n < 10 ^ 64 → c < 48 → All (λ x. (x == c) ≡ false) (decimal n)
All-decimal n c small other =
    All-from_get_or (λ x. (x == c) ≡ false) (decimal n) 0 λ i h.
    let digit = digit_at (decimal n) i (decimal_is_IsNumeral_wide n small).0.1 h in
    let apart : get_or (decimal n) i 0 ≡ c → ⊥ = λ same. omega (arith, digit.0) in
    ne_eqb _ c apart

-- The digits of a byte.
use Rattle.std.proofs.Common.{◌≡◌, ℕ, ◌+◌, ◌/◌, ◌%◌, ◌<◌, ◌≤◌, List, [], ◌∷◌, ◌++◌, decimal, ap, sym, ◌∙◌, arith, append_assoc}
use Rattle.std.proofs.lemmas.Fmt.{decimal_digit, decimal_step}

pub one_digit : (items : List ℕ) (n : ℕ) → n < 10 → items ++ ((48 + n) ∷ []) ≡ items ++ decimal n
one_digit items n small = ap (λ (d : List ℕ). items ++ d) (sym (decimal_digit n small))

pair_of : (n : ℕ) → 10 ≤ n → n < 100 → (48 + n / 10) ∷ (48 + n % 10) ∷ [] ≡ decimal n
pair_of n some small =
    sym (decimal_step n some (omega arith) ∙ ap (λ (d : List ℕ). d ++ ((48 + n % 10) ∷ [])) (decimal_digit (n / 10) (omega arith)))

pub two_digits : (items : List ℕ) (n : ℕ) → 10 ≤ n → n < 100 → items ++ ((48 + n / 10) ∷ (48 + n % 10) ∷ []) ≡ items ++ decimal n
two_digits items n some small = ap (λ (d : List ℕ). items ++ d) (pair_of n some small)

triple_of : (n : ℕ) → 100 ≤ n → n < 256 → (48 + n / 100) ∷ (48 + n % 100 / 10) ∷ (48 + n % 100 % 10) ∷ [] ≡ decimal n
triple_of n some small =
    let front : n / 10 / 10 ≡ n / 100 = omega arith in
    let tens : n / 10 % 10 ≡ n % 100 / 10 = omega arith in
    let ones : n % 10 ≡ n % 100 % 10 = omega arith in
    sym (decimal_step n (omega arith) (omega arith) ∙ rw (decimal_step (n / 10) (omega arith) (omega arith), decimal_digit (n / 10 / 10) (omega arith), front, tens, ones))

pub three_digits : (items : List ℕ) (n : ℕ) → 100 ≤ n → n < 256 → (items ++ ((48 + n / 100) ∷ [])) ++ ((48 + n % 100 / 10) ∷ (48 + n % 100 % 10) ∷ []) ≡ items ++ decimal n
three_digits items n some small =
    append_assoc items ((48 + n / 100) ∷ []) ((48 + n % 100 / 10) ∷ (48 + n % 100 % 10) ∷ []) ∙ ap (λ (d : List ℕ). items ++ d) (triple_of n some small)

-- Whether a number is among others that ascend.
use Rattle.std.proofs.Common.{◌≡◌, ◌∙◌, ◌==◌, ◌<◌, ◌≤◌, ◌⊎◌, ℕ, Err, List, Ok, Result, ap, arith, get_or, inl, inr, is_ok, length, subst, sym}
use Rattle.std.specs.List.{list_any}
use Rattle.std.specs.List.Sorted.{IsBinarySearchResult, IsNonDecreasing}
use Rattle.std.specs.Ordering.{nat_cmp}
use Rattle.std.proofs.lemmas.Bool.{cases_lt, eq-eqb, ne_eqb}
use Rattle.std.proofs.lemmas.List.{get_or_default}
use Rattle.std.proofs.lemmas.List.Folds.{list_any_at, list_any_none}
use Rattle.std.proofs.lemmas.List.Sorted.{searched}

-- what a binary search found
found_among : (x : ℕ) (xs : List ℕ) (r : Result ℕ ℕ) → IsNonDecreasing xs → IsBinarySearchResult (λ y. nat_cmp y x) xs r → is_ok r ≡ list_any (λ n. n == x) xs
found_among x xs (Ok i) up found =
    let at = searched xs x (Ok i) found (λ j k le lt. up j k 0 le lt) in
    sym (list_any_at (λ n. n == x) xs i 0 at.0 (eq-eqb (get_or xs i 0) x at.1))
found_among x xs (Err i) up found =
    let at = searched xs x (Err i) found (λ j k le lt. up j k 0 le lt) in
    sym (list_any_none (λ n. n == x) xs (λ k d within. ne_eqb (get_or xs k d) x (λ same. by k d within same (cases_lt k i) at.1 at.2)))
  where
    by : (k d : ℕ) → k < length xs → get_or xs k d ≡ x → (k < i) ⊎ (i ≤ k) → ((j : ℕ) → j < i → get_or xs j 0 < x) → ((j : ℕ) → i ≤ j → j < length xs → x < get_or xs j 0) → ⊥
    by k d within same (inl before) below above =
        let at = get_or_default xs k d 0 within in
        let less = below k before in
        absurd (omega arith)
    by k d within same (inr after) below above =
        let at = get_or_default xs k d 0 within in
        let more = above k after within in
        absurd (omega arith)

pub is_among : (x : ℕ) (xs seen set : List ℕ) (r : Result ℕ ℕ) → IsNonDecreasing xs → seen ≡ xs → xs ≡ set → IsBinarySearchResult (λ y. nat_cmp y x) seen r → is_ok r ≡ list_any (λ n. n == x) set
is_among x xs seen set r up same is found = found_among x xs r up (subst (λ ys. IsBinarySearchResult (λ y. nat_cmp y x) ys r) same found) ∙ ap (list_any (λ n. n == x)) is

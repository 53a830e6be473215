-- Lines with as many words as they must have.
use Rattle.std.proofs.Common.{◌++◌, ◌==◌, ◌≡◌, ◌∙◌, ◌∷◌, [], Bool, List, ap, arith, false, length, length-append, not, refl, true, ℕ}
use Rattle.std.specs.List.{list_any}
use Rattle.std.proofs.lemmas.Bool.{and_from, and_left, and_right, eq-eqb, ne_eqb, not_from_false, not_from_true, or_from, or_left, or_right}
use Rattle.std.proofs.lemmas.List.Folds.{list_any-append}
use Rattle.std.proofs.lemmas.List.Splits.{length-slice_split}
use Rattle.query_words.specs.Events.{words_of}
use Rattle.flow_check.specs.Records.{has_fields}

-- none of the words is empty
abbrev pub AreFull : List (List ℕ) → Type 0
AreFull words = list_any (λ w. length w == 0) words ≡ false

-- one more
pub full-more : (words : List (List ℕ)) (w : List ℕ) → AreFull words → (length w ≡ 0 → ⊥) → AreFull (words ++ w ∷ [])
full-more words w full some =
    list_any-append (λ x. length x == 0) words (w ∷ [])
    ∙ or_from (list_any (λ x. length x == 0) words) (list_any (λ x. length x == 0) (w ∷ [])) full (or_from (length w == 0) false (ne_eqb (length w) 0 some) refl)

-- a line with an empty word
pub unfit-empty : (words : List (List ℕ)) (w : List ℕ) (rest : List (List ℕ)) → length w ≡ 0 → has_fields (words ++ w ∷ rest) ≡ false
unfit-empty words w rest none =
    let test : List ℕ → Bool = λ x. length x == 0 in
    let here : list_any test (w ∷ rest) ≡ true = or_left (test w) (list_any test rest) (eq-eqb (length w) 0 none) in
    let some : list_any test (words ++ w ∷ rest) ≡ true = list_any-append test words (w ∷ rest) ∙ or_right (list_any test words) (list_any test (w ∷ rest)) here in
    and_right (length (words ++ w ∷ rest) == 14) (not (list_any test (words ++ w ∷ rest))) (not_from_true (list_any test (words ++ w ∷ rest)) some)

-- a line with another number of words
pub unfit-count : (words : List (List ℕ)) → (length words ≡ 14 → ⊥) → has_fields words ≡ false
unfit-count words other = and_left (length words == 14) (not (list_any (λ w. length w == 0) words)) (ne_eqb (length words) 14 other)

-- a line with more than as many
pub unfit-more : (words : List (List ℕ)) (rest word after line : List ℕ) → words ++ words_of rest ≡ words_of line → words_of rest ≡ word ∷ words_of after
    → length words ≡ 13 → has_fields (words_of line) ≡ false
unfit-more words rest word after line all first count =
    let long = length-append words (words_of rest) in
    let same = ap length all in
    let two = ap length first in
    let some = length-slice_split (λ c. c == 32) after in
    unfit-count (words_of line) (λ fourteen. omega arith)

-- a line with all of them
pub fit : (words : List (List ℕ)) → length words ≡ 14 → AreFull words → has_fields words ≡ true
fit words count full =
    and_from (length words == 14) (not (list_any (λ w. length w == 0) words)) (eq-eqb (length words) 14 count) (not_from_false (list_any (λ w. length w == 0) words) full)

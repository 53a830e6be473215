-- Texts that are compared piece by piece.
use Rattle.std.proofs.Common.{◌≡◌, ◌≢◌, ◌∙◌, ◌++◌, Bool, Bor, List, None, Option, Some, ap, append_assoc, bytes_eq, codes, false, sym, ℕ}
use Rattle.std.specs.Prelude.{MatchOption}
use Rattle.std.proofs.lemmas.List.{append_cancel_left}
use Rattle.std.proofs.lemmas.Slice.Eq.{bytes_eq-Decides}
use Rattle.std.specs.Cmp.Derive.{one_truth}
use Rattle.block_report.specs.Words.{word}

-- ---- what is left after a piece

-- of what is left a blank is taken
pub blank_after : (text piece rest : List ℕ) (r : Option (Bor (List ℕ))) → text ≡ piece ++ rest
    → MatchOption r ((x : List ℕ) → rest ≢ codes " " ++ x) (λ x. rest ≡ codes " " ++ x.now)
    → MatchOption r ((x : List ℕ) → text ≢ piece ++ word x) (λ x. text ≡ piece ++ word x.now)
blank_after text piece rest None is none = λ x e. none x (append_cancel_left piece rest (word x) (sym is ∙ e))
blank_after text piece rest (Some y) is left = is ∙ ap (λ (l : List ℕ). piece ++ l) left

-- of what is left after a blank a word is taken, and a blank
pub word_after : (text piece second rest : List ℕ) (r : Option (Bor (List ℕ))) → text ≡ piece ++ word rest
    → MatchOption r ((x : List ℕ) → rest ≢ second ++ word x) (λ x. rest ≡ second ++ word x.now)
    → MatchOption r ((x : List ℕ) → text ≢ piece ++ word second ++ word x) (λ x. text ≡ piece ++ word second ++ word x.now)
word_after text piece second rest None is none = λ x e.
    none x (append_cancel_left (codes " ") rest (second ++ word x)
    (append_cancel_left piece (word rest) (word (second ++ word x)) (sym is ∙ (e ∙ append_assoc piece (word second) (word x)))))
word_after text piece second rest (Some y) is left = is ∙ (ap (λ (l : List ℕ). piece ++ word l) left ∙ sym (append_assoc piece (word second) (word y.now)))

-- a text that doesn't begin with the piece and a blank is no longer one that does
pub no_word_after : (text piece second : List ℕ) → ((x : List ℕ) → text ≢ piece ++ word x) → (x : List ℕ) → text ≢ piece ++ word second ++ word x
no_word_after text piece second none x e = none (second ++ word x) (e ∙ append_assoc piece (word second) (word x))

-- ---- tests

-- a text is a piece and a word where what is left is the word
pub same_rest : (text piece rest told : List ℕ) (b : Bool) → text ≡ piece ++ word rest → b ≡ bytes_eq rest told → b ≡ bytes_eq text (piece ++ word told)
same_rest text piece rest told b is test =
    let small = bytes_eq-Decides rest told in
    let large = bytes_eq-Decides text (piece ++ word told) in
    test
    ∙ one_truth (bytes_eq rest told) (bytes_eq text (piece ++ word told)) (λ same. large.1 (is ∙ ap (λ (l : List ℕ). piece ++ word l) (small.0 same)))
    (λ same. small.1 (append_cancel_left (codes " ") rest told (append_cancel_left piece (word rest) (word told) (sym is ∙ large.0 same))))

pub no_rest : (text piece told : List ℕ) → ((x : List ℕ) → text ≢ piece ++ word x) → false ≡ bytes_eq text (piece ++ word told)
no_rest text piece told none =
    let large = bytes_eq-Decides text (piece ++ word told) in
    one_truth false (bytes_eq text (piece ++ word told)) (λ same. absurd (cc (same))) (λ same. absurd (none told (large.0 same)))

-- ---- texts of pieces that are known by other names

module _ (text rest told : List ℕ) (r : Bool) where
  pub same_after_word : (a b : List ℕ) → a ≡ b → text ≡ a ++ word rest → r ≡ bytes_eq rest told → r ≡ bytes_eq text (b ++ word told)
  same_after_word a b one is test = same_rest text b rest told r (is ∙ ap (λ (l : List ℕ). l ++ word rest) one) test

  pub same_after_two : (a b c d : List ℕ) → a ≡ b → c ≡ d → text ≡ a ++ word c ++ word rest → r ≡ bytes_eq rest told → r ≡ bytes_eq text (b ++ word d ++ word told)
  same_after_two a b c d one other is test = same_after_word (a ++ word c) (b ++ word d) (ap (λ (l : List ℕ). l ++ word c) one ∙ ap (λ (l : List ℕ). b ++ word l) other) is test

module _ (text told : List ℕ) where
  pub none_after_word : (a b : List ℕ) → a ≡ b → ((x : List ℕ) → text ≢ a ++ word x) → false ≡ bytes_eq text (b ++ word told)
  none_after_word a b one none = no_rest text b told (λ x is. none x (is ∙ ap (λ (l : List ℕ). l ++ word x) (sym one)))

  pub none_after_two : (a b c d : List ℕ) → a ≡ b → c ≡ d → ((x : List ℕ) → text ≢ a ++ word c ++ word x) → false ≡ bytes_eq text (b ++ word d ++ word told)
  none_after_two a b c d one other none = none_after_word (a ++ word c) (b ++ word d) (ap (λ (l : List ℕ). l ++ word c) one ∙ ap (λ (l : List ℕ). b ++ word l) other) none

-- The words that are repeated.
use Rattle.std.proofs.Common.{◌≡◌, ◌∙◌, ◌-◌, Bool, List, ap, bytes_eq, codes, cond, drop, false, length, map, sym, take, true, ℕ}
use Rattle.std.proofs.lemmas.List.{drop-map, length-drop, length-map, take-map}
use Rattle.std.proofs.Math.Seq.{take-length}
use Rattle.query_words.specs.Words.{word_at}
use Rattle.listing_text.specs.Texts.{given_words}

module _ {T : Type 0} (f : T → List ℕ) (before : ℕ) (words : List T) where
  abbrev given : List (List ℕ)
  given = drop before (map f words)

  abbrev last_name : Bool
  last_name = bytes_eq (word_at (map f words) (length words - 1)) (codes "max")

  -- by whether the last pair is `max`
  given_by : (b : Bool) → last_name ≡ b → given_words before (map f words) ≡ cond b (take (length given - 2) given) given
  given_by b is =
      ap (λ (n : ℕ). cond (bytes_eq (word_at (map f words) (n - 1)) (codes "max")) (take (length given - 2) given) given) (length-map words f)
      ∙ ap (λ (x : Bool). cond x (take (length given - 2) given) given) is

  pub given_all : last_name ≡ false → map f (drop before words) ≡ given_words before (map f words)
  given_all is = sym (drop-map f before words) ∙ sym (given_by false is)

  pub given_but_max : last_name ≡ true → map f (take (length (drop before words) - 2) (drop before words)) ≡ given_words before (map f words)
  given_but_max is =
      sym (take-map f (length (drop before words) - 2) (drop before words))
      ∙ (ap (λ (n : ℕ). take (n - 2) (map f (drop before words))) (sym (length-map (drop before words) f))
      ∙ (ap (λ (l : List (List ℕ)). take (length l - 2) l) (sym (drop-map f before words)) ∙ sym (given_by true is)))

  -- the words from there on, as a slice gives them
  slice_is : take (length words - before) (drop before words) ≡ drop before words
  slice_is = ap (λ (n : ℕ). take n (drop before words)) (sym (length-drop before words)) ∙ take-length (drop before words)

  pub slice_all : last_name ≡ false → map f (take (length words - before) (drop before words)) ≡ given_words before (map f words)
  slice_all is = ap (map f) slice_is ∙ given_all is

  pub slice_but_max : (n : ℕ) → n ≡ length words - before - 2 → last_name ≡ true → map f (take n (take (length words - before) (drop before words))) ≡ given_words before (map f words)
  slice_but_max n n_is is =
      ap (λ (k : ℕ). map f (take k (take (length words - before) (drop before words)))) (n_is ∙ ap (λ (k : ℕ). k - 2) (sym (length-drop before words)))
      ∙ (ap (λ (l : List T). map f (take (length (drop before words) - 2) l)) slice_is ∙ given_but_max is)

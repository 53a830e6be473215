-- The words of a line.
use Rattle.std.proofs.Common.{◌≡◌, ◌≤◌, ◌-◌, ◌∷◌, [], Bor, List, ◌<◌, arith, length, map, refl, slice_index_or, suc, sym, ℕ}
use Rattle.std.proofs.lemmas.List.{get_or-map, length-map}
use Rattle.query_words.specs.Words.{word_at}

at_line : (line : List (Bor (List ℕ))) (k m n : ℕ) (name file : List ℕ) (none : Bor (List ℕ)) → m ≡ k → n ≡ suc (suc k) → k < length line
    → (slice_index_or line m none).now ≡ slice_index_or (name ∷ file ∷ map (λ w. w.now) line) n []
at_line line k m n name file none from to within =
    rw (from, to) (sym (get_or-map (λ (w : Bor (List ℕ)). w.now) line k none [] within))

-- from the third on they are those of the line
pub word_at-line : (line : List (Bor (List ℕ))) (n : ℕ) (name file : List ℕ) (none : Bor (List ℕ)) → 3 ≤ n → n ≤ length (name ∷ file ∷ map (λ w. w.now) line)
    → (slice_index_or line (n - 3) none).now ≡ word_at (name ∷ file ∷ map (λ w. w.now) line) n
word_at-line line n name file none least most =
    let len = length-map line (λ (w : Bor (List ℕ)). w.now) in
    at_line line (n - 3) (n - 3) (n - 1) name file none refl (omega arith) (omega arith)

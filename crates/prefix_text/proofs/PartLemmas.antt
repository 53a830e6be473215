-- The two parts of a text round a separator.
use Rattle.std.proofs.Common.{◌≡◌, ℕ, ◌+◌, ◌<◌, ◌==◌, false, List, [], ◌∷◌, ◌++◌, length, get_or, take, drop, Some, All, refl, sym, ap, ◌∙◌, arith, lt-ltb, eqb-true, add-one, take_at, drop_at, take-append-drop, length-append, length-drop, eq-eqb, append_assoc}
use Rattle.std.proofs.Math.Seq.{drop-cons, get_or-append_seam}
use Rattle.std.proofs.lemmas.Bool.{cond-true}
use Rattle.std.proofs.lemmas.List.{get_or_append_left}
use Rattle.std.proofs.lemmas.List.Quantifiers.{position-Some}
use Rattle.std.proofs.lemmas.List.Sums.{position_or_len_is}
use Rattle.std.specs.List.{position_or_len, position, before_first, after_first}

-- the first place of a separator that does not stand in the front
position_or_len-separator : (c : ℕ) (front rest : List ℕ) → All (λ x. (x == c) ≡ false) front → position_or_len (λ x. x == c) (front ++ c ∷ rest) ≡ length front
position_or_len-separator c front rest apart =
    position_or_len_is (λ x. x == c) (front ++ c ∷ rest) (length front) 0
    (omega (arith, length-append front (c ∷ rest)))
    (λ k h. rw (get_or_append_left front (c ∷ rest) 0 k h) (apart k 0 h))
    (λ h. rw (get_or-append_seam front c rest 0) (eq-eqb c c refl))

pub before_first-separator : (c : ℕ) (front rest : List ℕ) → All (λ x. (x == c) ≡ false) front → before_first (λ x. x == c) (front ++ c ∷ rest) ≡ front
before_first-separator c front rest apart = take_at front (c ∷ rest) _ (sym (position_or_len-separator c front rest apart))

pub after_first-separator : (c : ℕ) (front rest : List ℕ) → All (λ x. (x == c) ≡ false) front → after_first (λ x. x == c) (front ++ c ∷ rest) ≡ rest
after_first-separator c front rest apart =
    let at = position_or_len (λ x. x == c) (front ++ c ∷ rest) in
    let through : length (front ++ c ∷ []) ≡ at + 1 = omega (arith, length-append front (c ∷ []), position_or_len-separator c front rest apart) in
    ap (drop (at + 1)) (sym (append_assoc front (c ∷ []) rest)) ∙ drop_at (front ++ c ∷ []) rest (at + 1) through

-- where something stands after the separator, the parts joined by it give the text back
pub before_first-after_first : (c : ℕ) (text : List ℕ) → 0 < length (after_first (λ x. x == c) text) → text ≡ before_first (λ x. x == c) text ++ c ∷ after_first (λ x. x == c) text
before_first-after_first c text some =
    let p = λ (x : ℕ). x == c in
    let at = position_or_len p text in
    let within : at < length text = omega (arith, length-drop (at + 1) text) in
    let found : position p text ≡ Some at = cond-true _ _ _ (lt-ltb at (length text) within) in
    let here : get_or text at 0 ≡ c = eqb-true (get_or text at 0) c (position-Some p text at 0 found).1 in
    sym (take-append-drop at text) ∙ ap (λ t. take at text ++ t) (drop-cons text at 0 within ∙ rw (here, add-one) refl)

-- Headers in the boxes of a list.
use Rattle.std.proofs.Common.{◌≡◌, ℕ, ◌<◌, Bool, true, false, Option, None, Some, List, refl, ap, sym, subst, ◌∙◌, length, slice_get, get_or}
use Rattle.std.proofs.lemmas.List.Folds.{list_any_none, list_any_at}
use Rattle.std.proofs.lemmas.Option.{get_or_from_slice_get, slice_get-get_or, slice_get_within}
use Rattle.std.specs.List.{list_any}
use Rattle.std.specs.Option.{IsSomeAnd}
use Rattle.vpc_base.specs.declared.headers.Header.{Header}
use Rattle.header_boxes.specs.declared.boxes.Box5.{Box5}
use Rattle.header_boxes.specs.Boxes.{holds}
use Rattle.box_survey.specs.Survey.{HoldsAt}

-- the box of a number below the length
pub held_at : (boxes : List Box5) (i : ℕ) (d : Box5) (h : Header) → i < length boxes → holds h (get_or boxes i d) ≡ true → HoldsAt boxes i h
held_at boxes i d h lt t = subst (λ o. IsSomeAnd o (λ b. holds h b ≡ true)) (sym (slice_get-get_or boxes i d lt)) t

-- a header in none of the numbered boxes is in none
pub none_holds : (boxes : List Box5) (h : Header) → ((i : ℕ) → HoldsAt boxes i h → ⊥) → list_any (holds h) boxes ≡ false
none_holds boxes h none = list_any_none (holds h) boxes (λ k d lt. by k d lt (holds h (get_or boxes k d)) refl)
  where
    by : (k : ℕ) (d : Box5) → k < length boxes → (b : Bool) → holds h (get_or boxes k d) ≡ b → holds h (get_or boxes k d) ≡ false
    by k d lt true e = absurd (none k (held_at boxes k d h lt e))
    by k d lt false e = e

some_index : (boxes : List Box5) (i : ℕ) (h : Header) → (o : Option Box5) → slice_get boxes i ≡ o → IsSomeAnd o (λ b. holds h b ≡ true) → list_any (holds h) boxes ≡ true
some_index boxes i h None e held = absurd held
some_index boxes i h (Some b) e held =
    list_any_at (holds h) boxes i b (slice_get_within boxes i b e) (ap (holds h) (get_or_from_slice_get boxes i b b e) ∙ held)

pub any_holds : (boxes : List Box5) (i : ℕ) (h : Header) → HoldsAt boxes i h → list_any (holds h) boxes ≡ true
any_holds boxes i h held = some_index boxes i h (slice_get boxes i) refl held

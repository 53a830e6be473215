-- Requests that have to be in a row.
use Rattle.std.specs.Prelude.{◌≡◌, ◌≢◌, ◌⊎◌, IfSome, IsSomeAnd, List, None, Option, Some, true, ℕ}
use Rattle.box_gather.specs.Over.{is_in}
use Rattle.header_boxes.specs.Boxes.{holds}
use Rattle.header_boxes.specs.declared.boxes.Box5.{Box5}
use Rattle.vpc_base.specs.Header.{IsBefore}
use Rattle.vpc_base.specs.declared.headers.Header.{Header}

-- it lies in a box, and something is told of it
abbrev pub IsToldIn : (Header → Option (List ℕ)) → Box5 → Header → Type 0
IsToldIn told part h = (holds h part ≡ true) × (told h ≢ None)

-- it is asked for, and something is told of it
abbrev pub IsDue : (Header → Option (List ℕ)) → List Box5 → Header → Type 0
IsDue told boxes h = (is_in boxes h ≡ true) × (told h ≢ None)

-- the first of what was found and of the headers of a gap that lie in one more box and are told something, if there is one
pub record IsFirstWith (told : Header → Option (List ℕ)) (part gap : Box5) (found result : Option Header) : Type 0 where
  pub there : IfSome result (λ h. (found ≡ Some h) ⊎ ((holds h gap ≡ true) × IsToldIn told part h))
  pub kept : IfSome found (λ h. IsSomeAnd result (λ k. ¬ IsBefore h k))
  pub first : (h : Header) → holds h gap ≡ true → IsToldIn told part h → IsSomeAnd result (λ k. ¬ IsBefore h k)

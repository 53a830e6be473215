-- Headers that matter, in a gap.
use Rattle.std.proofs.Common.{◌≡◌, ◌∙◌, ◌&&◌, sym, true}
use Rattle.std.proofs.lemmas.Bool.{and_from}
use Rattle.std.specs.Cmp.{first_so, second_so}
use Rattle.header_boxes.proofs.Held.{holds_low, low_under}
use Rattle.header_boxes.proofs.Order.{not_before_if_under}
use Rattle.header_boxes.specs.Boxes.{IsValid, holds, low_of}
use Rattle.header_boxes.specs.declared.boxes.Box5.{Box5}
use Rattle.vpc_base.specs.declared.headers.Header.{Header}
use Rattle.box_survey.specs.Survey.{IsFirstIn, IsHeldIn}

-- the low corner of what a box and a gap have in common
pub first_in_common : (whole gap common : Box5) → IsValid common → ((h : Header) → holds h common ≡ (holds h whole && holds h gap)) → IsFirstIn (IsHeldIn whole) gap (low_of common)
first_in_common whole gap common valid holds_both = record {
  inside = second_so (holds (low_of common) whole) (holds (low_of common) gap) low_held;
  matter = first_so (holds (low_of common) whole) (holds (low_of common) gap) low_held;
  first = λ k inside before held.
      not_before_if_under (low_of common) k (low_under k common (holds_both k ∙ and_from (holds k whole) (holds k gap) held inside)) before;
}
  where
    low_held : (holds (low_of common) whole && holds (low_of common) gap) ≡ true
    low_held = sym (holds_both (low_of common)) ∙ holds_low common valid

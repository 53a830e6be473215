-- Appliances at interfaces, by their numbers.
use Rattle.std.proofs.Common.{◌≡◌, ◌∙◌, ◌<◌, ◌==◌, List, None, Option, Some, ap, arith, false, inl, inr, length, refl, sym, true, ℕ}
use Rattle.std.specs.List.{position_or_len, slice_get}
use Rattle.std.specs.Prelude.{if◌then◌else◌, option_map}
use Rattle.std.proofs.lemmas.Bool.Decides.{nat_tests}
use Rattle.std.proofs.lemmas.Iterator.Adapters.{position_from-zero}
use Rattle.std.proofs.lemmas.List.Folds.{find_at}
use Rattle.std.proofs.lemmas.Option.{slice_get_cases}
use Rattle.vpc_base.proofs.Positions.{list_any-position, missing_number}
use Rattle.appliances.specs.Passing.{boxes_of, number_of, passes_at}
use Rattle.header_boxes.specs.declared.boxes.Box5.{Box5}
use Rattle.reference_check.proofs.Maps.{found_number}
use Rattle.vpc_laws.specs.Types.{Description, EniNo, Header}
use Rattle.vpc_model.specs.Appliances.{Appliances, boxes_at}
use Rattle.vpc_model.specs.Lookup.{has_address, interface_at}
use Rattle.vpc_model.specs.Step.Interface.{forwarded, taken_in}
use Rattle.vpc_model.specs.Step.Words.{arrive, go, stop}
use Rattle.vpc_model.specs.declared.places.End.TheVariants as ends
use Rattle.vpc_model.specs.declared.places.Place.TheVariants as places
use Rattle.vpc_model.specs.declared.stops.Stop.TheVariants as stops

-- an interface without a number has no boxes
pub boxes_at-none : (rows : Appliances) (i : EniNo) → None ≡ number_of rows i → boxes_at rows i ≡ None
boxes_at-none rows i h =
    let missing = missing_number (λ a. a.0.0 == i.0) rows (position_from-zero (λ a. a.0.0 == i.0) rows ∙ sym h) in
    let number = position_or_len (λ a. a.0.0 == i.0) rows in
    elim ((slice_get_cases rows number).1) [
      | inl there ↦ let any = list_any-position (λ a. a.0.0 == i.0) rows in let within = there.1 in absurd (grind (arith, nat_tests))
      | inr past ↦ ap (option_map (λ a. a.1)) (find_at (λ a. a.0.0 == i.0) rows ∙ past.1)
    ]

-- an interface with a number has the boxes of that row
pub boxes_at-number : (rows : Appliances) (i : EniNo) (k : ℕ) → Some k ≡ number_of rows i → (k < length rows) × (boxes_at rows i ≡ Some (boxes_of (slice_get rows k)))
boxes_at-number rows i k h =
    let found = found_number (λ a. a.0.0 == i.0) rows k (position_from-zero (λ a. a.0.0 == i.0) rows ∙ sym h) in
    let row = find_at (λ a. a.0.0 == i.0) rows ∙ ap (slice_get rows) found.number in (
      found.within,
      elim ((slice_get_cases rows k).1) [
        | inl there ↦ ap (option_map (λ a. a.1)) (row ∙ there.2) ∙ sym (ap (λ o. Some (boxes_of o)) there.2)
        | inr past ↦ let within = found.within in let beyond = past.0 in absurd (omega arith)
      ],
    )

-- ---- what becomes of a packet at an interface

taken-by : (d : Description) (rows : Appliances) (i : EniNo) (h : Header) (o : Option (List Box5)) → boxes_at rows i ≡ o
    → taken_in d rows i h ≡ (elim o [ None ↦ arrive (ends.Interface i) | Some boxes ↦ if has_address (interface_at d i) h.dst then arrive (ends.Interface i) else forwarded i h boxes ])
taken-by d rows i h o e =
    ap (λ (x : Option (List Box5)). elim x [ None ↦ arrive (ends.Interface i) | Some boxes ↦ if has_address (interface_at d i) h.dst then arrive (ends.Interface i) else forwarded i h boxes ]) e

pub taken_in-none : (d : Description) (rows : Appliances) (i : EniNo) (h : Header) → None ≡ number_of rows i → arrive (ends.Interface i) ≡ taken_in d rows i h
taken_in-none d rows i h none = sym (taken-by d rows i h None (boxes_at-none rows i none))

pub taken_in-own : (d : Description) (rows : Appliances) (i : EniNo) (h : Header) (k : ℕ) → Some k ≡ number_of rows i → has_address (interface_at d i) h.dst ≡ true
    → arrive (ends.Interface i) ≡ taken_in d rows i h
taken_in-own d rows i h k number own = sym (taken-by d rows i h _ (boxes_at-number rows i k number).1 ∙ rw own refl)

pub taken_in-passes : (d : Description) (rows : Appliances) (i : EniNo) (h : Header) (k : ℕ) → Some k ≡ number_of rows i → has_address (interface_at d i) h.dst ≡ false
    → passes_at rows k h ≡ true → go (places.OutOf i) h ≡ taken_in d rows i h
taken_in-passes d rows i h k number other passed = sym (taken-by d rows i h _ (boxes_at-number rows i k number).1 ∙ rw (other, passed) refl)

pub taken_in-drops : (d : Description) (rows : Appliances) (i : EniNo) (h : Header) (k : ℕ) → Some k ≡ number_of rows i → has_address (interface_at d i) h.dst ≡ false
    → passes_at rows k h ≡ false → stop (stops.ApplianceDrop i) ≡ taken_in d rows i h
taken_in-drops d rows i h k number other dropped = sym (taken-by d rows i h _ (boxes_at-number rows i k number).1 ∙ rw (other, dropped) refl)

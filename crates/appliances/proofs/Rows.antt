-- The appliances at interfaces of a description, by their numbers.
use Rattle.std.proofs.Common.{◌≡◌, ◌∙◌, ◌<◌, ◌^◌, List, None, Option, Some, ap, arith, false, filter, length, map, refl, ℕ}
use Rattle.std.specs.List.{slice_get}
use Rattle.std.specs.Prelude.{option_map}
use Rattle.std.proofs.lemmas.List.{length-map}
use Rattle.std.proofs.lemmas.Option.{slice_get-map}
use Rattle.vpc_base.proofs.Members.{length-filter-le}
use Rattle.header_boxes.specs.declared.boxes.Box5.{Box5}
use Rattle.vpc_laws.proofs.Lengths.{accepted_has_short_lists}
use Rattle.vpc_laws.specs.Types.{Appliance, ApplianceKind, Description, EniNo, Header}
use Rattle.vpc_model.specs.Accepted.{IsAccepted}
use Rattle.vpc_model.specs.Appliances.{Appliances, appliances_of, boxes_of_kind, is_at_interface, passes}
use Rattle.vpc_model.specs.Lookup.{eni_no}
use Rattle.appliances.specs.Passing.{boxes_of, kind_passes_at, passes_at}

-- an accepted description has few
pub length-appliances : (d : Description) (rows : Appliances) → IsAccepted d → rows ≡ appliances_of d → length rows < 2 ^ 32
length-appliances d rows accepted is =
    let lists = accepted_has_short_lists d accepted in
    let short = lists.appliances in
    let fewer = length-filter-le (λ (a : Appliance). is_at_interface a.at) d.appliances in
    let same = ap length is ∙ length-map (filter (λ (a : Appliance). is_at_interface a.at) d.appliances) (λ a. (eni_no d a.id, boxes_of_kind a.kind)) in
    omega arith

-- a kind passes what the boxes of the appliance hold
pub passes_at-appliances : (d : Description) (kinds : List ApplianceKind) (rows : Appliances) (k : ℕ) (h : Header)
    → kinds ≡ map (λ a. a.kind) (filter (λ a. is_at_interface a.at) d.appliances) → rows ≡ appliances_of d → kind_passes_at kinds k h ≡ passes_at rows k h
passes_at-appliances d kinds rows k h named is =
    let forwarding : List Appliance = filter (λ (a : Appliance). is_at_interface a.at) d.appliances in
    let kind = ap (λ l. slice_get l k) named ∙ slice_get-map (λ (a : Appliance). a.kind) forwarding k in
    let row = ap (λ l. slice_get l k) is ∙ slice_get-map (λ (a : Appliance). (eni_no d a.id, boxes_of_kind a.kind)) forwarding k in
    both (slice_get forwarding k) (slice_get kinds k) (slice_get rows k) kind row
  where
    both : (a : Option Appliance) (kind : Option ApplianceKind) (row : Option (EniNo × List Box5))
        → kind ≡ option_map (λ (a : Appliance). a.kind) a → row ≡ option_map (λ (a : Appliance). (eni_no d a.id, boxes_of_kind a.kind)) a
        → (elim kind [ None ↦ false | Some kind ↦ passes (boxes_of_kind kind) h ]) ≡ passes (boxes_of row) h
    both None kind row e f = rw (e, f) refl
    both (Some a) kind row e f = rw (e, f) refl

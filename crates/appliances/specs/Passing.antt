-- Appliances by their numbers.
use Rattle.std.specs.Prelude.{◌==◌, [], Bool, List, None, Option, Some, false, slice_get, ℕ}
use Rattle.std.specs.List.{position_from}
use Rattle.header_boxes.specs.declared.boxes.Box5.{Box5}
use Rattle.vpc_base.specs.declared.headers.Header.{Header}
use Rattle.vpc_model.specs.declared.numbers.EniNo.{EniNo}
use Rattle.vpc_model.specs.declared.rows.ApplianceKind.{ApplianceKind}
use Rattle.vpc_model.specs.declared.rows.Description.{Description}
use Rattle.vpc_model.specs.Appliances.{Appliances, appliances_of, boxes_of_kind, passes}
use Rattle.vpc_model.specs.Cuts.{all_cuts, cuts_of_box, standing_cuts}
use Rattle.cut_laws.specs.Dividing.{Divide}

-- the number of the first appliance at an interface
abbrev pub number_of : Appliances → EniNo → Option ℕ
number_of appliances i = position_from (λ a. a.0.0 == i.0) 0 appliances

-- the boxes of an appliance
abbrev pub boxes_of : Option (EniNo × List Box5) → List Box5
boxes_of None = []
boxes_of (Some a) = a.1

-- the appliance of this number passes the header
abbrev pub passes_at : Appliances → ℕ → Header → Bool
passes_at appliances k h = passes (boxes_of (slice_get appliances k)) h

-- the kind of this number passes the header
abbrev pub kind_passes_at : List ApplianceKind → ℕ → Header → Bool
kind_passes_at kinds k h =
    elim (slice_get kinds k) [
      | None ↦ false
      | Some kind ↦ passes (boxes_of_kind kind) h
    ]

-- the boxes of a description's appliances cut by its standing cuts
abbrev pub BoxesAreStanding : Type 0
BoxesAreStanding = (d : Description) (k : ℕ) → Divide (all_cuts cuts_of_box (boxes_of (slice_get (appliances_of d) k))) (standing_cuts d)

-- Requests that come to one interface by the same places, toward whatever end.
use Rattle.std.specs.Prelude.{◌≡◌, ◌&&◌, [], if◌then◌else◌, Bool, None, Option, Some, not, true}
use Rattle.vpc_base.specs.Cuts.{AreAmong, CutLists}
use Rattle.vpc_base.specs.declared.headers.Dir.TheVariants as dirs
use Rattle.vpc_base.specs.declared.headers.Header.{Header}
use Rattle.vpc_base.specs.declared.headers.Label.TheVariants as labels
use Rattle.header_boxes.specs.Boxes.{holds, low_of}
use Rattle.header_boxes.specs.Cells.{IsAligned}
use Rattle.header_boxes.specs.declared.boxes.Box5.{Box5}
use Rattle.box_images.specs.Bodies.{IsBody}
use Rattle.box_images.specs.Images.{IsValidImage, header_at}
use Rattle.box_steps.specs.Passing.{is_passed}
use Rattle.vpc_laws.specs.Types.{Description, End, EniNo, Phase, Stop}
use Rattle.vpc_model.specs.Appliances.{Appliances}
use Rattle.vpc_model.specs.Connections.{passing_of}
use Rattle.vpc_model.specs.Lookup.{has_address, interface_at}
use Rattle.vpc_model.specs.Sound.{is_eni}
use Rattle.vpc_model.specs.Verdict.{Homes}
use Rattle.vpc_model.specs.declared.places.End.TheVariants as ends
use Rattle.box_walk.specs.Journeys.{open_cuts, reached_of}
use Rattle.box_walk.specs.declared.arriving.Arrivals.{Arrivals}

-- the interface lets an open in: it is attached, the destination is its own where that is checked, and its groups allow it
abbrev pub lets_in : Description → EniNo → Header → Bool
lets_in d e h =
    let row = interface_at d e in
    not row.idle && (not (row.checked && not (has_address row h.dst)) && is_passed (passing_of d labels.Opening e dirs.Inward h []))

-- the interface is reached unless something stops the reply
abbrev pub end_unless : EniNo → Option (Phase × Stop) → Option End
end_unless e None = Some (ends.Interface e)
end_unless e (Some told) = None

-- for a body of the sides: which end requests reach goes by what the interface lets in
pub record AreArrivals (d : Description) (a : Appliances) (homes : Homes) (sides : Box5) (x : Arrivals) : Type 0 where
  pub reached : (h : Header) → holds h x.header.part ≡ true
      → reached_of d a homes None h ≡ (if lets_in d x.end (header_at x.header h) then end_unless x.end x.back else None)
  pub end : is_eni d x.end ≡ true
  pub valid : IsValidImage x.header
  pub body : IsBody x.header.part sides
  pub aligned : (cuts : CutLists) → AreAmong (open_cuts d a homes.start (low_of sides)) cuts → IsAligned cuts x.header.part sides

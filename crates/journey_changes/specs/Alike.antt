-- Requests that come to interfaces which let in the same in both networks.
use Rattle.std.specs.Prelude.{◌≡◌, if◌then◌else◌, ◌∷◌, [], Bool, List, None, false, true, ℕ}
use Rattle.vpc_base.specs.Cuts.{AreAmong, CutLists}
use Rattle.vpc_base.specs.Header.{IsHeader}
use Rattle.vpc_base.specs.declared.headers.Header.{Header}
use Rattle.header_boxes.specs.Boxes.{holds, low_of}
use Rattle.header_boxes.specs.Cells.{IsAligned}
use Rattle.header_boxes.specs.declared.boxes.Box5.{Box5}
use Rattle.box_images.specs.Bodies.{IsBody}
use Rattle.box_images.specs.Images.{IsValidImage, header_at}
use Rattle.box_walk.specs.Arriving.{end_unless, lets_in}
use Rattle.box_walk.specs.declared.arriving.Arrivals.{Arrivals}
use Rattle.vpc_laws.specs.Types.{Description, EniNo, Interface}
use Rattle.vpc_model.specs.Sound.{is_eni}
use Rattle.journey_changes.specs.Sent.{Sent, near, reached}

-- for a body of the sides: which end is reached goes by what one interface lets in
pub record ComeTo (s : Sent) (sides : Box5) (x : Arrivals) : Type 0 where
  pub reached : (h : Header) → holds h x.header.part ≡ true
      → reached s h ≡ (if lets_in s.network x.end (header_at x.header h) then end_unless x.end x.back else None)
  pub end : is_eni s.network x.end ≡ true
  pub valid : IsValidImage x.header
  pub body : IsBody x.header.part sides
  pub aligned : (cuts : CutLists) → AreAmong (near s (low_of sides)) cuts → IsAligned cuts x.header.part sides

-- an interface of each network lets in the same
abbrev pub LetInAlike : Description → EniNo → Description → EniNo → Type 0
LetInAlike d e c i = (h : Header) → IsHeader h → lets_in d e h ≡ lets_in c i h

-- an interface without groups
abbrev pub has_groups : List (List ℕ) → Bool
has_groups [] = false
has_groups (g ∷ gs) = true

-- two rows ask the same of what comes in, apart from what rules say
pub record AskAlike (one other : Interface) : Type 0 where
  pub idle : one.idle ≡ other.idle
  pub checked : one.checked ≡ other.checked
  pub addresses : one.addresses ≡ other.addresses
  pub prefixes : one.prefixes ≡ other.prefixes
  pub groups : has_groups one.groups ≡ has_groups other.groups

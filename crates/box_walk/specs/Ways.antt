-- The way of requests to an interface, as far as all of them pass the same places.
use Rattle.std.specs.Prelude.{◌≡◌, ◌<◌, Bool, IfSome, List, Option, false, true, ℕ}
use Rattle.vpc_base.specs.Cuts.{AreAmong, CutLists}
use Rattle.vpc_base.specs.declared.headers.Header.{Header}
use Rattle.vpc_base.specs.declared.headers.Label.TheVariants as labels
use Rattle.header_boxes.specs.Boxes.{holds, low_of}
use Rattle.header_boxes.specs.Cells.{IsAligned}
use Rattle.box_images.specs.Bodies.{IsBody}
use Rattle.box_images.specs.declared.images.Part.{Part}
use Rattle.box_steps.specs.Moments.{CanRemember, IsBoxMoment, IsLetIn, moment_at}
use Rattle.box_steps.specs.declared.moment.BoxMoment.{BoxMoment}
use Rattle.vpc_laws.specs.Types.{Description, End, EniNo, Hop, Phase, Place, Stop}
use Rattle.vpc_laws.specs.Walk.{places_of}
use Rattle.vpc_model.specs.Appliances.{Appliances, appliances_of}
use Rattle.vpc_model.specs.Near.{cuts_of_hops}
use Rattle.vpc_model.specs.Verdict.{Homes}
use Rattle.vpc_model.specs.Walk.{Walk, walk_of}
use Rattle.vpc_model.specs.declared.places.Place.TheVariants as places
use Rattle.box_walk.specs.Rests.{is_among, rest_of}
use Rattle.box_walk.specs.Told.{request_at, word_of_arrival}

-- ---- up to the interface

-- a walk goes on from there by its last places: those before it are these, and n are left
abbrev pub GoesOn : Description → Appliances → ℕ → List Place → Header → BoxMoment → Walk → Type 0
GoesOn d a n passed h m w =
    (hops : List Hop) × ((places_of hops ≡ passed) × (w ≡ rest_of d a labels.Opening n hops (moment_at h m)))

-- opens that come to an interface, before its groups are asked: a body of those of an earlier moment, whose walks have passed other places
pub record IsFollowedTo (d : Description) (a : Appliances) (i : EniNo) (n : ℕ) (visited : List Place) (old new : BoxMoment) : Type 0 where
  pub left : ℕ
  pub passed : List Place
  pub walk : (h : Header) → holds h new.header.part ≡ true → (hops : List Hop) → places_of hops ≡ visited
      → GoesOn d a left passed h new (rest_of d a labels.Opening n hops (moment_at h old))
  pub body : IsBody new.header.part old.header.part
  pub aligned : (cuts : CutLists) (hops : List Hop) → places_of hops ≡ visited
      → AreAmong (cuts_of_hops d (rest_of d a labels.Opening n hops (moment_at (low_of old.header.part) old)).hops) cuts
      → IsAligned cuts new.header.part old.header.part
  pub place : new.place ≡ places.Into i
  pub moment : IsBoxMoment d labels.Opening new
  pub room : CanRemember labels.Opening new
  pub fresh : is_among passed new.place ≡ false
  pub some : 0 < left

-- requests from a start that have come so far
pub record HaveCome (d : Description) (a : Appliances) (start : End) (m : BoxMoment) : Type 0 where
  pub left : ℕ
  pub passed : List Place
  pub walk : (h : Header) → holds h m.header.part ≡ true → GoesOn d a left passed h m (walk_of d a labels.Opening (request_at start h))
  pub moment : IsBoxMoment d labels.Opening m
  pub room : CanRemember labels.Opening m
  pub fresh : is_among passed m.place ≡ false
  pub some : 0 < left

-- to this interface, a body of all those of an earlier moment
pub record HaveComeTo (d : Description) (a : Appliances) (start : End) (old new : BoxMoment) (i : EniNo) : Type 0 where
  pub come : HaveCome d a start new
  pub place : new.place ≡ places.Into i
  pub body : IsBody new.header.part old.header.part
  pub aligned : (cuts : CutLists) → AreAmong (cuts_of_hops d (walk_of d a labels.Opening (moment_at (low_of old.header.part) old)).hops) cuts
      → IsAligned cuts new.header.part old.header.part

-- ---- and back

-- what stops the replies of those that the interface lets in, for a body of them
pub record TellsReturns (d : Description) (a : Appliances) (homes : Homes) (goal : End) (m : BoxMoment) (x : Part (Option (Phase × Stop))) : Type 0 where
  pub arrived : BoxMoment
  pub let_in : IsLetIn d a m arrived
  pub told : (h : Header) → holds h x.body ≡ true → x.told ≡ word_of_arrival d a homes goal goal arrived h

-- ---- both

pub record IsKnownWay (d : Description) (a : Appliances) (homes : Homes) (goal : End) (before : BoxMoment) (back : Option (Part (Option (Phase × Stop)))) : Type 0 where
  pub come : HaveCome d a homes.start before
  pub returns : IfSome back (TellsReturns d a homes goal before)

-- the way between two ends, if it is known
abbrev pub IsWay : Description → Homes → End → Bool → BoxMoment → Option (Part (Option (Phase × Stop))) → Type 0
IsWay d homes goal known before back = known ≡ true → IsKnownWay d (appliances_of d) homes goal before back

-- What packets pass at an interface on their way out or in: that it is attached, its source/destination check, its groups.
use Rattle.std.specs.Prelude.{◌≡◌, ◌&&◌, ◌++◌, ◌∷◌, [], if◌then◌else◌, Bool, List, None, Option, Some, is_some, map, not, ℕ}
use Rattle.vpc_base.specs.Cuts.{CutLists}
use Rattle.vpc_base.specs.declared.headers.Dir.TheVariants as dirs
use Rattle.vpc_base.specs.declared.headers.Label.TheVariants as labels
use Rattle.box_images.specs.Answers.{Answers}
use Rattle.box_images.specs.declared.images.Part.{Part}
use Rattle.conn_tracking.specs.declared.on_images.ImageEntry.{ImageEntry}
use Rattle.vpc_laws.specs.Types.{Description, Dir, EniNo, Header, Label, Place, Stop}
use Rattle.vpc_model.specs.Appliances.{Appliances}
use Rattle.vpc_model.specs.Connections.{Passing, passing_of}
use Rattle.vpc_model.specs.Lookup.{has_address, interface_at, subnet_of}
use Rattle.vpc_model.specs.Step.Interface.{taken_in}
use Rattle.vpc_model.specs.Step.Words.{Moment, Next, go}
use Rattle.vpc_model.specs.declared.places.Came.TheVariants as from
use Rattle.vpc_model.specs.declared.places.Place.TheVariants as places
use Rattle.vpc_model.specs.declared.stops.Stop.TheVariants as stops
use Rattle.box_steps.specs.Hosts.{own_address}
use Rattle.box_steps.specs.Moments.{IsNarrowed, comes_to, entry_over, image_over, moment_at, nat_over}
use Rattle.box_steps.specs.declared.moment.BoxMoment.{BoxMoment}
use Rattle.box_steps.specs.declared.onward.Onward.{Onward}

-- ---- at a header

-- where packets pass the interface in this direction
abbrev pub passed_at : Dir → EniNo → Place
passed_at dirs.Outward i = places.OutOf i
passed_at dirs.Inward i = places.Into i

-- where it is another one
abbrev pub check_stop : Dir → EniNo → Stop
check_stop dirs.Outward i = stops.SourceCheck i
check_stop dirs.Inward i = stops.DestCheck i

-- where the groups refuse the packet
abbrev pub groups_stop : Dir → EniNo → Stop
groups_stop dirs.Outward i = stops.GroupsOut i
groups_stop dirs.Inward i = stops.GroupsIn i

-- the groups let the packet pass
abbrev pub is_passed : Passing → Bool
is_passed p = is_some p.by

abbrev pub passes_groups : Description → Label → EniNo → Dir → Moment → Bool
passes_groups d label i dir m = is_passed (passing_of d label i dir m.header m.conns)

-- what they stop
abbrev pub groups_barrier : Description → Label → EniNo → Dir → Moment → Option Stop
groups_barrier d label i dir m = if passes_groups d label i dir m then None else Some (groups_stop dir i)

-- what the check stops, or else they do
abbrev pub checked_barrier : Description → Label → EniNo → Dir → Moment → Option Stop
checked_barrier d label i dir m =
    let e = interface_at d i in
    if e.checked && not (has_address e (own_address dir m.header)) then Some (check_stop dir i) else groups_barrier d label i dir m

-- what stops the packet at the interface, if anything does
abbrev pub barrier : Description → Label → EniNo → Dir → Moment → Option Stop
barrier d label i dir m = let e = interface_at d i in if e.idle then Some (stops.Detached i) else checked_barrier d label i dir m

-- and what comes next if nothing does
abbrev pub past_interface : Description → Appliances → EniNo → Dir → Header → Next
past_interface d appliances i dirs.Outward h = go (places.Router (subnet_of d i) (from.Host i)) h
past_interface d appliances i dirs.Inward h = taken_in d appliances i h

-- ---- at all headers of a body

-- what is told of all packets of a body, to which the moment is narrowed
pub record TellsOf {T : Type 0} (divide_enough : CutLists → Type 0) (answer : Moment → T) (old new : BoxMoment) (told : T) : Type 0 where
  pub narrowed : IsNarrowed new.header.part old new
  pub answers : Answers divide_enough (λ h. answer (moment_at h old)) old.header.part (record { body = new.header.part; told = told })

-- an open that passes groups leaves an entry behind
abbrev pub entries_left : Label → List (List ℕ) → ImageEntry → List ImageEntry
entries_left labels.Answer groups e = []
entries_left labels.Opening [] e = []
entries_left labels.Opening (_ ∷ _) e = e ∷ []

-- at the interface
abbrev pub left_at : Description → Label → EniNo → Dir → BoxMoment → List ImageEntry
left_at d label i dir m = let row = interface_at d i in entries_left label row.groups (record { eni = i; dir = dir; header = m.header })

-- packets of the body have passed the interface, and come to their next place
pub record HasPassed (d : Description) (label : Label) (i : EniNo) (dir : Dir) (x : Part Onward) (old new : BoxMoment) (onward : Onward) : Type 0 where
  pub told : onward ≡ x.told
  pub place : new.place ≡ comes_to old.place x.told
  pub header : new.header ≡ image_over x.body old.header
  pub conns : new.conns.items ≡ map (entry_over x.body) old.conns.items ++ left_at d label i dir new
  pub nats : new.nats.items ≡ map (nat_over x.body) old.nats.items

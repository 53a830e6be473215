-- Packets at a place, one for each header of a part of the request's box, with what the network remembers of each.
use Rattle.std.specs.Prelude.{◌≡◌, ◌≤◌, ◌<◌, ◌+◌, ◌⊎◌, ◌==◌, ◌&&◌, ◌∷◌, [], All, Bool, List, false, length, map, true, ℕ}
use Rattle.std.specs.List.{list_any}
use Rattle.vpc_base.specs.Terms.{CutLists, same_dir}
use Rattle.vpc_base.specs.declared.headers.Label.TheVariants as labels
use Rattle.header_boxes.specs.Terms.{IsAligned, holds}
use Rattle.box_images.specs.Terms.{IsBody, IsImageOfAnswer, IsImageOfOpen, IsValidImage, header_at}
use Rattle.image_tests.specs.Types.{Image, Part}
use Rattle.conn_tracking.specs.OnImages.{connections_at}
use Rattle.conn_tracking.specs.declared.on_images.ImageEntry.{ImageEntry}
use Rattle.vpc_laws.specs.Memory.{Memory, connection, memory_at, nothing, translation}
use Rattle.vpc_laws.specs.Types.{Box5, Description, Dir, End, EniNo, Header, Label, NatNo, Place, Stop}
use Rattle.vpc_model.specs.Terms.{Appliances, Moment, Next, Step, Translation, addresses_in, arrive, go, is_sound, same_place, step_of, stop}
use Rattle.box_steps.specs.Cuts.{AtPlace}
use Rattle.box_steps.specs.declared.moment.BoxMoment.{BoxMoment}
use Rattle.box_steps.specs.declared.moment.BoxNext.{BoxNext}
use Rattle.box_steps.specs.declared.moment.BoxNext.TheVariants as nexts
use Rattle.box_steps.specs.declared.moment.ImageNat.{ImageNat}
use Rattle.box_steps.specs.declared.onward.Onward.{Onward}
use Rattle.box_steps.specs.declared.onward.Onward.TheVariants as onwards

-- ---- at one header of the request

-- a translation
abbrev pub translation_at : Header → ImageNat → Translation
translation_at h t = record { nat = t.nat; before = header_at t.before h; after = header_at t.after h }

-- all translations
abbrev pub translations_at : Header → List ImageNat → List Translation
translations_at h ts = map (translation_at h) ts

-- the packet at its place
abbrev pub moment_at : Header → BoxMoment → Moment
moment_at h m = record { place = m.place; header = header_at m.header h; conns = connections_at h m.conns.items; nats = translations_at h m.nats.items }

-- what comes next, where a packet that goes on is at the place of the moment
abbrev pub next_at : Header → BoxMoment → Onward → Next
next_at h m (onwards.Go p) = go m.place (header_at m.header h)
next_at h m (onwards.Arrive end) = arrive end
next_at h m (onwards.Stop s) = stop s

-- a step leads to the moment
pub record IsStepTo (s : Step) (h : Header) (after : BoxMoment) (onward : Onward) : Type 0 where
  pub next : s.next ≡ next_at h after onward
  pub conns : s.conns ≡ connections_at h after.conns.items
  pub nats : s.nats ≡ translations_at h after.nats.items

-- ---- over a body of the part

-- an image over it
abbrev pub image_over : Box5 → Image → Image
image_over body i = record i { part = body }

abbrev pub entry_over : Box5 → ImageEntry → ImageEntry
entry_over body e = record e { header = image_over body e.header }

abbrev pub nat_over : Box5 → ImageNat → ImageNat
nat_over body t = record { nat = t.nat; before = image_over body t.before; after = image_over body t.after }

-- the same packets, those of the body alone
pub record IsNarrowed (body : Box5) (old new : BoxMoment) : Type 0 where
  pub place : new.place ≡ old.place
  pub header : new.header ≡ image_over body old.header
  pub conns : new.conns.items ≡ map (entry_over body) old.conns.items
  pub nats : new.nats.items ≡ map (nat_over body) old.nats.items

-- ---- what a walk makes

-- an image of an open over the part, into which no addresses but these are put
pub record IsOpenOver (addresses : List ℕ) (part : Box5) (i : Image) : Type 0 where
  pub over : i.part ≡ part
  pub valid : IsValidImage i
  pub kind : IsImageOfOpen addresses i

-- a translated open over the part
pub record IsTranslatedOver (addresses : List ℕ) (part : Box5) (t : ImageNat) : Type 0 where
  pub origin : IsOpenOver addresses part t.before
  pub sent : IsOpenOver addresses part t.after

-- of an open or an answer, by the label
abbrev pub IsImageOf : Label → List ℕ → Image → Type 0
IsImageOf labels.Opening addresses i = IsImageOfOpen addresses i
IsImageOf labels.Answer addresses i = IsImageOfAnswer addresses i

-- a gateway has translated
abbrev pub has_nat : List ImageNat → NatNo → Bool
has_nat ts n = list_any (λ t. t.nat.0 == n.0) ts

-- no gateway has translated twice
abbrev pub AreApart : List ImageNat → Type 0
AreApart [] = Unit {0}
AreApart (t ∷ ts) = (has_nat ts t.nat ≡ false) × AreApart ts

-- a moment of a walk: its place is sound, and all its images are valid, of their kind and over one part
pub record IsBoxMoment (d : Description) (label : Label) (m : BoxMoment) : Type 0 where
  pub sound : is_sound d m.place ≡ true
  pub valid : IsValidImage m.header
  pub kind : IsImageOf label (addresses_in d) m.header
  pub conns : All (λ e. IsOpenOver (addresses_in d) m.header.part e.header) m.conns.items
  pub nats : All (IsTranslatedOver (addresses_in d) m.header.part) m.nats.items
  pub apart : AreApart m.nats.items

-- ---- what opens leave behind

-- an open has passed the groups of the interface in this direction
abbrev pub has_conn : List ImageEntry → EniNo → Dir → Bool
has_conn entries i dir = list_any (λ e. (e.eni.0 == i.0) && same_dir e.dir dir) entries

-- what an open leaves behind is there already
abbrev pub has_left : BoxMoment → Memory → Bool
has_left m (connection i dir) = has_conn m.conns.items i dir
has_left m (translation n) = has_nat m.nats.items n
has_left m nothing = false

-- what an open leaves behind at the place is there already
abbrev pub remembers : BoxMoment → Place → Bool
remembers m p = has_left m (memory_at p)

-- there is room for what the place adds, and it hasn't been added
pub record HasRoom (m : BoxMoment) : Type 0 where
  pub conns : length m.conns.items < 64
  pub nats : length m.nats.items < 64
  pub fresh : remembers m m.place ≡ false

-- opens alone leave something behind
abbrev pub CanRemember : Label → BoxMoment → Type 0
CanRemember labels.Opening m = HasRoom m
CanRemember labels.Answer m = Unit {0}

-- the later moment remembers what the earlier one does, and at most what its place adds
pub record RemembersMore (old new : BoxMoment) : Type 0 where
  pub conns : length new.conns.items ≤ length old.conns.items + 1
  pub nats : length new.nats.items ≤ length old.nats.items + 1
  pub known : (p : Place) → remembers new p ≡ true → (remembers old p ≡ true) ⊎ (same_place old.place p ≡ true)

-- ---- one step

-- packets that go on are at their next place, others where they were
abbrev pub comes_to : Place → Onward → Place
comes_to place (onwards.Go next) = next
comes_to place (onwards.Arrive end) = place
comes_to place (onwards.Stop s) = place

-- those of the body, at the place to which they come
pub record IsTurned (x : Part Onward) (old new : BoxMoment) (onward : Onward) : Type 0 where
  pub told : onward ≡ x.told
  pub place : new.place ≡ comes_to old.place x.told
  pub header : new.header ≡ image_over x.body old.header
  pub conns : new.conns.items ≡ map (entry_over x.body) old.conns.items
  pub nats : new.nats.items ≡ map (nat_over x.body) old.nats.items

-- one stop is told of all packets
abbrev pub stop_of_all : BoxMoment → Stop → Part Onward
stop_of_all m s = record { body = m.header.part; told = onwards.Stop s }

-- those of the part of another image, which go on to the place with it as their header
pub record IsRewritten (next : Place) (after : Image) (old new : BoxMoment) : Type 0 where
  pub place : new.place ≡ next
  pub header : new.header ≡ after
  pub conns : new.conns.items ≡ map (entry_over after.part) old.conns.items
  pub nats : new.nats.items ≡ map (nat_over after.part) old.nats.items

-- one step for all headers of a body of the part: the low corner's, with the headers up to the first cut at which a row that
-- the place asks may answer otherwise
pub record IsStepOn (d : Description) (appliances : Appliances) (label : Label) (old new : BoxMoment) (onward : Onward) : Type 0 where
  pub step : (h : Header) → holds h new.header.part ≡ true → IsStepTo (step_of d appliances label (moment_at h old)) h new onward
  pub place : new.place ≡ comes_to old.place onward
  pub body : IsBody new.header.part old.header.part
  pub aligned : (cuts : CutLists) → AtPlace d old.place cuts → IsAligned cuts new.header.part old.header.part
  pub moment : IsBoxMoment d label new
  pub memory : RemembersMore old new

-- opens before an interface, and as they are once they have arrived there: the step of each that is let in leads to the later moment
pub record IsLetIn (d : Description) (appliances : Appliances) (old new : BoxMoment) : Type 0 where
  pub header : new.header ≡ old.header
  pub conns : (h : Header) (end : End) → (let s = step_of d appliances labels.Opening (moment_at h old) in (s.next ≡ arrive end) → s.conns ≡ connections_at h new.conns.items)
  pub nats : (h : Header) (end : End) → (let s = step_of d appliances labels.Opening (moment_at h old) in (s.next ≡ arrive end) → s.nats ≡ translations_at h new.nats.items)
  pub moment : IsBoxMoment d labels.Opening new

-- ---- what a step tells

-- the moment after it
abbrev pub moment_after : BoxNext → BoxMoment
moment_after (nexts.Go m) = m
moment_after (nexts.Arrived end m) = m
moment_after (nexts.Stopped s m) = m

-- how packets leave the place
abbrev pub onward_to : BoxNext → Onward
onward_to (nexts.Go m) = onwards.Go m.place
onward_to (nexts.Arrived end m) = onwards.Arrive end
onward_to (nexts.Stopped s m) = onwards.Stop s

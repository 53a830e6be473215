-- What stops packets at an interface, asked one test after the other.
use Rattle.std.proofs.Common.{◌≡◌, ◌∙◌, ◌&&◌, Bool, None, Option, Some, ap, cond, false, not, refl, subst, sym, true}
use Rattle.vpc_base.specs.Cuts.{CutLists}
use Rattle.header_boxes.specs.Boxes.{IsValid}
use Rattle.box_images.proofs.Reducing.{reduced_by, reduced_nothing, reduced_to}
use Rattle.box_images.specs.Terms.{Answers, header_at}
use Rattle.image_tests.specs.Types.{Image, Part}
use Rattle.image_tests.proofs.Answering.{answers_all, answers_same}
use Rattle.vpc_laws.specs.Types.{Box5, Description, Dir, EniNo, Label, Stop}
use Rattle.vpc_model.specs.Terms.{Moment, has_address, interface_at}
use Rattle.vpc_model.specs.declared.places.Place.TheVariants as places
use Rattle.vpc_model.specs.declared.stops.Stop.TheVariants as stops
use Rattle.box_steps.proofs.Composing.{narrowed_itself, narrowed_through}
use Rattle.box_steps.proofs.Narrowing.{moment_at-narrowed}
use Rattle.box_steps.proofs.Telling.{answers_told}
use Rattle.box_steps.proofs.Turning.{standing_answers}
use Rattle.box_steps.specs.Terms.{AtPlace, BoxMoment, IsBoxMoment, IsNarrowed, Standing, TellsOf, barrier, check_stop, checked_barrier, groups_barrier, groups_stop, moment_at, own_address, passes_groups}

-- ---- moments of which something is told

-- the moment is narrowed to the body of an answer
pub tells_of : {T : Type 0} (enough : CutLists → Type 0) (answer : Moment → T) (old new : BoxMoment) (x : Part T) → IsNarrowed x.body old new
    → Answers enough (λ h. answer (moment_at h old)) old.header.part x → TellsOf enough answer old new x.told
tells_of {T} enough answer old new x n k =
    let e : x.body ≡ new.header.part = sym (ap (λ (i : Image). i.part) n.header) in
    record {
      narrowed = subst (λ (b : Box5). IsNarrowed b old new) e n;
      answers = subst (λ (b : Box5). Answers enough (λ h. answer (moment_at h old)) old.header.part (record { body = b; told = x.told })) e k;
    }

-- what was told leaves another question, which was asked of those that are left
pub tells_then : {S T : Type 0} (enough : CutLists → Type 0) (asked : Moment → S) (whole rest : Moment → T) (old mid new : BoxMoment) (s : S) (told : T) → IsValid old.header.part
    → ((m : Moment) → asked m ≡ s → whole m ≡ rest m)
    → TellsOf enough asked old mid s → TellsOf enough rest mid new told → TellsOf enough whole old new told
tells_then {S} {T} enough asked whole rest old mid new s told valid leads k l = record {
  narrowed = narrowed_through mid.header.part new.header.part old mid new k.narrowed l.narrowed;
  answers = reduced_to enough (λ h. whole (moment_at h old)) (λ h. rest (moment_at h old)) old.header.part mid.header.part (record { body = new.header.part; told = told })
      (reduced_by enough (λ h. whole (moment_at h old)) (λ h. whole (moment_at h old)) (λ h. rest (moment_at h old)) old.header.part old.header.part
      (λ h. asked (moment_at h old)) (record { body = mid.header.part; told = s }) s refl (λ h e. leads (moment_at h old) e)
      (reduced_nothing enough (λ h. whole (moment_at h old)) old.header.part valid) k.answers)
      (answers_same enough (λ h. rest (moment_at h mid)) (λ h. rest (moment_at h old)) mid.header.part (record { body = new.header.part; told = told })
      (λ h. ap rest (moment_at-narrowed h mid.header.part old mid k.narrowed)) l.answers);
}

-- what was told is turned into other words
pub tells_told : {S T : Type 0} (enough : CutLists → Type 0) (asked : Moment → S) (whole : Moment → T) (old new : BoxMoment) (s : S) (told : T)
    → ((m : Moment) → asked m ≡ s → whole m ≡ told) → TellsOf enough asked old new s → TellsOf enough whole old new told
tells_told {S} {T} enough asked whole old new s told same k = record {
  narrowed = k.narrowed;
  answers = answers_told enough (λ h. asked (moment_at h old)) (λ h. whole (moment_at h old)) old.header.part (record { body = new.header.part; told = s }) told
      (λ h e. same (moment_at h old) e) k.answers;
}

-- one answer for all
pub tells_all : {T : Type 0} (d : Description) (label : Label) (enough : CutLists → Type 0) (answer : Moment → T) (m : BoxMoment) (told : T) → IsBoxMoment d label m
    → ((k : Moment) → told ≡ answer k) → TellsOf enough answer m m told
tells_all {T} d label enough answer m told k all = record {
  narrowed = narrowed_itself d label m k;
  answers = answers_all enough (λ h. answer (moment_at h m)) m.header.part told k.valid.part (λ h. all (moment_at h m));
}

-- ---- the groups

pub tells_passed : (d : Description) (label : Label) (i : EniNo) (dir : Dir) (old new : BoxMoment) (x : Part Bool) → x.told ≡ true → IsNarrowed x.body old new
    → Answers (AtPlace d (places.OutOf i)) (λ h. passes_groups d label i dir (moment_at h old)) old.header.part x
    → TellsOf (AtPlace d (places.OutOf i)) (groups_barrier d label i dir) old new None
tells_passed d label i dir old new x is n k =
    let refused : Option Stop = Some (groups_stop dir i) in
    tells_told (AtPlace d (places.OutOf i)) (passes_groups d label i dir) (groups_barrier d label i dir) old new x.told None
    (λ m e. ap (λ (b : Bool). cond b None refused) (e ∙ is))
    (tells_of (AtPlace d (places.OutOf i)) (passes_groups d label i dir) old new x n k)

pub tells_refused : (d : Description) (label : Label) (i : EniNo) (dir : Dir) (old new : BoxMoment) (x : Part Bool) (s : Stop) → x.told ≡ false → s ≡ groups_stop dir i → IsNarrowed x.body old new
    → Answers (AtPlace d (places.OutOf i)) (λ h. passes_groups d label i dir (moment_at h old)) old.header.part x
    → TellsOf (AtPlace d (places.OutOf i)) (groups_barrier d label i dir) old new (Some s)
tells_refused d label i dir old new x s is stops n k =
    let refused : Option Stop = Some (groups_stop dir i) in
    let told : Option Stop = Some s in
    tells_told (AtPlace d (places.OutOf i)) (passes_groups d label i dir) (groups_barrier d label i dir) old new x.told told
    (λ m e. ap (λ (b : Bool). cond b None refused) (e ∙ is) ∙ sym (ap (λ (t : Stop). Some t) stops))
    (tells_of (AtPlace d (places.OutOf i)) (passes_groups d label i dir) old new x n k)

-- ---- the check

checks : {T : Type 0} (c own : Bool) (x y : T) → own ≡ true → cond (c && not own) x y ≡ y
checks {T} true true x y e = refl
checks {T} true false x y e = absurd (cc)
checks {T} false own x y e = refl

fails : {T : Type 0} (c own : Bool) (x y : T) → c ≡ true → own ≡ false → cond (c && not own) x y ≡ x
fails {T} true true x y c o = absurd (cc)
fails {T} true false x y c o = refl
fails {T} false own x y c o = absurd (cc)

tells_own : (d : Description) (i : EniNo) (dir : Dir) (old mid : BoxMoment) (x : Part Bool) → IsNarrowed x.body old mid
    → Answers (Standing d) (λ h. has_address (interface_at d i) (own_address dir (header_at old.header h))) old.header.part x
    → TellsOf (AtPlace d (places.OutOf i)) (λ m. has_address (interface_at d i) (own_address dir m.header)) old mid x.told
tells_own d i dir old mid x n k =
    tells_of (AtPlace d (places.OutOf i)) (λ m. has_address (interface_at d i) (own_address dir m.header)) old mid x n
    (standing_answers d (places.OutOf i) (λ h. has_address (interface_at d i) (own_address dir (header_at old.header h))) old.header.part x k)

-- its own addresses
pub tells_checked : (d : Description) (label : Label) (i : EniNo) (dir : Dir) (old mid new : BoxMoment) (x : Part Bool) (told : Option Stop) → IsValid old.header.part → x.told ≡ true → IsNarrowed x.body old mid
    → Answers (Standing d) (λ h. has_address (interface_at d i) (own_address dir (header_at old.header h))) old.header.part x
    → TellsOf (AtPlace d (places.OutOf i)) (groups_barrier d label i dir) mid new told
    → TellsOf (AtPlace d (places.OutOf i)) (checked_barrier d label i dir) old new told
tells_checked d label i dir old mid new x told valid own n k l =
    let row = interface_at d i in
    tells_then (AtPlace d (places.OutOf i)) (λ m. has_address (interface_at d i) (own_address dir m.header)) (checked_barrier d label i dir) (groups_barrier d label i dir) old mid new x.told told valid
    (λ m e. checks row.checked (has_address row (own_address dir m.header)) (Some (check_stop dir i)) (groups_barrier d label i dir m) (e ∙ own))
    (tells_own d i dir old mid x n k) l

-- others
pub tells_failed : (d : Description) (label : Label) (i : EniNo) (dir : Dir) (old new : BoxMoment) (x : Part Bool) (checked : Bool) (s : Stop) → x.told ≡ false → checked ≡ true
    → (let row = interface_at d i in checked ≡ row.checked) → s ≡ check_stop dir i → IsNarrowed x.body old new
    → Answers (Standing d) (λ h. has_address (interface_at d i) (own_address dir (header_at old.header h))) old.header.part x
    → TellsOf (AtPlace d (places.OutOf i)) (checked_barrier d label i dir) old new (Some s)
tells_failed d label i dir old new x checked s own on is stops n k =
    let row = interface_at d i in
    tells_told (AtPlace d (places.OutOf i)) (λ m. has_address (interface_at d i) (own_address dir m.header)) (checked_barrier d label i dir) old new x.told (Some s)
    (λ m e. fails row.checked (has_address row (own_address dir m.header)) (Some (check_stop dir i)) (groups_barrier d label i dir m) (sym is ∙ on) (e ∙ own) ∙ sym (ap (λ (t : Stop). Some t) stops))
    (tells_own d i dir old new x n k)

-- ---- attached to nothing

if_idle : {T : Type 0} (b : Bool) (x y : T) → b ≡ true → x ≡ cond b x y
if_idle {T} true x y e = refl
if_idle {T} false x y e = absurd (cc)

pub tells_idle : (d : Description) (label : Label) (i : EniNo) (dir : Dir) (m : BoxMoment) (idle : Bool) → IsBoxMoment d label m → idle ≡ true
    → (let row = interface_at d i in idle ≡ row.idle) → TellsOf (AtPlace d (places.OutOf i)) (barrier d label i dir) m m (Some (stops.Detached i))
tells_idle d label i dir m idle moment on is =
    let row = interface_at d i in
    tells_all d label (AtPlace d (places.OutOf i)) (barrier d label i dir) m (Some (stops.Detached i)) moment
    (λ k. if_idle row.idle (Some (stops.Detached i)) (checked_barrier d label i dir k) (sym is ∙ on))

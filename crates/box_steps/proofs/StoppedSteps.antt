-- One step of packets that an interface stops.
use Rattle.std.proofs.Common.{Bool, List, None, Option, Some, ap, cond, false, is_some, refl, subst, sym, true, ◌∙◌, ◌≡◌}
use Rattle.vpc_base.specs.Terms.{CutLists}
use Rattle.vpc_base.specs.declared.headers.Dir.TheVariants as dirs
use Rattle.vpc_laws.specs.Types.{By, Description, Dir, EniNo, Header, Label, Place, Stop}
use Rattle.vpc_model.specs.Terms.{Appliances, Connection, Moment, Next, Passing, Step, go, interface_at, passing_of, plain, step_at, step_of, stop, subnet_of, taken_in}
use Rattle.vpc_model.specs.declared.places.Came.TheVariants as from
use Rattle.vpc_model.specs.declared.places.Place.TheVariants as places
use Rattle.vpc_model.specs.declared.stops.Stop.TheVariants as stops
use Rattle.box_steps.proofs.Narrowing.{kept_if_narrowed, moment-narrowed, moment_at-narrowed, remembers_more-kept}
use Rattle.box_steps.specs.Terms.{AtPlace, BoxMoment, IsBoxMoment, IsStepOn, IsStepTo, TellsOf, barrier, is_passed, moment_at, passed_at, past_interface}
use Rattle.box_steps.specs.declared.onward.Onward.TheVariants as onwards

-- ---- the model's step, by what stops the packet

-- past the interface
pub record GoesPast (m : Moment) (p : Passing) (past : Next) (s : Step) : Type 0 where
  pub passed : is_passed p ≡ true
  pub next : s.next ≡ past
  pub conns : s.conns ≡ p.conns
  pub nats : s.nats ≡ m.nats

abbrev pub StepsBy : Moment → Passing → Next → Option Stop → Step → Type 0
StepsBy m p past None s = GoesPast m p past s
StepsBy m p past (Some x) s = s ≡ plain m (stop x)

by_tests : (m : Moment) (next : Next) (a b c : Stop) (idle refused : Bool) (by : Option By) (conns : List Connection) → let p : Passing = record { by = by; conns = conns } in
    StepsBy m p next (cond idle (Some a) (cond refused (Some b) (cond (is_some by) None (Some c))))
    (cond idle (plain m (stop a)) (cond refused (plain m (stop b)) (elim by [ None ↦ plain m (stop c) | Some y ↦ record { next = next; by = y; conns = conns; nats = m.nats } ])))
by_tests m next a b c true refused by conns = refl
by_tests m next a b c false true by conns = refl
by_tests m next a b c false false None conns = refl
by_tests m next a b c false false (Some y) conns = record { passed = refl; next = refl; conns = refl; nats = refl }

step_by_barrier : (d : Description) (appliances : Appliances) (label : Label) (i : EniNo) (dir : Dir) (m : Moment)
    → StepsBy m (passing_of d label i dir m.header m.conns) (past_interface d appliances i dir m.header) (barrier d label i dir m) (step_at d appliances label (passed_at dir i) m)
step_by_barrier d appliances label i dirs.Outward m =
    let row = interface_at d i in
    let p = passing_of d label i dirs.Outward m.header m.conns in
    by_tests m (go (places.Router (subnet_of d i) (from.Host i)) m.header) (stops.Detached i) (stops.SourceCheck i) (stops.GroupsOut i) row.idle _ p.by p.conns
step_by_barrier d appliances label i dirs.Inward m =
    let row = interface_at d i in
    let p = passing_of d label i dirs.Inward m.header m.conns in
    by_tests m (taken_in d appliances i m.header) (stops.Detached i) (stops.DestCheck i) (stops.GroupsIn i) row.idle _ p.by p.conns

-- at the place of a moment
pub step_told : (d : Description) (appliances : Appliances) (label : Label) (i : EniNo) (dir : Dir) (m : Moment) (told : Option Stop) → m.place ≡ passed_at dir i → told ≡ barrier d label i dir m
    → StepsBy m (passing_of d label i dir m.header m.conns) (past_interface d appliances i dir m.header) told (step_of d appliances label m)
step_told d appliances label i dir m told at is =
    subst (λ (p : Place). StepsBy m (passing_of d label i dir m.header m.conns) (past_interface d appliances i dir m.header) told (step_at d appliances label p m)) (sym at)
    (subst (λ (o : Option Stop). StepsBy m (passing_of d label i dir m.header m.conns) (past_interface d appliances i dir m.header) o (step_at d appliances label (passed_at dir i) m)) (sym is)
    (step_by_barrier d appliances label i dir m))

-- both directions have the cuts of the interface's groups
pub at_interface : (d : Description) (i : EniNo) (dir : Dir) (place : Place) (cuts : CutLists) → place ≡ passed_at dir i → AtPlace d place cuts → AtPlace d (places.OutOf i) cuts
at_interface d i dir place cuts at k = by dir (subst (λ (p : Place). AtPlace d p cuts) at k)
  where
    by : (dir : Dir) → AtPlace d (passed_at dir i) cuts → AtPlace d (places.OutOf i) cuts
    by dirs.Outward k = k
    by dirs.Inward k = k

-- ---- stopped

stopped_to : (s : Step) (h : Header) (old new : BoxMoment) (x : Stop) → s ≡ plain (moment_at h old) (stop x) → moment_at h new ≡ moment_at h old → IsStepTo s h new (onwards.Stop x)
stopped_to s h old new x e same = record {
  next = ap (λ (t : Step). t.next) e;
  conns = ap (λ (t : Step). t.conns) e ∙ sym (ap (λ (m : Moment). m.conns) same);
  nats = ap (λ (t : Step). t.nats) e ∙ sym (ap (λ (m : Moment). m.nats) same);
}

pub stopped_step : (d : Description) (appliances : Appliances) (label : Label) (i : EniNo) (dir : Dir) (old new : BoxMoment) (told : Option Stop) (x : Stop) → old.place ≡ passed_at dir i → IsBoxMoment d label old → told ≡ Some x
    → TellsOf (AtPlace d (places.OutOf i)) (barrier d label i dir) old new told → IsStepOn d appliances label old new (onwards.Stop x)
stopped_step d appliances label i dir old new told x at m is k = record {
  step = λ h held.
      stopped_to (step_of d appliances label (moment_at h old)) h old new x
      (step_told d appliances label i dir (moment_at h old) (Some x) at (sym is ∙ k.answers.told h held))
      (moment_at-narrowed h new.header.part old new k.narrowed);
  place = k.narrowed.place;
  body = k.answers.body;
  aligned = λ cuts enough. k.answers.aligned cuts (at_interface d i dir old.place cuts at enough);
  moment = moment-narrowed d label new.header.part old new m k.answers.body.within k.narrowed;
  memory = remembers_more-kept new.header.part old new (kept_if_narrowed new.header.part old new k.narrowed);
}

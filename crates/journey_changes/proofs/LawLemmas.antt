-- Laws of changes.
use Rattle.std.proofs.Common.{◌≡◌, ◌↔◌, ◌∙◌, Bool, Err, None, Ok, Some, ap, cond, false, refl, true}
use Rattle.std.specs.Option.{option_map}
use Rattle.std.proofs.lemmas.Cmp.{nat_list_eq_equiv}
use Rattle.described_hosts.specs.Hosts.{id_of}
use Rattle.described_hosts.specs.Outside.{far_id}
use Rattle.vpc_laws.specs.Types.{Description, End}
use Rattle.vpc_model.specs.Appliances.{appliances_of}
use Rattle.vpc_model.specs.Verdict.{homes_among}
use Rattle.vpc_model.specs.declared.places.End.TheVariants as ends
use Rattle.box_walk.specs.Journeys.{journey_of, reached_end}
use Rattle.box_walk.specs.declared.journeys.Journey.{Journey}
use Rattle.box_walk.specs.declared.journeys.Journey.TheVariants as journeys
use Rattle.journey_changes.specs.Changes.{change_by, have_one_id}
use Rattle.journey_changes.specs.Fates.{Fate, fate_by, reached_by}
use Rattle.journey_changes.specs.Laws.{AllIsOpenedFromNothing, ChangesTurnRound, NothingChangesInOne, ReachedIsReach, opened_end, turned}
use Rattle.journey_changes.specs.Sent.{fate}
use Rattle.journey_changes.specs.declared.changes.Change.TheVariants as changes

-- ---- ends

one_id-turned : (before after : Description) (e f : End) → have_one_id after before f e ≡ have_one_id before after e f
one_id-turned before after ends.Internet ends.Internet = refl
one_id-turned before after ends.Internet (ends.Interface j) = refl
one_id-turned before after ends.Internet (ends.Far l) = refl
one_id-turned before after (ends.Interface i) ends.Internet = refl
one_id-turned before after (ends.Interface i) (ends.Interface j) = nat_list_eq_equiv.symm (id_of after j) (id_of before i)
one_id-turned before after (ends.Interface i) (ends.Far l) = refl
one_id-turned before after (ends.Far k) ends.Internet = refl
one_id-turned before after (ends.Far k) (ends.Interface j) = refl
one_id-turned before after (ends.Far k) (ends.Far l) = nat_list_eq_equiv.symm (far_id after l) (far_id before k)

one_id-itself : (d : Description) (e : End) → have_one_id d d e e ≡ true
one_id-itself d ends.Internet = refl
one_id-itself d (ends.Interface i) = nat_list_eq_equiv.refl (id_of d i)
one_id-itself d (ends.Far k) = nat_list_eq_equiv.refl (far_id d k)

-- ---- turned round

moved-turned : (b : Bool) (e f : End) → cond b None (Some (changes.Moved f e)) ≡ option_map turned (cond b None (Some (changes.Moved e f)))
moved-turned true e f = refl
moved-turned false e f = refl

turned_by : (before after : Description) (x y : Fate) → change_by after before y x ≡ option_map turned (change_by before after x y)
turned_by before after (Err b) (Err a) = refl
turned_by before after (Err b) (Ok f) = refl
turned_by before after (Ok e) (Err a) = refl
turned_by before after (Ok e) (Ok f) =
    ap (λ (b : Bool). cond b None (Some (changes.Moved f e))) (one_id-turned before after e f) ∙ moved-turned (have_one_id before after e f) e f

pub changes_turn_round : ChangesTurnRound
changes_turn_round before after h = turned_by before.network after.network (fate before h) (fate after h)

-- ---- from nothing

some_is_none : {X : Type 0} (x : X) → (Some x ≡ None) → ⊥
some_is_none x e = cc

opened_by : (before after : Description) (x y : Fate) → reached_by x ≡ None
    → (opened_end (change_by before after x y) ≡ reached_by y) × ((change_by before after x y ≡ None) ↔ (reached_by y ≡ None))
opened_by before after (Ok e) y none = absurd (some_is_none e none)
opened_by before after (Err b) (Err a) none = (refl, (λ e. refl, λ e. refl))
opened_by before after (Err b) (Ok f) none = (refl, (λ e. absurd (some_is_none _ e), λ e. absurd (some_is_none _ e)))

pub all_is_opened_from_nothing : AllIsOpenedFromNothing
all_is_opened_from_nothing before after h none = opened_by before.network after.network (fate before h) (fate after h) none

reached-end : (j : Journey) → reached_by (fate_by j) ≡ reached_end j
reached-end (journeys.Reached end) = refl
reached-end (journeys.Stopped phase s) = refl

pub reached_is_reach : ReachedIsReach
reached_is_reach d start links h = (
  reached-end (journey_of d (appliances_of d) (homes_among links start) None h),
  λ goal. reached-end (journey_of d (appliances_of d) (homes_among links start) (Some goal) h),
)

-- ---- one network

itself_by : (d : Description) (x : Fate) → change_by d d x x ≡ None
itself_by d (Err b) = refl
itself_by d (Ok e) = ap (λ (b : Bool). cond b None (Some (changes.Moved e e))) (one_id-itself d e)

pub nothing_changes_in_one : NothingChangesInOne
nothing_changes_in_one s h = itself_by s.network (fate s h)

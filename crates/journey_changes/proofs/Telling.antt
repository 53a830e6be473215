-- Changes can be told: the ends that are reached are described, and the stops have texts.
use Rattle.std.proofs.Common.{◌≡◌, [], Bool, Err, IfSome, List, None, Ok, Option, Some, ap, cond, false, subst, sym, true}
use Rattle.box_walk.specs.Journeys.{journey_after, journey_by, journey_of}
use Rattle.box_walk.specs.declared.journeys.Journey.{Journey}
use Rattle.box_walk.specs.declared.journeys.Journey.TheVariants as journeys
use Rattle.box_walk.proofs.Homes.{start_among, verdicts_by_are_told}
use Rattle.box_walk.proofs.JourneyLemmas.{same-itself}
use Rattle.vpc_base.specs.Header.{reply_of}
use Rattle.vpc_base.specs.declared.headers.Label.TheVariants as labels
use Rattle.vpc_laws.proofs.Telling.{start-sound, walks_are_sound}
use Rattle.vpc_laws.specs.Sound.{EndsWell, IsTold}
use Rattle.vpc_laws.specs.Types.{Description, End, FarNo, Header, Outcome, Verdict}
use Rattle.vpc_model.specs.Terms.{Appliances, Homes, IsAccepted, Walk, appliances_of, has_text, homes_among, is_end, request_walk, same_end, start_of, verdict_by, verdict_of_arrival, verdict_of_request}
use Rattle.vpc_model.specs.declared.outcomes.Outcome.TheVariants as outcomes
use Rattle.vpc_model.specs.declared.outcomes.Phase.TheVariants as phases
use Rattle.vpc_model.specs.declared.outcomes.Verdict.TheVariants as verdicts
use Rattle.vpc_model.specs.declared.stops.Stop.TheVariants as stops
use Rattle.journey_changes.specs.Terms.{CanBeTold, Change, ChangesAreTellable, Fate, IsTellable, IsToward, Toward, change_by, fate, fate_by, fate_from, fate_of, have_one_id, missing_by}
use Rattle.journey_changes.specs.declared.changes.Change.TheVariants as changes
use Rattle.journey_changes.specs.declared.fates.Toward.TheVariants as towards

-- ---- journeys

-- the end is described, or the stop has a text
abbrev EndsTold : Description → Journey → Type 0
EndsTold d (journeys.Reached end) = is_end d end ≡ true
EndsTold d (journeys.Stopped phase s) = has_text d s ≡ true

by_verdict : (d : Description) (end : End) (v : Verdict) → is_end d end ≡ true → IsTold d v → EndsTold d (journey_by end v)
by_verdict d end verdicts.Through there told = there
by_verdict d end (verdicts.Stopped phase s) there told = told

-- a request that has arrived at an end is judged as one toward it
arrived : (d : Description) (a : Appliances) (homes : Homes) (end : End) (h k : Header) (w : Walk)
    → verdict_of_request d a homes end h w (outcomes.Arrived end k) ≡ verdict_of_arrival d a homes end h w (reply_of k)
arrived d a homes end h k w =
    ap (λ (b : Bool). cond b (verdict_of_arrival d a homes end h w (reply_of k)) (verdicts.Stopped phases.Request (stops.WrongPlace end))) (same-itself end)

by_place : (d : Description) (a : Appliances) (homes : Homes) (end : End) (h k : Header) (w : Walk) (back : Bool) → is_end d end ≡ true
    → IsTold d (verdict_of_arrival d a homes end h w (reply_of k))
    → EndsTold d (cond back (journeys.Stopped phases.Request (stops.WrongPlace end)) (journey_by end (verdict_of_arrival d a homes end h w (reply_of k))))
by_place d a homes end h k w true there told = there
by_place d a homes end h k w false there told = by_verdict d end (verdict_of_arrival d a homes end h w (reply_of k)) there told

by_outcome : (d : Description) (a : Appliances) (homes : Homes) (h : Header) (w : Walk) (o : Outcome) → EndsWell d o
    → ((end : End) → is_end d end ≡ true → IsTold d (verdict_of_request d a homes end h w o)) → EndsTold d (journey_after d a homes h w o)
by_outcome d a homes h w (outcomes.Stopped s) well judged = well
by_outcome d a homes h w (outcomes.Arrived end k) well judged =
    by_place d a homes end h k w (same_end end homes.start) well (subst (IsTold d) (arrived d a homes end h k w) (judged end well))

open_told : (d : Description) (homes : Homes) (h : Header) → IsAccepted d → is_end d homes.start ≡ true
    → EndsTold d (journey_of d (appliances_of d) homes None h)
open_told d homes h accepted there =
    let a = appliances_of d in
    let w = request_walk d a homes.start h in
    let sound = walks_are_sound d a labels.Opening (record { place = start_of homes.start; header = h; conns = []; nats = [] }) accepted (start-sound d homes.start there) in
    by_outcome d a homes h w w.outcome sound.1 (λ end described. verdicts_by_are_told d a homes end h accepted there described)

goal_told : (d : Description) (homes : Homes) (goal : End) (h : Header) → IsAccepted d → is_end d homes.start ≡ true → is_end d goal ≡ true
    → EndsTold d (journey_of d (appliances_of d) homes (Some goal) h)
goal_told d homes goal h accepted there described =
    by_verdict d goal (verdict_by d (appliances_of d) homes goal h) described (verdicts_by_are_told d (appliances_of d) homes goal h accepted there described)

-- ---- fates

abbrev pub IsFateTold : Description → Fate → Type 0
IsFateTold d (Ok end) = is_end d end ≡ true
IsFateTold d (Err barrier) = CanBeTold d barrier

by_journey : (d : Description) (j : Journey) → EndsTold d j → IsFateTold d (fate_by j)
by_journey d (journeys.Reached end) told = told
by_journey d (journeys.Stopped phase s) told = told

missing_journey : (d : Description) (j : Journey) → EndsTold d j → IsFateTold d (missing_by j)
missing_journey d (journeys.Reached end) told = told
missing_journey d (journeys.Stopped phase s) told = told

from_told : (d : Description) (homes : Homes) (toward : Toward) (h : Header) → IsAccepted d → is_end d homes.start ≡ true → IsToward d toward
    → IsFateTold d (fate_from d homes toward h)
from_told d homes towards.Any h accepted there known = by_journey d (journey_of d (appliances_of d) homes None h) (open_told d homes h accepted there)
from_told d homes towards.Missing h accepted there known = missing_journey d (journey_of d (appliances_of d) homes None h) (open_told d homes h accepted there)
from_told d homes (towards.Goal goal) h accepted there known =
    by_journey d (journey_of d (appliances_of d) homes (Some goal) h) (goal_told d homes goal h accepted there known)

-- what becomes of a request can be told
pub fate_told : (d : Description) (start : Option End) (links : List FarNo) (toward : Toward) (h : Header) → IsAccepted d
    → IfSome start (λ e. is_end d e ≡ true) → IsToward d toward → IsFateTold d (fate_of d start links toward h)
fate_told d None links toward h accepted there known = tt
fate_told d (Some start) links toward h accepted there known =
    from_told d (homes_among links start) toward h accepted (subst (λ (e : End). is_end d e ≡ true) (sym (start_among links start)) there) known

-- ---- changes

same_change : {x y : Change} → Some x ≡ Some y → x ≡ y
same_change is = cc

by_ids : (before after : Description) (b : Bool) (e f : End) (change : Change) → is_end before e ≡ true → is_end after f ≡ true
    → cond b None (Some (changes.Moved e f)) ≡ Some change → IsTellable before after change
by_ids before after true e f change one other is = absurd (cc)
by_ids before after false e f change one other is = subst (IsTellable before after) (same_change is) (one, other)

by_fates : (before after : Description) (x y : Fate) (change : Change) → IsFateTold before x → IsFateTold after y → change_by before after x y ≡ Some change → IsTellable before after change
by_fates before after (Err b) (Err a) change one other is = absurd (cc)
by_fates before after (Err b) (Ok f) change one other is = subst (IsTellable before after) (same_change is) (other, one)
by_fates before after (Ok e) (Err a) change one other is = subst (IsTellable before after) (same_change is) (one, other)
by_fates before after (Ok e) (Ok f) change one other is = by_ids before after (have_one_id before after e f) e f change one other is

pub changes_are_tellable : ChangesAreTellable
changes_are_tellable before after h change first second one other is =
    by_fates before.network after.network (fate before h) (fate after h) change
    (fate_told before.network before.start before.links before.toward h first one.start one.toward)
    (fate_told after.network after.start after.links after.toward h second other.start other.toward) is

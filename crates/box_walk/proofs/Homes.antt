-- Where replies may arrive.
use Rattle.std.proofs.Common.{◌≡◌, ◌∙◌, ◌&&◌, ◌||◌, Bool, List, Option, Some, None, ap, cond, false, refl, subst, sym, true}
use Rattle.std.proofs.lemmas.Bool.{false≢true, or_parts}
use Rattle.vpc_base.specs.Terms.{reply_of}
use Rattle.vpc_laws.proofs.Telling.{verdicts_are_told}
use Rattle.vpc_laws.specs.Sound.{IsTold}
use Rattle.vpc_laws.specs.Types.{Description, End, FarNo, Header, Outcome, Verdict}
use Rattle.vpc_model.specs.Terms.{Appliances, Homes, IsAccepted, Walk, alone, homes_among, is_end, is_header, is_home, reply_walk, request_walk, same_end, verdict_by, verdict_of_arrival, verdict_of_reply, verdict_of_request}
use Rattle.vpc_model.specs.declared.outcomes.Outcome.TheVariants as outcomes
use Rattle.vpc_model.specs.declared.outcomes.Phase.TheVariants as phases
use Rattle.vpc_model.specs.declared.outcomes.Verdict.TheVariants as verdicts
use Rattle.vpc_model.specs.declared.places.End.TheVariants as ends
use Rattle.vpc_model.specs.declared.stops.Stop.TheVariants as stops
use Rattle.box_walk.specs.Terms.{MoreHomesLetMoreThrough, journey_after, journey_by, reached_end}
use Rattle.box_walk.specs.declared.journeys.Journey.TheVariants as journeys

-- one of them is the start itself
pub start_among : (links : List FarNo) (start : End) → let homes = homes_among links start in homes.start ≡ start
start_among links (ends.Interface i) = refl
start_among links ends.Internet = refl
start_among links (ends.Far k) = refl

-- replies may arrive at the start, whatever other homes there are
pub start_is_home : (homes : Homes) (end : End) → is_home (alone homes.start) end ≡ true → is_home homes end ≡ true
start_is_home homes end there = by (is_home homes end) refl
  where
    by : (b : Bool) → is_home homes end ≡ b → is_home homes end ≡ true
    by true is = is
    by false is = absurd (false≢true (sym (or_parts _ (same_end end homes.start) is).1 ∙ there))

-- ---- more homes

-- what holds of getting through, and of a verdict by few homes, holds of the verdict by more
module _ (P : Verdict → Type 0) (through : P verdicts.Through) where
  by_tests : (few more same : Bool) (wrong : Verdict) → (few ≡ true → more ≡ true)
      → P (cond (few && same) verdicts.Through wrong) → P (cond (more && same) verdicts.Through wrong)
  by_tests false false same wrong grows k = k
  by_tests false true true wrong grows k = through
  by_tests false true false wrong grows k = k
  by_tests true true same wrong grows k = k
  by_tests true false same wrong grows k = absurd (false≢true (grows refl))

  by_reply : (few more : Homes) (h : Header) (o : Outcome) → ((e : End) → is_home few e ≡ true → is_home more e ≡ true)
      → P (verdict_of_reply few h o) → P (verdict_of_reply more h o)
  by_reply few more h (outcomes.Stopped s) grows k = k
  by_reply few more h (outcomes.Arrived end r) grows k =
      by_tests (is_home few end) (is_home more end) (is_header r (reply_of h)) (verdicts.Stopped phases.Reply (stops.WrongReturn end)) (grows end) k

  by_arrival : (d : Description) (a : Appliances) (few more : Homes) (goal : End) (h : Header) (w : Walk) (r : Option Header)
      → ((e : End) → is_home few e ≡ true → is_home more e ≡ true)
      → P (verdict_of_arrival d a few goal h w r) → P (verdict_of_arrival d a more goal h w r)
  by_arrival d a few more goal h w None grows k = k
  by_arrival d a few more goal h w (Some r) grows k =
      let reply = reply_walk d a goal r w in
      by_reply few more h reply.outcome grows k

  by_request : (d : Description) (a : Appliances) (few more : Homes) (goal : End) (h : Header) (w : Walk) (o : Outcome)
      → ((e : End) → is_home few e ≡ true → is_home more e ≡ true)
      → P (verdict_of_request d a few goal h w o) → P (verdict_of_request d a more goal h w o)
  by_request d a few more goal h w (outcomes.Stopped s) grows k = k
  by_request d a few more goal h w (outcomes.Arrived at r) grows k = by (same_end at goal) k
    where
      by : (b : Bool) → P (cond b (verdict_of_arrival d a few goal h w (reply_of r)) (verdicts.Stopped phases.Request (stops.WrongPlace at)))
          → P (cond b (verdict_of_arrival d a more goal h w (reply_of r)) (verdicts.Stopped phases.Request (stops.WrongPlace at)))
      by true e = by_arrival d a few more goal h w (reply_of r) grows e
      by false e = e

  pub by_more : (d : Description) (a : Appliances) (few more : Homes) (goal : End) (h : Header) → few.start ≡ more.start
      → ((e : End) → is_home few e ≡ true → is_home more e ≡ true)
      → P (verdict_by d a few goal h) → P (verdict_by d a more goal h)
  by_more d a few more goal h same grows k =
      subst (λ (start : End). let w = request_walk d a start h in P (verdict_of_request d a more goal h w w.outcome)) same
      (let w = request_walk d a few.start h in by_request d a few more goal h w w.outcome grows k)

-- so a verdict has a text wherever its replies may arrive
pub verdicts_by_are_told : (d : Description) (a : Appliances) (homes : Homes) (goal : End) (h : Header)
    → IsAccepted d → is_end d homes.start ≡ true → is_end d goal ≡ true → IsTold d (verdict_by d a homes goal h)
verdicts_by_are_told d a homes goal h accepted from there =
    by_more (IsTold d) tt d a (alone homes.start) homes goal h refl (start_is_home homes) (verdicts_are_told d a homes.start goal h accepted from there)

-- ---- the end that is reached

reached-only : (at end : End) (v : Verdict) → reached_end (journey_by at v) ≡ Some end → Some at ≡ Some end
reached-only at end verdicts.Through is = is
reached-only at end (verdicts.Stopped phase s) is = absurd cc

-- toward a goal
reached-toward : (d : Description) (a : Appliances) (few more : Homes) (goal : End) (h : Header) (end : End) → few.start ≡ more.start
    → ((e : End) → is_home few e ≡ true → is_home more e ≡ true)
    → reached_end (journey_by goal (verdict_by d a few goal h)) ≡ Some end → reached_end (journey_by goal (verdict_by d a more goal h)) ≡ Some end
reached-toward d a few more goal h end same grows is =
    by_more (λ (v : Verdict). reached_end (journey_by goal v) ≡ Some end) (reached-only goal end (verdict_by d a few goal h) is)
    d a few more goal h same grows is

-- wherever the request arrives
reached-after : (d : Description) (a : Appliances) (few more : Homes) (h : Header) (w : Walk) (o : Outcome) (end : End) → few.start ≡ more.start
    → ((e : End) → is_home few e ≡ true → is_home more e ≡ true)
    → reached_end (journey_after d a few h w o) ≡ Some end → reached_end (journey_after d a more h w o) ≡ Some end
reached-after d a few more h w (outcomes.Stopped s) end same grows is = is
reached-after d a few more h w (outcomes.Arrived at r) end same grows is =
    subst (λ (start : End). ReachesEnd (same_end at start) (verdict_of_arrival d a more at h w (reply_of r))) same (by (same_end at few.start) is)
  where
    -- arrived at the start, or with this verdict
    ReachesEnd : Bool → Verdict → Type 0
    ReachesEnd b v = reached_end (cond b (journeys.Stopped phases.Request (stops.WrongPlace at)) (journey_by at v)) ≡ Some end

    by : (b : Bool) → ReachesEnd b (verdict_of_arrival d a few at h w (reply_of r)) → ReachesEnd b (verdict_of_arrival d a more at h w (reply_of r))
    by true e = e
    by false e =
        by_arrival (ReachesEnd false) (reached-only at end (verdict_of_arrival d a few at h w (reply_of r)) e) d a few more at h w (reply_of r) grows e

pub more_homes_let_more_through : MoreHomesLetMoreThrough
more_homes_let_more_through d a few more (Some goal) h end same grows is = reached-toward d a few more goal h end same grows is
more_homes_let_more_through d a few more None h end same grows is =
    subst (λ (start : End). let w = request_walk d a start h in reached_end (journey_after d a more h w w.outcome) ≡ Some end) same
    (let w = request_walk d a few.start h in reached-after d a few more h w w.outcome end same grows is)

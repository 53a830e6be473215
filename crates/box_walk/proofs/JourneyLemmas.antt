-- Journeys of all packets of a moment.
use Rattle.std.proofs.Common.{◌≡◌, ◌≢◌, ◌↔◌, ◌∙◌, Bool, None, Option, ap, cond, false, refl, subst, sym, true}
use Rattle.box_steps.specs.Moments.{moment_at}
use Rattle.box_steps.specs.declared.moment.BoxMoment.{BoxMoment}
use Rattle.header_boxes.proofs.BoxLaws.{within_holds}
use Rattle.header_boxes.specs.Boxes.{holds, low_of}
use Rattle.vpc_base.specs.Terms.{AreAmong, CutLists, reply_of}
use Rattle.vpc_base.specs.declared.headers.Label.TheVariants as labels
use Rattle.vpc_laws.proofs.Lemmas.{ends_are_told_apart, walks_are_sound}
use Rattle.vpc_laws.specs.Sound.{EndsWell}
use Rattle.vpc_laws.specs.Types.{Description, End, Header, Outcome, Phase, Stop, Verdict}
use Rattle.vpc_model.specs.Terms.{Appliances, Homes, IsAccepted, Walk, cuts_of_hops, is_end, is_sound, near_cuts, request_walk, same_end, verdict_by, verdict_of_arrival, verdict_of_request, walk_of}
use Rattle.vpc_model.specs.declared.outcomes.Outcome.TheVariants as outcomes
use Rattle.vpc_model.specs.declared.outcomes.Phase.TheVariants as phases
use Rattle.vpc_model.specs.declared.outcomes.Verdict.TheVariants as verdicts
use Rattle.vpc_model.specs.declared.stops.Stop.TheVariants as stops
use Rattle.box_images.proofs.BodyLemmas.{low_in_body}
use Rattle.box_walk.proofs.Telling.{request_among, request_arrives, request_led}
use Rattle.box_walk.specs.Terms.{AreRequests, DivideArrival, IsWalkOn, IsWalkTo, Journey, JourneysAreVerdicts, Tells, TellsJourney, arrived_at, goal_unless, journey_after, journey_by, journey_of, open_cuts, reached_end, stop_of, toward, whether, word_of_arrival}
use Rattle.box_walk.specs.declared.journeys.Journey.TheVariants as journeys
use Rattle.box_walk.specs.declared.walks.Ending.TheVariants as endings

-- ---- ends

pub same-itself : (e : End) → same_end e e ≡ true
same-itself e = let told = ends_are_told_apart e e in told.1 refl

pub same-only : (a b : End) → same_end a b ≡ true → a ≡ b
same-only a b is = let told = ends_are_told_apart a b in told.0 is

-- ---- one request

-- by the verdict is by what stops it
toward-stop : (end : End) (v : Verdict) → toward end (stop_of v) ≡ journey_by end v
toward-stop end verdicts.Through = refl
toward-stop end (verdicts.Stopped phase s) = refl

-- where it has arrived at another end, the verdict toward that end is that of its arrival
verdict-arrived : (d : Description) (a : Appliances) (homes : Homes) (end : End) (h k : Header) → (let w = request_walk d a homes.start h in w.outcome) ≡ outcomes.Arrived end k
    → verdict_by d a homes end h ≡ verdict_of_arrival d a homes end h (request_walk d a homes.start h) (reply_of k)
verdict-arrived d a homes end h k is =
    let w = request_walk d a homes.start h in
    ap (verdict_of_request d a homes end h w) is
    ∙ ap (λ (b : Bool). cond b (verdict_of_arrival d a homes end h w (reply_of k)) (verdicts.Stopped phases.Request (stops.WrongPlace end))) (same-itself end)

pub journey-arrived : (d : Description) (a : Appliances) (homes : Homes) (end : End) (h k : Header) → same_end end homes.start ≡ false → (let w = request_walk d a homes.start h in w.outcome) ≡ outcomes.Arrived end k
    → journey_of d a homes None h ≡ toward end (stop_of (verdict_by d a homes end h))
journey-arrived d a homes end h k apart is =
    let w = request_walk d a homes.start h in
    ap (journey_after d a homes h w) is
    ∙ (ap (λ (b : Bool). cond b (journeys.Stopped phases.Request (stops.WrongPlace end)) (journey_by end (verdict_of_arrival d a homes end h w (reply_of k)))) apart
    ∙ (ap (journey_by end) (sym (verdict-arrived d a homes end h k is)) ∙ sym (toward-stop end (verdict_by d a homes end h))))

journey-returned : (d : Description) (a : Appliances) (homes : Homes) (end : End) (h k : Header) → same_end end homes.start ≡ true → (let w = request_walk d a homes.start h in w.outcome) ≡ outcomes.Arrived end k
    → journey_of d a homes None h ≡ journeys.Stopped phases.Request (stops.WrongPlace end)
journey-returned d a homes end h k same is =
    let w = request_walk d a homes.start h in
    ap (journey_after d a homes h w) is
    ∙ ap (λ (b : Bool). cond b (journeys.Stopped phases.Request (stops.WrongPlace end)) (journey_by end (verdict_of_arrival d a homes end h w (reply_of k)))) same

-- ---- the law

reached-by : (goal end : End) (v : Verdict) → (journey_by goal v ≡ journeys.Reached end) → (goal ≡ end) × (v ≡ verdicts.Through)
reached-by goal end verdicts.Through is = (cc, refl)
reached-by goal end (verdicts.Stopped phase s) is = absurd cc

through-by : (goal : End) (v : Verdict) → v ≡ verdicts.Through → journey_by goal v ≡ journeys.Reached goal
through-by goal v is = ap (journey_by goal) is

module _ (d : Description) (a : Appliances) (homes : Homes) (end : End) (h : Header) (other : end ≢ homes.start) (w : Walk) where
  -- whether the request has arrived at the start
  by-start : (at : End) (k : Header) (b : Bool) → same_end at homes.start ≡ b
      → (cond b (journeys.Stopped phases.Request (stops.WrongPlace at)) (journey_by at (verdict_of_arrival d a homes at h w (reply_of k))) ≡ journeys.Reached end)
      → cond (same_end at end) (verdict_of_arrival d a homes end h w (reply_of k)) (verdicts.Stopped phases.Request (stops.WrongPlace at)) ≡ verdicts.Through
  by-start at k true e is = absurd cc
  by-start at k false e is =
      let reached = reached-by at end (verdict_of_arrival d a homes at h w (reply_of k)) is in
      ap (λ (b : Bool). cond b (verdict_of_arrival d a homes end h w (reply_of k)) (verdicts.Stopped phases.Request (stops.WrongPlace at))) (ap (λ (x : End). same_end x end) reached.0 ∙ same-itself end)
      ∙ (ap (λ (x : End). verdict_of_arrival d a homes x h w (reply_of k)) (sym reached.0) ∙ reached.1)

  by-end : (at : End) (k : Header) (b : Bool) → same_end at end ≡ b
      → cond b (verdict_of_arrival d a homes end h w (reply_of k)) (verdicts.Stopped phases.Request (stops.WrongPlace at)) ≡ verdicts.Through
      → (cond (same_end at homes.start) (journeys.Stopped phases.Request (stops.WrongPlace at)) (journey_by at (verdict_of_arrival d a homes at h w (reply_of k))) ≡ journeys.Reached end)
  by-end at k false e is = absurd cc
  by-end at k true e is = by (same_end at homes.start) refl
    where
      here : at ≡ end
      here = same-only at end e

      by : (b : Bool) → same_end at homes.start ≡ b
          → (cond b (journeys.Stopped phases.Request (stops.WrongPlace at)) (journey_by at (verdict_of_arrival d a homes at h w (reply_of k))) ≡ journeys.Reached end)
      by true back = absurd (other (sym here ∙ same-only at homes.start back))
      by false apart =
          through-by at (verdict_of_arrival d a homes at h w (reply_of k)) (ap (λ (x : End). verdict_of_arrival d a homes x h w (reply_of k)) here ∙ is) ∙ ap journeys.Reached here

  by-outcome : (o : Outcome) → (journey_after d a homes h w o ≡ journeys.Reached end) ↔ (verdict_of_request d a homes end h w o ≡ verdicts.Through)
  by-outcome (outcomes.Stopped s) = (λ is. absurd cc, λ is. absurd cc)
  by-outcome (outcomes.Arrived at k) = (by-start at k (same_end at homes.start) refl, by-end at k (same_end at end) refl)

pub journeys_are_verdicts : JourneysAreVerdicts
journeys_are_verdicts d a homes end h other =
    let w = request_walk d a homes.start h in
    by-outcome d a homes end h other w w.outcome

-- ---- all requests of a moment

-- where they arrive is a described end
pub arrives-end : (d : Description) (a : Appliances) (old new : BoxMoment) (end : End) → IsAccepted d → is_sound d old.place ≡ true
    → IsWalkOn d a labels.Opening old new (endings.Arrived end) → is_end d end ≡ true
arrives-end d a old new end accepted sound w =
    let low = low_of old.header.part in
    let told = walks_are_sound d a labels.Opening (moment_at low old) accepted sound in
    subst (λ (o : Outcome). EndsWell d o) ((w.walk low (low_in_body new.header.part old.header.part w.body)).outcome) told.1

-- the cuts at the places of the request's walk are among those of the journey
pub open-among : (d : Description) (a : Appliances) (start : End) (old : BoxMoment) → AreRequests start old → (cuts : CutLists) → AreAmong (open_cuts d a start (low_of old.header.part)) cuts
    → let w = walk_of d a labels.Opening (moment_at (low_of old.header.part) old) in AreAmong (cuts_of_hops d w.hops) cuts
open-among d a start old requests cuts e =
    let w = request_walk d a start (low_of old.header.part) in
    request_among d a start (arrived_at start w.outcome) old requests cuts e

pub journey_stops : (d : Description) (a : Appliances) (homes : Homes) (old new : BoxMoment) (s : Stop) → AreRequests homes.start old
    → IsWalkOn d a labels.Opening old new (endings.Stopped s)
    → TellsJourney (AreAmong (open_cuts d a homes.start (low_of old.header.part))) (journey_of d a homes None) old new (journeys.Stopped phases.Request s)
journey_stops d a homes old new s requests w = record {
  told = λ h inside. sym (ap (journey_after d a homes h (request_walk d a homes.start h)) (request_led d a homes.start old new (endings.Stopped s) requests w h inside).outcome);
  body = w.body;
  aligned = λ cuts e. w.aligned cuts (open-among d a homes.start old requests cuts e);
}

-- back at the start
pub journey_returns : (d : Description) (a : Appliances) (homes : Homes) (end : End) (old new : BoxMoment) → AreRequests homes.start old → same_end end homes.start ≡ true
    → IsWalkOn d a labels.Opening old new (endings.Arrived end)
    → TellsJourney (AreAmong (open_cuts d a homes.start (low_of old.header.part))) (journey_of d a homes None) old new (journeys.Stopped phases.Request (stops.WrongPlace end))
journey_returns d a homes end old new requests same w = record {
  told = λ h inside. sym (journey-returned d a homes end h _ same (request_led d a homes.start old new (endings.Arrived end) requests w h inside).outcome);
  body = w.body;
  aligned = λ cuts e. w.aligned cuts (open-among d a homes.start old requests cuts e);
}

-- at another end
pub journey_arrives : (d : Description) (a : Appliances) (homes : Homes) (end : End) (old mid new : BoxMoment) (told : Option (Phase × Stop)) (j : Journey) → AreRequests homes.start old → same_end end homes.start ≡ false
    → j ≡ toward end told
    → IsWalkOn d a labels.Opening old mid (endings.Arrived end)
    → Tells (DivideArrival d a end end mid) (word_of_arrival d a homes end end mid) mid new told
    → TellsJourney (AreAmong (open_cuts d a homes.start (low_of old.header.part))) (journey_of d a homes None) old new j
journey_arrives d a homes end old mid new told j requests apart is w k =
    let low = low_of old.header.part in
    let r = request_arrives d a homes end end old mid new told requests w k in
    let led : (h : Header) → holds h mid.header.part ≡ true → IsWalkTo (request_walk d a homes.start h) h mid (endings.Arrived end) = λ h inside. request_led d a homes.start old mid (endings.Arrived end) requests w h inside in
    record {
      told = λ h inside.
          is ∙ (ap (toward end) (r.told h inside)
          ∙ sym (journey-arrived d a homes end h _ apart (led h (within_holds new.header.part mid.header.part h k.body.within inside)).outcome));
      body = r.body;
      aligned = λ cuts e.
          r.aligned cuts (subst (λ (g : End). AreAmong (near_cuts d a homes.start g low) cuts) (ap (arrived_at homes.start) (led low (low_in_body mid.header.part old.header.part w.body)).outcome) e);
    }

-- ---- a goal

-- the goal is reached where nothing stops a request toward it
pub goal-reached : (goal : End) (v : Verdict) → goal_unless goal (whether (stop_of v)) ≡ reached_end (journey_by goal v)
goal-reached goal verdicts.Through = refl
goal-reached goal (verdicts.Stopped phase s) = refl

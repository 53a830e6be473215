-- Requests that miss the goal.
use Rattle.std.proofs.Common.{◌≡◌, ◌↔◌, ◌∙◌, Bool, None, Option, Some, ap, cond, false, refl, subst, sym}
use Rattle.vpc_base.specs.Terms.{AreAmong, CutLists, reply_of}
use Rattle.vpc_base.specs.declared.headers.Label.TheVariants as labels
use Rattle.header_boxes.specs.Boxes.{low_of}
use Rattle.box_steps.specs.declared.moment.BoxMoment.{BoxMoment}
use Rattle.vpc_laws.specs.Types.{Description, End, Header, Outcome, Phase, Stop, Verdict}
use Rattle.vpc_model.specs.Terms.{Appliances, Homes, Moment, Walk, appliances_of, near_cuts, request_walk, verdict_by, verdict_of_arrival, verdict_of_request, walk_of}
use Rattle.vpc_model.specs.declared.outcomes.Outcome.TheVariants as outcomes
use Rattle.vpc_model.specs.declared.outcomes.Phase.TheVariants as phases
use Rattle.vpc_model.specs.declared.outcomes.Verdict.TheVariants as verdicts
use Rattle.vpc_model.specs.declared.stops.Stop.TheVariants as stops
use Rattle.box_walk.proofs.Telling.{request_among}
use Rattle.box_walk.specs.Terms.{AreRequests, IsWalkMissed, NothingStopsThrough, Tells, TellsWhether, arrives_at, stop_of, whether}

-- a request that doesn't arrive at the goal is stopped
stopped-away : (d : Description) (a : Appliances) (homes : Homes) (goal : End) (h : Header) (w : Walk) (o : Outcome) → arrives_at goal o ≡ false
    → Some tt ≡ whether (stop_of (verdict_of_request d a homes goal h w o))
stopped-away d a homes goal h w (outcomes.Stopped s) e = refl
stopped-away d a homes goal h w (outcomes.Arrived end k) e =
    sym (ap (λ (b : Bool). whether (stop_of (cond b (verdict_of_arrival d a homes goal h w (reply_of k)) (verdicts.Stopped phases.Request (stops.WrongPlace end))))) e)

pub request_missed : (d : Description) (a : Appliances) (homes : Homes) (goal : End) (old new : BoxMoment) → AreRequests homes.start old → IsWalkMissed d a goal old new.header.part
    → TellsWhether (AreAmong (near_cuts d a homes.start goal (low_of old.header.part))) (λ h. whether (stop_of (verdict_by d a homes goal h))) old new (Some tt)
request_missed d a homes goal old new requests k = record {
  told = λ h inside.
      let walk = request_walk d a homes.start h in
      stopped-away d a homes goal h walk walk.outcome
      (subst (λ (m : Moment). let w = walk_of d a labels.Opening m in arrives_at goal w.outcome ≡ false) (requests h) (k.misses h inside));
  body = k.inside;
  aligned = λ cuts e. k.aligned cuts (request_among d a homes.start goal old requests cuts e);
}

-- what tells of a stop tells whether there is one
pub told_whether : (enough : CutLists → Type 0) (word : Header → Option (Phase × Stop)) (old new : BoxMoment) (told : Option (Phase × Stop)) (x : Option (Unit {0})) → x ≡ whether told
    → Tells enough word old new told → TellsWhether enough (λ h. whether (word h)) old new x
told_whether enough word old new told x is k = record {
  told = λ h inside. is ∙ ap whether (k.told h inside);
  body = k.body;
  aligned = k.aligned;
}

-- nothing stops what gets through, and nothing else
pub nothing_stops_through : NothingStopsThrough
nothing_stops_through a h = by (verdict_by a.network (appliances_of a.network) a.homes a.goal h)
  where
    by : (v : Verdict) → (whether (stop_of v) ≡ None) ↔ (v ≡ verdicts.Through)
    by verdicts.Through = (λ e. refl, λ e. refl)
    by (verdicts.Stopped phase s) = (λ e. absurd cc, λ e. absurd cc)

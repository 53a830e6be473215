-- The rows of one start: the ends that they reach are described.
use Rattle.std.proofs.Common.{◌≡◌, [], All, Bool, IfSome, List, None, Option, Some, cond, false, get_or, subst, sym, true, ℕ}
use Rattle.box_gather.specs.Over.{AreRowsOver, IsPartOf}
use Rattle.box_walk.specs.Terms.{Asking, Starting, journey_after, journey_by, reached_end, reached_of}
use Rattle.header_boxes.proofs.Held.{holds_low, valid_if_within}
use Rattle.header_boxes.specs.Boxes.{low_of}
use Rattle.ordered_cover.specs.declared.rows.Gathered.{Gathered}
use Rattle.vpc_base.specs.Header.{reply_of}
use Rattle.vpc_base.specs.declared.headers.Label.TheVariants as labels
use Rattle.vpc_laws.proofs.Telling.{start-sound, walks_are_sound}
use Rattle.vpc_laws.specs.Sound.{EndsWell}
use Rattle.vpc_laws.specs.Types.{Box5, Description, End, Header, Outcome, Row, Verdict}
use Rattle.vpc_model.specs.Terms.{Appliances, Homes, IsAccepted, Walk, cuts_of, is_end, request_walk, same_end, start_of, verdict_by, verdict_of_arrival}
use Rattle.vpc_model.specs.declared.outcomes.Outcome.TheVariants as outcomes
use Rattle.vpc_model.specs.declared.outcomes.Phase.TheVariants as phases
use Rattle.vpc_model.specs.declared.outcomes.Verdict.TheVariants as verdicts
use Rattle.vpc_model.specs.declared.stops.Stop.TheVariants as stops
use Rattle.box_walk.specs.declared.journeys.Journey.TheVariants as journeys
use Rattle.end_reach.specs.Walked.{IsGatheredIn}

-- ---- one request

by_verdict : (goal end : End) (v : Verdict) → reached_end (journey_by goal v) ≡ Some end → end ≡ goal
by_verdict goal end verdicts.Through is = cc
by_verdict goal end (verdicts.Stopped phase s) is = absurd cc

by_place : (at end : End) (back : Bool) (v : Verdict) → reached_end (cond back (journeys.Stopped phases.Request (stops.WrongPlace at)) (journey_by at v)) ≡ Some end → end ≡ at
by_place at end true v is = absurd cc
by_place at end false v is = by_verdict at end v is

by_outcome : (d : Description) (a : Appliances) (homes : Homes) (end : End) (h : Header) (w : Walk) (o : Outcome) → EndsWell d o → reached_end (journey_after d a homes h w o) ≡ Some end → is_end d end ≡ true
by_outcome d a homes end h w (outcomes.Stopped s) well is = absurd cc
by_outcome d a homes end h w (outcomes.Arrived at k) well is =
    subst (λ (e : End). is_end d e ≡ true) (sym (by_place at end (same_end at homes.start) (verdict_of_arrival d a homes at h w (reply_of k)) is)) well

-- what is reached is a described end
pub reached_is_end : (d : Description) (a : Appliances) (homes : Homes) (end : End) (goal : Option End) (h : Header) → IsAccepted d → is_end d homes.start ≡ true → IfSome goal (λ e. is_end d e ≡ true)
    → reached_of d a homes goal h ≡ Some end → is_end d end ≡ true
reached_is_end d a homes end (Some goal) h accepted there known is =
    subst (λ (e : End). is_end d e ≡ true) (sym (by_verdict goal end (verdict_by d a homes goal h) is)) known
reached_is_end d a homes end None h accepted there known is =
    let w = request_walk d a homes.start h in
    let sound = walks_are_sound d a labels.Opening (record { place = start_of homes.start; header = h; conns = []; nats = [] }) accepted (start-sound d homes.start there) in
    by_outcome d a homes end h w w.outcome sound.1 is

-- ---- rows

pub rows_reach_ends : (d : Description) (a : Appliances) (homes : Homes) (goal : Option End) (boxes : List Box5) (rows : List (Row End)) → IsAccepted d → is_end d homes.start ≡ true
    → IfSome goal (λ e. is_end d e ≡ true) → AreRowsOver (reached_of d a homes goal) (cuts_of d) boxes rows → All (λ r. is_end d r.word ≡ true) rows
rows_reach_ends d a homes goal boxes rows accepted there known are k x below =
    let row = get_or rows k x in
    let part : IsPartOf (cuts_of d) boxes row.part = are.parts k x below in
    let low = low_of row.part in
    reached_is_end d a homes row.word goal low accepted there known (are.word k x below low (holds_low row.part (valid_if_within row.part part.whole part.within)))

-- ---- what the probes tell

-- a probe from the same start in the same network, with the same homes
pub gathered_by_start : (s t : Starting) (boxes : List Box5) (room : ℕ) (g : Gathered End) → s ≡ t
    → IsGatheredIn s.network s.homes None boxes room g
    → IsGatheredIn t.network t.homes None boxes room g
gathered_by_start s t boxes room g same k =
    subst (λ (x : Starting). IsGatheredIn x.network x.homes None boxes room g) same k

pub gathered_by_ends : (s t : Asking) (boxes : List Box5) (room : ℕ) (g : Gathered End) → s ≡ t
    → IsGatheredIn s.network s.homes (Some s.goal) boxes room g
    → IsGatheredIn t.network t.homes (Some t.goal) boxes room g
gathered_by_ends s t boxes room g same k =
    subst (λ (x : Asking). IsGatheredIn x.network x.homes (Some x.goal) boxes room g) same k

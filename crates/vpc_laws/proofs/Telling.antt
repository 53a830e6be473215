-- In an accepted description walks go by sound places, and their ends and those of verdicts can be told.
use Rattle.std.proofs.Common.{◌≡◌, ◌&&◌, List, [], ◌∷◌, Option, Some, None, inl, inr, map, refl, subst, sym, true}
use Rattle.std.specs.List.{AllByRecursion}
use Rattle.std.proofs.lemmas.Bool.{cond_both}
use Rattle.vpc_base.specs.Header.{reply_of}
use Rattle.vpc_base.specs.declared.headers.Label.TheVariants.{Answer, Opening}
use Rattle.vpc_laws.specs.Types.{Description, End, Header, Hop, Label, Outcome}
use Rattle.vpc_model.specs.declared.places.End.TheVariants as ends
use Rattle.vpc_model.specs.declared.outcomes.Outcome.TheVariants as outcomes
use Rattle.vpc_model.specs.declared.outcomes.Phase.TheVariants as phases
use Rattle.vpc_model.specs.declared.stops.Stop.TheVariants as stops
use Rattle.vpc_model.specs.declared.outcomes.Verdict.TheVariants as verdicts
use Rattle.vpc_model.specs.Terms.{Appliances, Homes, IsAccepted, Moment, Next, Walk, alone, arrive, go, is_end, is_header, is_home, is_sound, reply_walk, request_walk, same_end, start_of, step_of, stop, verdict_of, verdict_of_arrival, verdict_of_reply, verdict_of_request, walk_of}
use Rattle.vpc_laws.specs.Terms.{EndsSo, EndsWell, Follows, IsNext, IsSoundHop, IsTold, LeadsWell, hop_of, last_moment}
use Rattle.vpc_laws.proofs.Sounding.{steps_are_sound}
use Rattle.vpc_laws.proofs.Stepping.{walks_are_of_steps}

-- ---- walks

next-sound : (d : Description) (appliances : Appliances) (label : Label) (m n : Moment) → IsAccepted d → is_sound d m.place ≡ true → IsNext d appliances label m n → is_sound d n.place ≡ true
next-sound d appliances label m n accepted sound next = subst (LeadsWell d) next.goes (steps_are_sound d appliances label m accepted sound).0

last-sound : (d : Description) (appliances : Appliances) (label : Label) (m : Moment) (rest : List Moment) → IsAccepted d → is_sound d m.place ≡ true → Follows d appliances label m rest → let last = last_moment m rest in is_sound d last.place ≡ true
last-sound d appliances label m [] accepted sound follows = sound
last-sound d appliances label m (n ∷ rest) accepted sound follows = last-sound d appliances label n rest accepted (next-sound d appliances label m n accepted sound follows.0) follows.1

hops-sound : (d : Description) (appliances : Appliances) (label : Label) (m : Moment) (rest : List Moment) → IsAccepted d → is_sound d m.place ≡ true → Follows d appliances label m rest → AllByRecursion (IsSoundHop d) (map (hop_of d appliances label) (m ∷ rest))
hops-sound d appliances label m [] accepted sound follows = ((sound, (steps_are_sound d appliances label m accepted sound).1), tt)
hops-sound d appliances label m (n ∷ rest) accepted sound follows =
    ((sound, (steps_are_sound d appliances label m accepted sound).1), hops-sound d appliances label n rest accepted (next-sound d appliances label m n accepted sound follows.0) follows.1)

ends-well : (d : Description) (hops : List Hop) (h : Header) (x : Next) (outcome : Outcome) → LeadsWell d x → EndsSo hops h x outcome → EndsWell d outcome
ends-well d hops h (arrive end) outcome well is = subst (EndsWell d) (sym is) well
ends-well d hops h (stop s) outcome well is = subst (EndsWell d) (sym is) well
ends-well d hops h (go p k) outcome well (inl (there, is)) = subst (EndsWell d) (sym is) well
ends-well d hops h (go p k) outcome well (inr (new, (many, is))) = subst (EndsWell d) (sym is) well

pub walks_are_sound : (d : Description) (appliances : Appliances) (label : Label) (m : Moment) → IsAccepted d → is_sound d m.place ≡ true
    → let w = walk_of d appliances label m in AllByRecursion (IsSoundHop d) w.hops × EndsWell d w.outcome
walks_are_sound d appliances label m accepted sound =
    let w = walk_of d appliances label m in
    let is = walks_are_of_steps d appliances label m in
    let last = last_moment m is.rest in
    let s = step_of d appliances label last in (
      subst (AllByRecursion (IsSoundHop d)) (sym is.hops) (hops-sound d appliances label m is.rest accepted sound is.follows),
      ends-well d w.hops last.header s.next w.outcome (steps_are_sound d appliances label last accepted (last-sound d appliances label m is.rest accepted sound is.follows)).0 is.ends,
    )

-- ---- verdicts

pub start-sound : (d : Description) (end : End) → is_end d end ≡ true → is_sound d (start_of end) ≡ true
start-sound d (ends.Interface i) e = e
start-sound d ends.Internet e = refl
start-sound d (ends.Far k) e = e

reply-told : (d : Description) (homes : Homes) (h : Header) (outcome : Outcome) → EndsWell d outcome → IsTold d (verdict_of_reply homes h outcome)
reply-told d homes h (outcomes.Stopped s) well = well
reply-told d homes h (outcomes.Arrived end k) well =
    cond_both (is_home homes end && is_header k (reply_of h)) verdicts.Through (verdicts.Stopped phases.Reply (stops.WrongReturn end)) (IsTold d) (λ _. tt) (λ _. well)

arrival-told : (d : Description) (appliances : Appliances) (homes : Homes) (goal : End) (h : Header) (request : Walk) (r : Option Header) → IsAccepted d → is_end d goal ≡ true → IsTold d (verdict_of_arrival d appliances homes goal h request r)
arrival-told d appliances homes goal h request None accepted there = there
arrival-told d appliances homes goal h request (Some r) accepted there =
    let reply = reply_walk d appliances goal r request in
    reply-told d homes h reply.outcome (walks_are_sound d appliances Answer (record { place = start_of goal; header = r; conns = request.conns; nats = request.nats }) accepted (start-sound d goal there)).1

request-told : (d : Description) (appliances : Appliances) (homes : Homes) (goal : End) (h : Header) (request : Walk) (outcome : Outcome) → IsAccepted d → is_end d goal ≡ true → EndsWell d outcome → IsTold d (verdict_of_request d appliances homes goal h request outcome)
request-told d appliances homes goal h request (outcomes.Stopped s) accepted there well = well
request-told d appliances homes goal h request (outcomes.Arrived end k) accepted there well =
    cond_both (same_end end goal) (verdict_of_arrival d appliances homes goal h request (reply_of k)) (verdicts.Stopped phases.Request (stops.WrongPlace end)) (IsTold d)
    (λ _. arrival-told d appliances homes goal h request (reply_of k) accepted there) (λ _. well)

pub verdicts_are_told : (d : Description) (appliances : Appliances) (start goal : End) (h : Header) → IsAccepted d → is_end d start ≡ true → is_end d goal ≡ true → IsTold d (verdict_of d appliances start goal h)
verdicts_are_told d appliances start goal h accepted from there =
    let request = request_walk d appliances start h in
    request-told d appliances (alone start) goal h request request.outcome accepted there (walks_are_sound d appliances Opening (record { place = start_of start; header = h; conns = []; nats = [] }) accepted (start-sound d start from)).1

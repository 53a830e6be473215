-- Whether a request arrives and its reply returns.
use Rattle.std.specs.List.{list_any}
use Rattle.std.specs.Prelude.{◌==◌, ◌&&◌, ◌||◌, [], if◌then◌else◌, Bool, List, None, Option, Some, false, true}
use Rattle.vpc_model.specs.Types.{Description, End, FarNo, Header, Hop, Outcome, Verdict}
use Rattle.vpc_model.specs.declared.places.End.TheVariants as ends
use Rattle.vpc_base.specs.declared.headers.Label.TheVariants as labels
use Rattle.vpc_model.specs.declared.outcomes.Outcome.TheVariants as outcomes
use Rattle.vpc_model.specs.declared.outcomes.Phase.TheVariants as phases
use Rattle.vpc_model.specs.declared.stops.Stop.TheVariants as stops
use Rattle.vpc_model.specs.declared.outcomes.Verdict.TheVariants as verdicts
use Rattle.vpc_base.specs.Header.{reply_of}
use Rattle.vpc_model.specs.Appliances.{Appliances}
use Rattle.vpc_model.specs.Connections.{is_header}
use Rattle.vpc_model.specs.Place.{start_of}
use Rattle.vpc_model.specs.Walk.{Walk, walk_of}

-- the same interface or network, or the internet both
abbrev pub same_end : End → End → Bool
same_end (ends.Interface i) (ends.Interface j) = i.0 == j.0
same_end ends.Internet ends.Internet = true
same_end (ends.Far k) (ends.Far l) = k.0 == l.0
same_end _ _ = false

-- the walk of a request, with nothing remembered before it (profile)
abbrev pub request_walk : Description → Appliances → End → Header → Walk
request_walk d appliances start h = walk_of d appliances labels.Opening (record { place = start_of start; header = h; conns = []; nats = [] })

-- the walk of a reply from the target, with what the request left (profile)
abbrev pub reply_walk : Description → Appliances → End → Header → Walk → Walk
reply_walk d appliances goal r request = walk_of d appliances labels.Answer (record { place = start_of goal; header = r; conns = request.conns; nats = request.nats })

-- ---- where replies return to

-- where the replies of a start's requests may arrive: there and, of a network that isn't described, in others behind which the
-- same network is taken to lie (profile)
pub record Homes : Type 0 where
  pub start : End
  pub links : List FarNo

-- at the start alone
abbrev pub alone : End → Homes
alone start = record { start = start; links = [] }

-- of a network that isn't described in all of these; else at the start alone
abbrev pub homes_among : List FarNo → End → Homes
homes_among links (ends.Interface i) = alone (ends.Interface i)
homes_among links ends.Internet = alone ends.Internet
homes_among links (ends.Far k) = record { start = ends.Far k; links = links }

-- a reply may arrive at the end
abbrev pub is_home : Homes → End → Bool
is_home homes end = list_any (λ l. same_end end (ends.Far l)) homes.links || same_end end homes.start

-- ---- verdicts

-- how a reply's walk ends: it should return home as the reply of the request h (profile)
abbrev pub verdict_of_reply : Homes → Header → Outcome → Verdict
verdict_of_reply homes h (outcomes.Stopped s) = verdicts.Stopped phases.Reply s
verdict_of_reply homes h (outcomes.Arrived end k) = if is_home homes end && is_header k (reply_of h) then verdicts.Through else verdicts.Stopped phases.Reply (stops.WrongReturn end)

-- the reply of what arrived at the target (profile)
abbrev pub verdict_of_arrival : Description → Appliances → Homes → End → Header → Walk → Option Header → Verdict
verdict_of_arrival d appliances homes goal h request None = verdicts.Stopped phases.Reply (stops.NoReply goal)
verdict_of_arrival d appliances homes goal h request (Some r) = let reply = reply_walk d appliances goal r request in verdict_of_reply homes h reply.outcome

-- how a request's walk ends: it should arrive at the target, and have a reply (profile)
abbrev pub verdict_of_request : Description → Appliances → Homes → End → Header → Walk → Outcome → Verdict
verdict_of_request d appliances homes goal h request (outcomes.Stopped s) = verdicts.Stopped phases.Request s
verdict_of_request d appliances homes goal h request (outcomes.Arrived end k) =
    if same_end end goal then verdict_of_arrival d appliances homes goal h request (reply_of k) else verdicts.Stopped phases.Request (stops.WrongPlace end)

-- the verdict of a request with this header to the target, whose reply may arrive at any of its homes (profile)
abbrev pub verdict_by : Description → Appliances → Homes → End → Header → Verdict
verdict_by d appliances homes goal h = let request = request_walk d appliances homes.start h in verdict_of_request d appliances homes goal h request request.outcome

-- and at the start alone (profile)
abbrev pub verdict_of : Description → Appliances → End → End → Header → Verdict
verdict_of d appliances start goal h = verdict_by d appliances (alone start) goal h

-- ---- the hops of the reply

-- of the reply, where there is one
abbrev pub hops_of_reply : Description → Appliances → End → Walk → Option Header → List Hop
hops_of_reply d appliances goal request None = []
hops_of_reply d appliances goal request (Some r) = let w = reply_walk d appliances goal r request in w.hops

-- of the reply of what arrived at the target
abbrev pub hops_after : Description → Appliances → End → Walk → Outcome → List Hop
hops_after d appliances goal request (outcomes.Stopped s) = []
hops_after d appliances goal request (outcomes.Arrived end k) =
    if same_end end goal then hops_of_reply d appliances goal request (reply_of k) else []

-- the hops of the reply of a request from the start to the target; none where the request doesn't arrive there, or has no reply
abbrev pub reply_hops : Description → Appliances → End → End → Header → List Hop
reply_hops d appliances start goal h = let request = request_walk d appliances start h in hops_after d appliances goal request request.outcome

-- What packets do in small networks.
use Rattle.std.specs.Prelude.{◌∷◌, ◌≡◌, [], Bool, List, None, Some, codes, false, map, true, ℕ}
use Rattle.vpc_laws.specs.Types.{AttNo, By, Description, Dir, End, EniNo, Header, Hop, Label, NatNo, Outcome, Place, SubnetNo, Verdict, VpcNo}
use Rattle.vpc_model.specs.declared.outcomes.By.TheVariants as bys
use Rattle.vpc_base.specs.declared.headers.Dir.TheVariants as dirs
use Rattle.vpc_model.specs.declared.places.End.TheVariants as ends
use Rattle.vpc_model.specs.declared.places.Came.TheVariants as from
use Rattle.vpc_base.specs.declared.headers.Label.TheVariants as labels
use Rattle.vpc_model.specs.declared.outcomes.Outcome.TheVariants as outcomes
use Rattle.vpc_model.specs.declared.outcomes.Phase.TheVariants as phases
use Rattle.vpc_model.specs.declared.places.Place.TheVariants as places
use Rattle.vpc_model.specs.declared.stops.Stop.TheVariants as stops
use Rattle.vpc_model.specs.declared.rows.Target.TheVariants as targets
use Rattle.vpc_model.specs.declared.places.EnterBy.TheVariants as through
use Rattle.vpc_model.specs.declared.outcomes.Verdict.TheVariants as verdicts
use Rattle.vpc_examples.specs.Networks.{acl_1, anywhere, behind_nat, block, equal_routes, group, high_ports_only, host_at_attachment, https_from, https_from_group, learnt_route, learnt_routes, low_ports_in, one_list, one_subnet, open_rows, peered, public_hosts, route, rows_out_of_order, shut_attachment, tcp_row, three_routes, transit, transit_loop, two_subnets, v4}
use Rattle.vpc_model.specs.Terms.{Connection, Translation, Walk, acl_verdict, appliances_of, chosen_route, is_tracked, new_translation, shares, verdict_of, walk_of}

-- ---- rows by their places, and packets

abbrev pub vpc : ℕ → VpcNo
vpc k = record { 0 = k }

abbrev pub subnet : ℕ → SubnetNo
subnet k = record { 0 = k }

abbrev pub eni : ℕ → EniNo
eni k = record { 0 = k }

abbrev pub nat : ℕ → NatNo
nat k = record { 0 = k }

abbrev pub att : ℕ → AttNo
att k = record { 0 = k }

abbrev pub tcp : ℕ → ℕ → ℕ → ℕ → Header
tcp src dst p q = record { proto = 6; src = src; dst = dst; p = p; q = q }

abbrev pub rule : ℕ → Dir → ℕ → By
rule group dir number = bys.Rule (record { group = record { 0 = group }; dir = dir; number = number })

abbrev pub hop : Place → Header → Hop
hop p h = record { place = p; header = h; by = bys.Nothing }

abbrev pub hop_by : Place → Header → By → Hop
hop_by p h by = record { place = p; header = h; by = by }

abbrev pub connection : ℕ → Dir → Header → Connection
connection k dir h = record { eni = eni k; dir = dir; header = h }

-- the walk of a packet that starts at a place, with nothing remembered
abbrev pub first_walk : Description → Label → Place → Header → Walk
first_walk d label p h = walk_of d (appliances_of d) label (record { place = p; header = h; conns = []; nats = [] })

-- the verdict of a request, with the description's own appliances
abbrev pub verdict_in : Description → End → End → Header → Verdict
verdict_in d start goal h = verdict_of d (appliances_of d) start goal h

-- the walk of a packet after another's
abbrev pub walk_after : Description → Label → Walk → Place → Header → Walk
walk_after d label w p h = walk_of d (appliances_of d) label (record { place = p; header = h; conns = w.conns; nats = w.nats })

abbrev pub outcome_of : Walk → Outcome
outcome_of w = w.outcome

abbrev pub hops_of : Walk → List Hop
hops_of w = w.hops

abbrev pub places_of : Walk → List Place
places_of w = map (λ h. h.place) w.hops

-- ---- choices among rows

-- the longest block wins wherever it stands, also where its target is gone
abbrev pub LongestRouteIsChosen : Type 0
LongestRouteIsChosen =
    (chosen_route one_list three_routes (v4 10 0 2 20) ≡ Some 2)
    × ((chosen_route one_list three_routes (v4 10 0 1 10) ≡ Some 1)
    × (chosen_route one_list three_routes (v4 192 0 2 1) ≡ Some 0))

-- of equally long ones a block wins over a prefix list, and both over a propagated route; a longer entry of a prefix list wins over a block
abbrev pub TiesAreByKind : Type 0
TiesAreByKind =
    (chosen_route one_list equal_routes (v4 10 0 2 20) ≡ Some 2)
    × (chosen_route one_list equal_routes (v4 10 0 1 10) ≡ Some 1)

-- a propagated route doesn't stand beside a local one, however long it is; where nothing matches no route is chosen
abbrev pub LocalRouteIsChosen : Type 0
LocalRouteIsChosen =
    (chosen_route one_list learnt_routes (v4 10 0 2 20) ≡ Some 0)
    × (chosen_route one_list learnt_routes (v4 10 1 2 20) ≡ None)

-- a propagated route to the VPC itself counts like a static one
abbrev pub PropagatedLocalCounts : Type 0
PropagatedLocalCounts = chosen_route one_list (route (block (v4 10 0 0 0) 16) targets.Local ∷ learnt_route (block (v4 10 0 2 0) 24) targets.Local ∷ []) (v4 10 0 2 20) ≡ Some 1

-- the least number decides, and of equal ones the first row; where no row matches the last rule refuses
abbrev pub LeastNumberDecides : Type 0
LeastNumberDecides =
    (acl_verdict rows_out_of_order dirs.Inward (tcp (v4 10 0 1 10) (v4 10 0 2 20) 5000 443) ≡ (true, 100))
    × ((acl_verdict rows_out_of_order dirs.Inward (tcp (v4 192 0 2 1) (v4 10 0 2 20) 5000 443) ≡ (false, 200))
    × (acl_verdict rows_out_of_order dirs.Outward (tcp (v4 10 0 1 10) (v4 10 0 2 20) 5000 443) ≡ (false, 32767)))

-- rows for TCP say nothing of UDP, nor of the ports beside their range
abbrev pub RowsAreOfOneProtocol : Type 0
RowsAreOfOneProtocol =
    let rows = tcp_row 100 false true 80 443 anywhere ∷ [] in
    let h = tcp (v4 192 0 2 1) (v4 10 0 2 20) 5000 in
    (acl_verdict rows dirs.Inward (record (h 443) { proto = 17 }) ≡ (false, 32767))
    × ((acl_verdict rows dirs.Inward (h 79) ≡ (false, 32767))
    × ((acl_verdict rows dirs.Inward (h 80) ≡ (true, 100))
    × ((acl_verdict rows dirs.Inward (h 443) ≡ (true, 100))
    × (acl_verdict rows dirs.Inward (h 444) ≡ (false, 32767)))))

-- ---- inside one subnet

abbrev pub a_to_b : ℕ → Header
a_to_b q = tcp (v4 10 0 1 10) (v4 10 0 1 20) 5000 q

-- an answer is tracked where the open that it answers passed, in the other direction, and nowhere else
abbrev pub AnswersAreTracked : Type 0
AnswersAreTracked =
    let answer = tcp (v4 10 0 1 20) (v4 10 0 1 10) 443 5000 in
    let conns = connection 0 dirs.Outward (a_to_b 443) ∷ [] in
    (is_tracked conns (eni 0) dirs.Inward answer ≡ true)
    × ((is_tracked conns (eni 0) dirs.Outward answer ≡ false)
    × ((is_tracked conns (eni 1) dirs.Inward answer ≡ false)
    × ((is_tracked conns (eni 0) dirs.Inward (record answer { q = 5001 }) ≡ false)
    × (is_tracked conns (eni 0) dirs.Inward (a_to_b 443) ≡ false))))

-- the same open once more is remembered once
abbrev pub RemembersOnce : Type 0
RemembersOnce =
    let w = first_walk one_subnet labels.Opening (places.OutOf (eni 0)) (a_to_b 443) in
    let again = walk_after one_subnet labels.Opening w (places.OutOf (eni 0)) (a_to_b 443) in
    again.conns ≡ w.conns

-- a request to port 443 is delivered, by the outbound rule of the one host and the inbound rule of the other
abbrev pub IsDelivered : Type 0
IsDelivered =
    first_walk one_subnet labels.Opening (places.OutOf (eni 0)) (a_to_b 443) ≡ record {
      hops = hop_by (places.OutOf (eni 0)) (a_to_b 443) (rule 0 dirs.Outward 1)
          ∷ hop (places.Router (subnet 0) (from.Host (eni 0))) (a_to_b 443)
          ∷ hop_by (places.Into (eni 1)) (a_to_b 443) (rule 1 dirs.Inward 1)
          ∷ [];
      outcome = outcomes.Arrived (ends.Interface (eni 1)) (a_to_b 443);
      conns = connection 0 dirs.Outward (a_to_b 443) ∷ connection 1 dirs.Inward (a_to_b 443) ∷ [];
      nats = [];
    }

-- a request to port 80 is blocked by the groups of the other host; what passed on the way is remembered
abbrev pub IsBlocked : Type 0
IsBlocked =
    first_walk one_subnet labels.Opening (places.OutOf (eni 0)) (a_to_b 80) ≡ record {
      hops = hop_by (places.OutOf (eni 0)) (a_to_b 80) (rule 0 dirs.Outward 1)
          ∷ hop (places.Router (subnet 0) (from.Host (eni 0))) (a_to_b 80)
          ∷ hop (places.Into (eni 1)) (a_to_b 80)
          ∷ [];
      outcome = outcomes.Stopped (stops.GroupsIn (eni 1));
      conns = connection 0 dirs.Outward (a_to_b 80) ∷ [];
      nats = [];
    }

-- ---- between two subnets

abbrev pub a_to_c : ℕ → Header
a_to_c p = tcp (v4 10 0 1 10) (v4 10 0 2 20) p 443

-- a request from a member of the group that the other host's rule names gets through
abbrev pub GetsThrough : Type 0
GetsThrough = verdict_in (two_subnets (acl_1 ∷ [])) (ends.Interface (eni 0)) (ends.Interface (eni 1)) (a_to_c 0) ≡ verdicts.Through

-- an ACL stops the reply to a low port by its last rule, and lets that to a high port through
abbrev pub ReplyIsStopped : Type 0
ReplyIsStopped = verdict_in high_ports_only (ends.Interface (eni 0)) (ends.Interface (eni 1)) (a_to_c 1024) ≡ verdicts.Stopped phases.Reply (stops.AclOut (record { 0 = 1 }) 32767)

abbrev pub ReplyIsAllowed : Type 0
ReplyIsAllowed = verdict_in high_ports_only (ends.Interface (eni 0)) (ends.Interface (eni 1)) (a_to_c 32768) ≡ verdicts.Through

-- a rule that names a group counts its members' private addresses alone: a request that comes by way of the internet
-- has a public source, and needs a rule that names it
abbrev pub a_to_public : Header
a_to_public = tcp (v4 10 0 1 10) (v4 203 0 113 20) 0 443

abbrev pub MembersArePrivate : Type 0
MembersArePrivate =
    (verdict_in (public_hosts (https_from_group (codes "sg-a"))) (ends.Interface (eni 0)) (ends.Interface (eni 1)) a_to_public ≡ verdicts.Stopped phases.Request (stops.GroupsIn (eni 1)))
    × (verdict_in (public_hosts (https_from (block (v4 203 0 113 10) 32))) (ends.Interface (eni 0)) (ends.Interface (eni 1)) a_to_public ≡ verdicts.Through)

-- an answer to nothing is stopped by the groups
abbrev pub StrayIsStopped : Type 0
StrayIsStopped =
    let h = tcp (v4 10 0 2 20) (v4 10 0 1 10) 443 0 in
    first_walk (two_subnets (acl_1 ∷ [])) labels.Answer (places.OutOf (eni 1)) h ≡ record {
      hops = hop (places.OutOf (eni 1)) h ∷ [];
      outcome = outcomes.Stopped (stops.GroupsOut (eni 1));
      conns = [];
      nats = [];
    }

-- ---- behind a NAT gateway

-- from the first host, and from the second, to a server on the internet
abbrev pub a_to_server : ℕ → Header
a_to_server p = tcp (v4 10 0 1 10) (v4 198 51 100 7) p 443

abbrev pub b_to_server : ℕ → Header
b_to_server p = tcp (v4 10 0 2 20) (v4 198 51 100 7) p 443

-- an answer of the server to this port: as it travels the internet, and inside the NAT gateway's VPC
abbrev pub from_server : ℕ → Header
from_server p = tcp (v4 198 51 100 7) (v4 203 0 113 5) 443 p

abbrev pub from_server_inside : ℕ → Header
from_server_inside p = tcp (v4 198 51 100 7) (v4 10 0 3 5) 443 p

-- what the gateway makes of the request: inside its VPC, and as it travels the internet
abbrev pub translated : ℕ → Header
translated p = tcp (v4 10 0 3 5) (v4 198 51 100 7) p 443

abbrev pub published : ℕ → Header
published p = tcp (v4 203 0 113 5) (v4 198 51 100 7) p 443

-- a request from port 0 leaves from port 1024, and its reply returns to port 0
abbrev pub ReturnsThroughNat : Type 0
ReturnsThroughNat = verdict_in (behind_nat low_ports_in) (ends.Interface (eni 0)) ends.Internet (a_to_server 0) ≡ verdicts.Through

abbrev pub LeavesThroughNat : Type 0
LeavesThroughNat =
    first_walk (behind_nat low_ports_in) labels.Opening (places.OutOf (eni 0)) (a_to_server 0) ≡ record {
      hops = hop_by (places.OutOf (eni 0)) (a_to_server 0) (rule 0 dirs.Outward 1)
          ∷ hop (places.Router (subnet 0) (from.Host (eni 0))) (a_to_server 0)
          ∷ hop (places.NatOut (nat 0)) (a_to_server 0)
          ∷ hop (places.Router (subnet 2) (from.Nat (nat 0))) (translated 1024)
          ∷ hop (places.IgwOut (vpc 0)) (translated 1024)
          ∷ hop places.Internet (published 1024)
          ∷ [];
      outcome = outcomes.Arrived ends.Internet (published 1024);
      conns = connection 0 dirs.Outward (a_to_server 0) ∷ [];
      nats = record { nat = nat 0; before = a_to_server 0; after = translated 1024 } ∷ [];
    }

abbrev pub ComesBackThroughNat : Type 0
ComesBackThroughNat =
    let back = tcp (v4 198 51 100 7) (v4 10 0 1 10) 443 0 in
    hops_of (walk_after (behind_nat low_ports_in) labels.Answer (first_walk (behind_nat low_ports_in) labels.Opening (places.OutOf (eni 0)) (a_to_server 0)) places.Internet (from_server 1024))
    ≡ hop places.Internet (from_server 1024)
    ∷ hop (places.IgwIn (vpc 0)) (from_server 1024)
    ∷ hop (places.Enter (vpc 0) through.Gateway) (from_server_inside 1024)
    ∷ hop (places.NatIn (nat 0)) (from_server_inside 1024)
    ∷ hop (places.Router (subnet 2) (from.Nat (nat 0))) back
    ∷ hop_by (places.Into (eni 0)) back bys.Tracked
    ∷ []

-- two hosts send from one port to one server: the gateway gives the second the next port
abbrev pub both_requests : Walk
both_requests = walk_after (behind_nat open_rows) labels.Opening (first_walk (behind_nat open_rows) labels.Opening (places.OutOf (eni 0)) (a_to_server 5000)) (places.OutOf (eni 1)) (b_to_server 5000)

abbrev pub PortsDiffer : Type 0
PortsDiffer =
    (outcome_of (first_walk (behind_nat open_rows) labels.Opening (places.OutOf (eni 0)) (a_to_server 5000)) ≡ outcomes.Arrived ends.Internet (published 5000))
    × (outcome_of both_requests ≡ outcomes.Arrived ends.Internet (published 5001))

-- a well-known port is moved by 1,024, a taken port gives the next one, and 1,024 follows the last
abbrev pub port_after : List Translation → ℕ → ℕ
port_after ts p = let t = new_translation ts (nat 0) (v4 10 0 3 5) (a_to_server p) in t.after.p

abbrev pub taken_by_b : ℕ → Translation
taken_by_b p = record { nat = nat 0; before = b_to_server p; after = translated p }

abbrev pub PortsAreGivenInOrder : Type 0
PortsAreGivenInOrder =
    (map (port_after []) (0 ∷ 1023 ∷ 1024 ∷ 65535 ∷ []) ≡ 1024 ∷ 2047 ∷ 1024 ∷ 65535 ∷ [])
    × ((port_after (taken_by_b 65535 ∷ []) 65535 ≡ 1024)
    × ((port_after (taken_by_b 65535 ∷ taken_by_b 1024 ∷ []) 65535 ≡ 1025)
    × ((port_after (record (taken_by_b 5000) { nat = nat 1 } ∷ []) 5000 ≡ 5000)
    × (port_after (record (taken_by_b 5000) { after = record (translated 5000) { q = 80 } } ∷ []) 5000 ≡ 5000))))

-- translations share their ports where gateway, protocol, destination and q are the same, whatever was sent from where
abbrev pub PortsAreSharedByFlow : Type 0
PortsAreSharedByFlow =
    let sharing : Translation → Bool = shares (nat 0) (a_to_server 5000) in
    let of_header : Header → Translation = (λ h. record { nat = nat 0; before = b_to_server 5000; after = h }) in
    map sharing (taken_by_b 5000
    ∷ of_header (record (translated 6000) { src = v4 10 0 3 6 })
    ∷ record (taken_by_b 5000) { nat = nat 1 }
    ∷ of_header (record (translated 5000) { proto = 17 })
    ∷ of_header (record (translated 5000) { dst = v4 198 51 100 8 })
    ∷ of_header (record (translated 5000) { q = 80 })
    ∷ [])
    ≡ true ∷ true ∷ false ∷ false ∷ false ∷ false ∷ []

-- a port that is taken for one server is free for another one, and for another protocol: two hosts that send from it both keep it,
-- and each answer finds its host
abbrev pub PortsAreOfOneServer : Type 0
PortsAreOfOneServer =
    let d : Description = behind_nat open_rows in
    let to_other : Header = record (b_to_server 5000) { dst = v4 198 51 100 8 } in
    let by_udp : Header = record (b_to_server 5000) { proto = 17 } in
    let sent_by_a : Walk = first_walk d labels.Opening (places.OutOf (eni 0)) (a_to_server 5000) in
    let other : Walk = walk_after d labels.Opening sent_by_a (places.OutOf (eni 1)) to_other in
    let answered : Walk → Header → Outcome = (λ w h. outcome_of (walk_after d labels.Answer w places.Internet h)) in
    (outcome_of sent_by_a ≡ outcomes.Arrived ends.Internet (published 5000))
    × ((outcome_of other ≡ outcomes.Arrived ends.Internet (record (published 5000) { dst = v4 198 51 100 8 }))
    × ((answered other (record (from_server 5000) { src = v4 198 51 100 8 }) ≡ outcomes.Arrived (ends.Interface (eni 1)) (tcp (v4 198 51 100 8) (v4 10 0 2 20) 443 5000))
    × ((answered other (from_server 5000) ≡ outcomes.Arrived (ends.Interface (eni 0)) (tcp (v4 198 51 100 7) (v4 10 0 1 10) 443 5000))
    × (outcome_of (walk_after d labels.Opening sent_by_a (places.OutOf (eni 1)) by_udp) ≡ outcomes.Arrived ends.Internet (record (published 5000) { proto = 17 })))))

-- the ACL of the gateway's subnet lets in answers to ports up to 2047
abbrev pub AnswersMeetTheAcl : Type 0
AnswersMeetTheAcl =
    (verdict_in (behind_nat low_ports_in) (ends.Interface (eni 0)) ends.Internet (a_to_server 2047) ≡ verdicts.Through)
    × (verdict_in (behind_nat low_ports_in) (ends.Interface (eni 0)) ends.Internet (a_to_server 2048) ≡ verdicts.Stopped phases.Reply (stops.AclIn (record { 0 = 1 }) 32767))

-- each answer reaches the host whose port it names, and one to another port is stopped
abbrev pub AnswersFindTheirHosts : Type 0
AnswersFindTheirHosts =
    (outcome_of (walk_after (behind_nat open_rows) labels.Answer both_requests places.Internet (from_server 5001)) ≡ outcomes.Arrived (ends.Interface (eni 1)) (tcp (v4 198 51 100 7) (v4 10 0 2 20) 443 5000))
    × ((outcome_of (walk_after (behind_nat open_rows) labels.Answer both_requests places.Internet (from_server 5000)) ≡ outcomes.Arrived (ends.Interface (eni 0)) (tcp (v4 198 51 100 7) (v4 10 0 1 10) 443 5000))
    × (outcome_of (walk_after (behind_nat open_rows) labels.Answer both_requests places.Internet (from_server 5002)) ≡ outcomes.Stopped (stops.NatUnsolicited (nat 0))))

-- ---- between VPCs

-- a peering carries nothing for a third VPC
abbrev pub PeeringIsNotTransitive : Type 0
PeeringIsNotTransitive = verdict_in peered (ends.Interface (eni 0)) (ends.Interface (eni 2)) (tcp (v4 10 1 1 10) (v4 10 3 1 10) 5000 443) ≡ verdicts.Stopped phases.Request (stops.PeerDestination (record { 0 = 0 }))

-- a transit gateway forwards between VPCs, but for what a longer route drops
abbrev pub TransitForwards : Type 0
TransitForwards = verdict_in transit (ends.Interface (eni 0)) (ends.Interface (eni 1)) (tcp (v4 10 1 1 10) (v4 10 2 1 10) 0 443) ≡ verdicts.Through

abbrev pub TransitDrops : Type 0
TransitDrops = verdict_in transit (ends.Interface (eni 0)) (ends.Interface (eni 2)) (tcp (v4 10 1 1 10) (v4 10 2 9 10) 0 443) ≡ verdicts.Stopped phases.Request (stops.TgwBlackhole (record { 0 = 0 }) 1)

-- two transit tables that send everything to each other make a loop, seen at its ninth place
abbrev pub TransitLoops : Type 0
TransitLoops =
    let w = first_walk transit_loop labels.Opening (places.OutOf (eni 0)) (tcp (v4 10 1 1 10) (v4 172 20 0 1) 1 2) in
    (places_of w ≡ places.OutOf (eni 0)
    ∷ places.Router (subnet 0) (from.Host (eni 0))
    ∷ places.Tgw (att 0) (subnet 2)
    ∷ places.TgwLeave (att 1) (subnet 2)
    ∷ places.Router (subnet 3) (from.Transit (att 1))
    ∷ places.Tgw (att 1) (subnet 3)
    ∷ places.TgwLeave (att 0) (subnet 3)
    ∷ places.Router (subnet 2) (from.Transit (att 0))
    ∷ [])
    × (w.outcome ≡ outcomes.Stopped (stops.Loop (places.Tgw (att 0) (subnet 2))))

-- a router is another place where the packet came to it in another way: a host in the attachment's own subnet meets the router
-- of its subnet again, and goes on to the gateway
abbrev pub LoopsByPlace : Type 0
LoopsByPlace =
    let w = first_walk (host_at_attachment transit_loop) labels.Opening (places.OutOf (eni 3)) (tcp (v4 10 1 3 10) (v4 172 20 0 1) 1 2) in
    (places_of w ≡ places.OutOf (eni 3)
    ∷ places.Router (subnet 2) (from.Host (eni 3))
    ∷ places.Tgw (att 0) (subnet 2)
    ∷ places.TgwLeave (att 1) (subnet 2)
    ∷ places.Router (subnet 3) (from.Transit (att 1))
    ∷ places.Tgw (att 1) (subnet 3)
    ∷ places.TgwLeave (att 0) (subnet 3)
    ∷ places.Router (subnet 2) (from.Transit (att 0))
    ∷ [])
    × (w.outcome ≡ outcomes.Stopped (stops.Loop (places.Tgw (att 0) (subnet 2))))

-- the ACL of the attachment's subnet judges what enters the gateway there, also where it comes from that very subnet
abbrev pub AttachmentIsJudged : Type 0
AttachmentIsJudged = verdict_in (shut_attachment (host_at_attachment transit)) (ends.Interface (eni 3)) (ends.Interface (eni 1)) (tcp (v4 10 1 3 10) (v4 10 2 1 10) 0 443) ≡ verdicts.Stopped phases.Request (stops.AclIn (record { 0 = 2 }) 32767)

-- From VPC to VPC over a peering, and UDP and ICMP through a NAT gateway.
use Rattle.std.specs.Prelude.{◌==◌, ◌++◌, ◌∷◌, ◌≡◌, ◌+◌, [], if◌then◌else◌, List, codes, false, length, map, ℕ}
use Rattle.vpc_laws.specs.Types.{Description, Header}
use Rattle.vpc_model.specs.declared.places.End.TheVariants as ends
use Rattle.vpc_model.specs.declared.places.Came.TheVariants as from
use Rattle.vpc_base.specs.declared.headers.Label.TheVariants as labels
use Rattle.vpc_model.specs.declared.rows.NatLife.TheVariants as lives
use Rattle.vpc_model.specs.declared.outcomes.Outcome.TheVariants as outcomes
use Rattle.vpc_model.specs.declared.outcomes.Phase.TheVariants as phases
use Rattle.vpc_model.specs.declared.places.Place.TheVariants as places
use Rattle.vpc_model.specs.declared.stops.Stop.TheVariants as stops
use Rattle.vpc_model.specs.declared.rows.Target.TheVariants as targets
use Rattle.vpc_model.specs.declared.places.EnterBy.TheVariants as through
use Rattle.vpc_model.specs.declared.outcomes.Verdict.TheVariants as verdicts
use Rattle.vpc_examples.specs.Examples.{a_to_server, att, eni, first_walk, places_of, subnet, tcp, verdict_in, vpc}
use Rattle.vpc_examples.specs.Networks.{acl, anywhere, bare, behind_nat, block, host, main_table, open_rows, peered, route, site_host, site_table, site_vpc, subnet_row, subnet_table, tgw_route, v4}
use Rattle.vpc_examples.specs.Stops.{open_from_a, site, to_all_at}
use Rattle.vpc_model.specs.Lookup.{no_vpc}

-- the first two sites send each other their packets over their peering; the second has a block more, 10.5.0.0/16, with a host in it
abbrev pub joined : Description
joined = record peered {
  vpcs = site_vpc (codes "a") 1 ∷ record (site_vpc (codes "b") 2) { blocks = block (v4 10 2 0 0) 16 ∷ block (v4 10 5 0 0) 16 ∷ [] } ∷ [];
  interfaces = site_host (codes "a") 1 ∷ site_host (codes "b") 2 ∷ host (codes "eni-b5") (codes "subnet-b") (v4 10 5 1 10) (codes "sg-b") ∷ [];
  tables = site_table (codes "a") 1 (route anywhere (targets.Peer (codes "pcx-ab")) ∷ []) ∷ site_table (codes "b") 2 (route anywhere (targets.Peer (codes "pcx-ab")) ∷ []) ∷ [];
}

abbrev pub a_to_peer : ℕ → Header
a_to_peer dst = tcp (v4 10 1 1 10) dst 5000 443

-- a packet crosses a peering and arrives, from the requester's side and from the accepter's, at each block of the peer
abbrev pub PeeringForwards : Type 0
PeeringForwards =
    let w = first_walk joined labels.Opening (places.OutOf (eni 0)) (a_to_peer (v4 10 2 1 10)) in
    (places_of w
    ≡ places.OutOf (eni 0)
    ∷ places.Router (subnet 0) (from.Host (eni 0))
    ∷ places.Peer (record { 0 = 0 }) (vpc 0)
    ∷ places.Enter (vpc 1) (through.Peering (record { 0 = 0 }))
    ∷ places.Into (eni 1)
    ∷ [])
    × ((w.outcome ≡ outcomes.Arrived (ends.Interface (eni 1)) (a_to_peer (v4 10 2 1 10)))
    × ((verdict_in joined (ends.Interface (eni 0)) (ends.Interface (eni 1)) (a_to_peer (v4 10 2 1 10)) ≡ verdicts.Through)
    × ((verdict_in joined (ends.Interface (eni 1)) (ends.Interface (eni 0)) (tcp (v4 10 2 1 10) (v4 10 1 1 10) 5000 443) ≡ verdicts.Through)
    × (verdict_in joined (ends.Interface (eni 0)) (ends.Interface (eni 2)) (a_to_peer (v4 10 5 1 10)) ≡ verdicts.Through))))

-- a VPC that is entered has no such host
abbrev pub PeerHasNoSuchHost : Type 0
PeerHasNoSuchHost = open_from_a joined (a_to_peer (v4 10 2 9 9)) ≡ outcomes.Stopped (stops.NoHost (vpc 1))

-- ---- UDP and ICMP

abbrev pub dns : Header
dns = record (a_to_server 7) { proto = 17; q = 53 }

-- an echo request with the identifier 7, and a destination unreachable, which has no reply
abbrev pub echo : Header
echo = record (a_to_server 7) { proto = 1; q = 2048 }

abbrev pub unreachable : Header
unreachable = record (a_to_server 7) { proto = 1; q = 768 }

-- UDP, echo requests and ICMP messages that have no reply leave by the gateway's address and a port or identifier of at least 1,024
abbrev pub NatTranslatesUdpAndIcmp : Type 0
NatTranslatesUdpAndIcmp =
    (open_from_a (behind_nat open_rows) dns ≡ outcomes.Arrived ends.Internet (record dns { src = v4 203 0 113 5; p = 1031 }))
    × ((open_from_a (behind_nat open_rows) echo ≡ outcomes.Arrived ends.Internet (record echo { src = v4 203 0 113 5; p = 1031 }))
    × (open_from_a (behind_nat open_rows) unreachable ≡ outcomes.Arrived ends.Internet (record unreachable { src = v4 203 0 113 5; p = 1031 })))

-- the reply to an echo request gets back its identifier, and that of a datagram its port
abbrev pub NatBringsBackUdpAndIcmp : Type 0
NatBringsBackUdpAndIcmp =
    (verdict_in (behind_nat open_rows) (ends.Interface (eni 0)) ends.Internet dns ≡ verdicts.Through)
    × ((verdict_in (behind_nat open_rows) (ends.Interface (eni 0)) ends.Internet echo ≡ verdicts.Through)
    × (verdict_in (behind_nat open_rows) (ends.Interface (eni 0)) ends.Internet unreachable ≡ verdicts.Stopped phases.Reply (stops.NoReply ends.Internet)))

-- ---- a walk of 64 places

abbrev pub ring : List ℕ
ring = 0 ∷ 1 ∷ 2 ∷ 3 ∷ 4 ∷ 5 ∷ 6 ∷ 7 ∷ 8 ∷ 9 ∷ 10 ∷ 11 ∷ 12 ∷ 13 ∷ 14 ∷ 15 ∷ 16 ∷ 17 ∷ 18 ∷ 19 ∷ []

-- the site after this one
abbrev pub next_site : ℕ → List ℕ
next_site k = if k == 19 then site 0 else site (k + 1)

-- 20 VPCs at a transit gateway, which sends what comes from each to the next one and from the last to the first; a host in a
-- subnet of its own sends there through a NAT gateway
abbrev pub ring_of_sites : Description
ring_of_sites = record (bare (map (λ k. record no_vpc { id = site k }) ring) (map (λ k. subnet_row (site k) (site k) (site 0)) ring ++ subnet_row (codes "h") (site 0) (site 0) ∷ [])) {
  interfaces = record (host (codes "h") (codes "h") (v4 10 1 1 10) (site 0)) { groups = [] } ∷ record (host (codes "n") (site 0) (v4 10 1 2 5) (site 0)) { groups = [] } ∷ [];
  tables = subnet_table (codes "h") (site 0) (codes "h") (route anywhere (targets.Nat (codes "n")) ∷ []) ∷ map (λ k. main_table (site k) (site k) (to_all_at (site 0) ∷ [])) ring;
  acls = acl (site 0) (codes "h" ∷ map site ring) open_rows ∷ [];
  nats = record { id = codes "n"; life = lives.Live (site 0) (codes "n") (v4 10 1 2 5) } ∷ [];
  attachments = map (λ k. record { id = site k; gateway = site 0; vpc = site k; subnets = site k ∷ [] }) ring;
  associations = map (λ k. record { attachment = site k; table = site k }) ring;
  tgw_tables = map (λ k. record { id = site k; routes = tgw_route anywhere (next_site k) false ∷ [] }) ring;
}

-- after 64 places a place that was visited is still told as a loop
abbrev pub LoopIsSeenLast : Type 0
LoopIsSeenLast =
    let w = first_walk ring_of_sites labels.Opening (places.OutOf (eni 0)) (tcp (v4 10 1 1 10) (v4 198 51 100 7) 5000 443) in
    (length w.hops ≡ 64) × (w.outcome ≡ outcomes.Stopped (stops.Loop (places.Tgw (att 0) (subnet 0))))

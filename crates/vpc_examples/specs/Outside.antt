-- Networks that aren't described, and firewall endpoints: what packets from there and to there meet.
use Rattle.std.specs.Prelude.{◌++◌, ◌∷◌, ◌≡◌, [], List, None, Some, codes, false, map, true, ℕ}
use Rattle.vpc_base.specs.declared.headers.Dir.TheVariants as dirs
use Rattle.vpc_base.specs.declared.headers.Label.TheVariants as labels
use Rattle.vpc_examples.specs.Examples.{att, connection, eni, first_walk, hop, hop_by, hops_of, nat, outcome_of, places_of, rule, subnet, tcp, verdict_in, vpc, walk_after}
use Rattle.vpc_examples.specs.Networks.{acl, acl_1, allow_all, anywhere, appliance, attached, bare, behind_nat, block, gateway_table, gone_route, group, host, host_with, https_from, https_from_group, list_route, local_1, main_table, open_rows, route, subnet_row, subnet_table, tgw_route, two_subnets, v4, vpc_1}
use Rattle.vpc_laws.specs.Types.{Appliance, ApplianceKind, Description, End, Far, FarNo, FirewallNo, Header, Outcome, Place, Route, TgwRoute}
use Rattle.vpc_model.specs.Accepted.{refusal_of}
use Rattle.vpc_model.specs.Far.{is_far_end}
use Rattle.vpc_model.specs.Place.{start_of}
use Rattle.vpc_model.specs.Walk.{Walk}
use Rattle.vpc_model.specs.declared.outcomes.By.TheVariants as bys
use Rattle.vpc_model.specs.declared.outcomes.Outcome.TheVariants as outcomes
use Rattle.vpc_model.specs.declared.outcomes.Phase.TheVariants as phases
use Rattle.vpc_model.specs.declared.outcomes.Verdict.TheVariants as verdicts
use Rattle.vpc_model.specs.declared.places.Came.TheVariants as from
use Rattle.vpc_model.specs.declared.places.End.TheVariants as ends
use Rattle.vpc_model.specs.declared.places.EnterBy.TheVariants as through
use Rattle.vpc_model.specs.declared.places.Place.TheVariants as places
use Rattle.vpc_model.specs.declared.rows.ApplianceAt.TheVariants as at
use Rattle.vpc_model.specs.declared.rows.ApplianceKind.TheVariants as forwards
use Rattle.vpc_model.specs.declared.rows.FarKind.TheVariants as kinds
use Rattle.vpc_model.specs.declared.rows.Target.TheVariants as targets
use Rattle.vpc_model.specs.declared.stops.Foreign.TheVariants as foreign
use Rattle.vpc_model.specs.declared.stops.Stop.TheVariants as stops

abbrev far : ℕ → FarNo
far k = record { 0 = k }

abbrev firewall : ℕ → FirewallNo
firewall k = record { 0 = k }

abbrev host_end : ℕ → End
host_end k = ends.Interface (eni k)

abbrev far_end : ℕ → End
far_end k = ends.Far (far k)

-- an open from an end: where it comes to, and by which places
abbrev outcome_from : Description → End → Header → Outcome
outcome_from d start h = outcome_of (first_walk d labels.Opening (start_of start) h)

abbrev places_from : Description → End → Header → List Place
places_from d start h = places_of (first_walk d labels.Opening (start_of start) h)

-- ---- behind a virtual private gateway

-- two hosts, of which the second lets in SSH from anywhere, and a route to 172.20.0.0/16 by a virtual private gateway that is attached to this VPC
abbrev behind_gateway : List ℕ → Description
behind_gateway vpc_id = record (two_subnets (acl_1 ∷ [])) {
  tables = main_table (codes "rtb-1") (codes "vpc-1") (local_1 ∷ route (block (v4 172 20 0 0) 16) (targets.Other (codes "vgw-1")) ∷ []) ∷ [];
  groups = group (codes "sg-a") (codes "vpc-1") [] (allow_all ∷ []) ∷ group (codes "sg-b") (codes "vpc-1") (https_from_group (codes "sg-a") ∷ record (https_from anywhere) { q_from = 22; q_to = 22 } ∷ []) [] ∷ [];
  fars = record { id = codes "vgw-1"; kind = kinds.PrivateGateway (Some vpc_id) } ∷ [];
}

abbrev gateway : Description
gateway = behind_gateway (codes "vpc-1")

-- what comes in gets through where it is routed back; what goes out arrives there, unless the gateway is another VPC's
abbrev pub GatewaysLeadOut : Type 0
GatewaysLeadOut =
    (verdict_in gateway (far_end 0) (host_end 1) (tcp (v4 172 20 0 0) (v4 10 0 2 20) 0 22) ≡ verdicts.Through)
    × ((verdict_in gateway (far_end 0) (host_end 1) (tcp (v4 172 19 255 255) (v4 10 0 2 20) 0 22) ≡ verdicts.Stopped phases.Reply (stops.NoRoute (record { 0 = 0 })))
    × ((verdict_in gateway (far_end 0) (host_end 1) (tcp (v4 172 20 0 0) (v4 10 0 2 20) 0 443) ≡ verdicts.Stopped phases.Request (stops.GroupsIn (eni 1)))
    × ((verdict_in gateway (host_end 0) (far_end 0) (tcp (v4 10 0 1 10) (v4 172 20 0 0) 0 443) ≡ verdicts.Through)
    × ((verdict_in (behind_gateway (codes "vpc-2")) (host_end 0) (far_end 0) (tcp (v4 10 0 1 10) (v4 172 20 0 0) 0 443) ≡ verdicts.Stopped phases.Request (stops.FarDetached (far 0)))
    × ((outcome_from (behind_gateway (codes "vpc-2")) (far_end 0) (tcp (v4 172 20 0 0) (v4 10 0 2 20) 0 22) ≡ outcomes.Stopped (stops.FarDetached (far 0)))
    × (places_from gateway (far_end 0) (tcp (v4 172 20 0 0) (v4 10 0 2 20) 0 22)
    ≡ places.FarIn (far 0) ∷ places.Enter (vpc 0) (through.Far (far 0)) ∷ places.Into (eni 1) ∷ []))))))

-- ---- behind a transit gateway

-- two VPCs at a transit gateway with a VPN and a Direct Connect gateway; what comes from the second VPC for 172.20.0.0/16 goes to this attachment
abbrev behind_transit : List ℕ → List TgwRoute → Description
behind_transit back more =
    let d = attached (tgw_route (block (v4 10 2 0 0) 16) (codes "att-b") true ∷ more) (tgw_route (block (v4 10 1 0 0) 16) (codes "att-a") true ∷ tgw_route (block (v4 172 20 0 0) 16) back false ∷ []) in
    record d {
      associations = d.associations ++ record { attachment = codes "att-vpn"; table = codes "tgw-rtb-a" } ∷ record { attachment = codes "att-dx"; table = codes "tgw-rtb-a" } ∷ [];
      fars = record { id = codes "att-vpn"; kind = kinds.Attachment None } ∷ record { id = codes "att-dx"; kind = kinds.Attachment None } ∷ [];
    }

abbrev in_vpn : Header
in_vpn = tcp (v4 172 20 0 0) (v4 10 2 1 10) 0 443

-- replies have to return the way that the request came; from one attachment to another the transit gateway carries; without a table nothing comes in
abbrev pub AttachmentsLeadOut : Type 0
AttachmentsLeadOut =
    let to_dx = tcp (v4 172 20 0 1) (v4 172 30 0 1) 5 443 in
    (verdict_in (behind_transit (codes "att-vpn") []) (far_end 0) (host_end 1) in_vpn ≡ verdicts.Through)
    × ((verdict_in (behind_transit (codes "att-dx") []) (far_end 0) (host_end 1) in_vpn ≡ verdicts.Stopped phases.Reply (stops.WrongReturn (far_end 1)))
    × ((verdict_in (record (behind_transit (codes "att-vpn") []) { associations = [] }) (far_end 0) (host_end 1) in_vpn ≡ verdicts.Stopped phases.Request (stops.FarNoTable (far 0)))
    × ((outcome_from (behind_transit (codes "att-vpn") (tgw_route (block (v4 172 30 0 0) 16) (codes "att-dx") false ∷ [])) (far_end 0) to_dx ≡ outcomes.Arrived (far_end 1) to_dx)
    × (places_from (behind_transit (codes "att-vpn") []) (far_end 0) in_vpn
    ≡ places.FarIn (far 0) ∷ places.TgwLeave (att 1) (subnet 3) ∷ places.Router (subnet 3) (from.Transit (att 1)) ∷ places.Into (eni 1) ∷ []))))

-- an attachment of a described VPC whose row lacks leads to no network
abbrev without_b : Description
without_b =
    let d = behind_transit (codes "att-vpn") [] in
    record d {
      attachments = record { id = codes "att-a"; gateway = codes "tgw-1"; vpc = codes "vpc-a"; subnets = (codes "subnet-ta") ∷ [] } ∷ [];
      fars = record { id = codes "att-b"; kind = kinds.Attachment (Some (codes "vpc-b")) } ∷ [];
    }

abbrev pub DescribedVpcsAreNoFarEnds : Type 0
DescribedVpcsAreNoFarEnds =
    (verdict_in without_b (host_end 0) (host_end 1) (tcp (v4 10 1 1 10) (v4 10 2 1 10) 0 443) ≡ verdicts.Stopped phases.Request (stops.Unmodelled (foreign.FarAttachment (record { 0 = 0 }) 0)))
    × (map (is_far_end without_b) without_b.fars ≡ false ∷ [])

-- ---- over a peering with a VPC that isn't described

-- of which the blocks are told, or not
abbrev half_peered : List Far → Description
half_peered told = record (behind_gateway (codes "vpc-1")) {
  tables = main_table (codes "rtb-1") (codes "vpc-1") (local_1 ∷ route (block (v4 10 8 0 0) 15) (targets.Peer (codes "pcx-1")) ∷ []) ∷ [];
  peerings = record { id = codes "pcx-1"; pair = Some (codes "vpc-1", codes "vpc-9") } ∷ [];
  fars = told;
}

abbrev told_peering : List Far
told_peering = record { id = codes "pcx-1"; kind = kinds.Peering (block (v4 10 0 0 0) 16 ∷ []) (block (v4 10 9 0 0) 16 ∷ []) } ∷ []

-- between the blocks of the two sides, and no others
abbrev pub PeeringsLeadOut : Type 0
PeeringsLeadOut =
    let over = half_peered told_peering in
    let out = tcp (v4 10 0 1 10) (v4 10 9 0 0) 0 443 in
    (verdict_in over (far_end 0) (host_end 1) (tcp (v4 10 9 0 0) (v4 10 0 2 20) 0 22) ≡ verdicts.Through)
    × ((verdict_in over (far_end 0) (host_end 1) (tcp (v4 10 8 0 0) (v4 10 0 2 20) 0 22) ≡ verdicts.Stopped phases.Request (stops.PeerSource (record { 0 = 0 })))
    × ((outcome_from over (far_end 0) (tcp (v4 10 9 0 0) (v4 10 1 0 0) 0 22) ≡ outcomes.Stopped (stops.PeerDestination (record { 0 = 0 })))
    × ((outcome_from over (host_end 0) out ≡ outcomes.Arrived (far_end 0) out)
    × ((outcome_from over (host_end 0) (record out { dst = v4 10 8 0 0 }) ≡ outcomes.Stopped (stops.PeerDestination (record { 0 = 0 })))
    × ((outcome_from (half_peered []) (host_end 0) out ≡ outcomes.Stopped (stops.Unmodelled (foreign.Peering (record { 0 = 0 }))))
    × (places_from over (far_end 0) (tcp (v4 10 9 0 0) (v4 10 0 2 20) 0 22) ≡ places.FarIn (far 0) ∷ places.Enter (vpc 0) (through.Peering (record { 0 = 0 })) ∷ places.Into (eni 1) ∷ []))))))

-- ---- gateway endpoints

-- a host with a route to a prefix list by a gateway endpoint of this VPC
abbrev with_endpoint : List ℕ → Description
with_endpoint vpc_id = record (two_subnets (acl_1 ∷ [])) {
  tables = main_table (codes "rtb-1") (codes "vpc-1") (local_1 ∷ list_route (codes "pl-s3") (targets.Other (codes "vpce-s3")) ∷ []) ∷ [];
  lists = record { id = codes "pl-s3"; entries = block (v4 52 216 0 0) 15 ∷ [] } ∷ [];
  fars = record { id = codes "vpce-s3"; kind = kinds.Endpoint vpc_id } ∷ [];
}

abbrev to_service : Header
to_service = tcp (v4 10 0 1 10) (v4 52 216 0 0) 0 443

-- a service is reached from the endpoint's VPC, and opens nothing
abbrev pub EndpointsLeadOut : Type 0
EndpointsLeadOut =
    (verdict_in (with_endpoint (codes "vpc-1")) (host_end 0) (far_end 0) to_service ≡ verdicts.Through)
    × ((verdict_in (with_endpoint (codes "vpc-1")) (host_end 0) ends.Internet to_service ≡ verdicts.Stopped phases.Request (stops.WrongPlace (far_end 0)))
    × ((verdict_in (with_endpoint (codes "vpc-2")) (host_end 0) ends.Internet to_service ≡ verdicts.Stopped phases.Request (stops.Unmodelled (foreign.Target (record { 0 = 0 }) 1)))
    × (outcome_from (with_endpoint (codes "vpc-1")) (far_end 0) (tcp (v4 52 216 0 1) (v4 10 0 1 10) 443 5000) ≡ outcomes.Stopped (stops.FarOpens (far 0)))))

-- its answers do come in
abbrev pub AnswersComeBackFromServices : Type 0
AnswersComeBackFromServices =
    let d = with_endpoint (codes "vpc-1") in
    let back = tcp (v4 52 216 0 0) (v4 10 0 1 10) 443 0 in
    hops_of (walk_after d labels.Answer (first_walk d labels.Opening (places.OutOf (eni 0)) to_service) (places.FarIn (far 0)) back)
    ≡ hop (places.FarIn (far 0)) back
    ∷ hop (places.Enter (vpc 0) (through.Far (far 0))) back
    ∷ hop_by (places.Into (eni 0)) back bys.Tracked
    ∷ []

-- what comes over a transit gateway isn't served
abbrev over_transit : Description
over_transit =
    let d = attached (tgw_route (block (v4 52 216 0 0) 15) (codes "att-b") false ∷ []) (tgw_route (block (v4 10 1 0 0) 16) (codes "att-a") true ∷ []) in
    record d {
      tables = main_table (codes "rtb-a") (codes "vpc-a") (route anywhere (targets.Transit (codes "tgw-1")) ∷ []) ∷ main_table (codes "rtb-b") (codes "vpc-b") (list_route (codes "pl-s3") (targets.Other (codes "vpce-s3")) ∷ []) ∷ [];
      lists = record { id = codes "pl-s3"; entries = block (v4 52 216 0 0) 15 ∷ [] } ∷ [];
      fars = record { id = codes "vpce-s3"; kind = kinds.Endpoint (codes "vpc-b") } ∷ [];
    }

abbrev pub EndpointsServeTheirVpc : Type 0
EndpointsServeTheirVpc =
    verdict_in over_transit (host_end 0) (far_end 0) (tcp (v4 10 1 1 10) (v4 52 216 0 0) 0 443) ≡ verdicts.Stopped phases.Request (stops.FarSource (far 0))

-- an endpoint that the NAT gateway's subnet alone has a route to
abbrev behind_both : Description
behind_both =
    let d = behind_nat open_rows in
    record d {
      tables = main_table (codes "rtb-1") (codes "vpc-1") (local_1 ∷ route anywhere (targets.Nat (codes "nat-1")) ∷ [])
          ∷ subnet_table (codes "rtb-n") (codes "vpc-1") (codes "subnet-n") (local_1 ∷ list_route (codes "pl-s3") (targets.Other (codes "vpce-s3")) ∷ route anywhere (targets.Internet (codes "igw-1")) ∷ []) ∷ [];
      lists = record { id = codes "pl-s3"; entries = block (v4 52 216 0 0) 15 ∷ [] } ∷ [];
      fars = record { id = codes "vpce-s3"; kind = kinds.Endpoint (codes "vpc-1") } ∷ [];
    }

abbrev asked : Header
asked = tcp (v4 10 0 1 10) (v4 52 216 0 0) 5000 443

-- the same with the NAT gateway's address
abbrev passed_on : Header
passed_on = tcp (v4 10 0 3 5) (v4 52 216 0 0) 5000 443

abbrev walk_to_service : Walk
walk_to_service = first_walk behind_both labels.Opening (places.OutOf (eni 0)) asked

-- a service sees the NAT gateway's address, which is one of the VPC
abbrev pub EndpointsServeNatGateways : Type 0
EndpointsServeNatGateways =
    (verdict_in behind_both (host_end 0) (far_end 0) asked ≡ verdicts.Through)
    × (walk_to_service ≡ record {
      hops = hop_by (places.OutOf (eni 0)) asked (rule 0 dirs.Outward 1)
          ∷ hop (places.Router (subnet 0) (from.Host (eni 0))) asked
          ∷ hop (places.NatOut (nat 0)) asked
          ∷ hop (places.Router (subnet 2) (from.Nat (nat 0))) passed_on
          ∷ hop (places.FarOut (far 0)) passed_on
          ∷ [];
      outcome = outcomes.Arrived (far_end 0) passed_on;
      conns = connection 0 dirs.Outward asked ∷ [];
      nats = record { nat = nat 0; before = asked; after = passed_on } ∷ [];
    })

-- and answers to it
abbrev pub NatGatewaysTakeAnswersOfServices : Type 0
NatGatewaysTakeAnswersOfServices =
    let answer = tcp (v4 52 216 0 0) (v4 10 0 3 5) 443 5000 in
    let back = tcp (v4 52 216 0 0) (v4 10 0 1 10) 443 5000 in
    hops_of (walk_after behind_both labels.Answer walk_to_service (places.FarIn (far 0)) answer)
    ≡ hop (places.FarIn (far 0)) answer
    ∷ hop (places.Enter (vpc 0) (through.Far (far 0))) answer
    ∷ hop (places.NatIn (nat 0)) answer
    ∷ hop (places.Router (subnet 2) (from.Nat (nat 0))) back
    ∷ hop_by (places.Into (eni 0)) back bys.Tracked
    ∷ []

-- ---- firewall endpoints

-- a public host whose packets go through a firewall endpoint on their way out, and on their way in by these routes of the gateway's table
abbrev behind_entrance : List ℕ → List Route → List Appliance → Description
behind_entrance gateway_id routes stands = record (bare (vpc_1 ∷ []) (subnet_row (codes "subnet-w") (codes "vpc-1") (codes "z") ∷ subnet_row (codes "subnet-f") (codes "vpc-1") (codes "z") ∷ [])) {
  interfaces =
      host_with (codes "eni-w") (codes "subnet-w") (v4 10 0 1 10) (Some (v4 203 0 113 10)) (codes "sg-w")
      ∷ record (host (codes "eni-f") (codes "subnet-f") (v4 10 0 4 4) (codes "sg-w")) { groups = []; checked = false }
      ∷ [];
  tables =
      subnet_table (codes "rtb-w") (codes "vpc-1") (codes "subnet-w") (local_1 ∷ route anywhere (targets.Other (codes "vpce-fw")) ∷ [])
      ∷ subnet_table (codes "rtb-f") (codes "vpc-1") (codes "subnet-f") (local_1 ∷ route anywhere (targets.Internet (codes "igw-1")) ∷ [])
      ∷ gateway_table (codes "rtb-edge") (codes "vpc-1") gateway_id routes
      ∷ [];
  acls = acl (codes "acl-1") (codes "subnet-w" ∷ codes "subnet-f" ∷ []) open_rows ∷ [];
  groups = group (codes "sg-w") (codes "vpc-1") (https_from anywhere ∷ []) [] ∷ [];
  igws = record { id = codes "igw-1"; vpcs = codes "vpc-1" ∷ [] } ∷ [];
  appliances = stands;
  fars = record { id = codes "vgw-1"; kind = kinds.PrivateGateway (Some (codes "vpc-1")) } ∷ [];
  firewalls = record { id = codes "vpce-fw"; vpc = codes "vpc-1"; subnet = codes "subnet-f" } ∷ [];
}

-- what stands behind the endpoint
abbrev behind_endpoint : ApplianceKind → List Appliance
behind_endpoint kind = record { id = codes "vpce-fw"; at = at.Endpoint; kind = kind } ∷ []

-- the subnet of the host
abbrev to_subnet : List ℕ → Route
to_subnet endpoint = route (block (v4 10 0 1 0) 24) (targets.Other endpoint)

abbrev inspected_by : List Appliance → Description
inspected_by stands = behind_entrance (codes "igw-1") (local_1 ∷ to_subnet (codes "vpce-fw") ∷ []) stands

abbrev in_public : Header
in_public = tcp (v4 198 51 100 0) (v4 203 0 113 10) 0 443

-- a firewall sees what comes in and what goes back, and drops what its kind drops; of one that isn't told nothing is known
abbrev pub FirewallsAreOnTheWay : Type 0
FirewallsAreOnTheWay =
    let all = inspected_by (behind_endpoint forwards.All) in
    let back = tcp (v4 10 0 1 10) (v4 198 51 100 0) 443 0 in
    (verdict_in all ends.Internet (host_end 0) in_public ≡ verdicts.Through)
    × ((verdict_in (inspected_by []) ends.Internet (host_end 0) in_public ≡ verdicts.Stopped phases.Request (stops.Unmodelled (foreign.Target (record { 0 = 2 }) 1)))
    × ((verdict_in (inspected_by (behind_endpoint forwards.Nothing)) ends.Internet (host_end 0) in_public ≡ verdicts.Stopped phases.Request (stops.InspectDrop (firewall 0)))
    × ((places_from all ends.Internet in_public
    ≡ places.Internet ∷ places.IgwIn (vpc 0) ∷ places.Enter (vpc 0) through.Gateway ∷ places.Inspect (firewall 0) ∷ places.Router (subnet 1) (from.Firewall (firewall 0)) ∷ places.Into (eni 0) ∷ [])
    × (places_of (walk_after all labels.Answer (first_walk all labels.Opening places.Internet in_public) (places.OutOf (eni 0)) back)
    ≡ places.OutOf (eni 0) ∷ places.Router (subnet 0) (from.Host (eni 0)) ∷ places.Inspect (firewall 0) ∷ places.Router (subnet 1) (from.Firewall (firewall 0)) ∷ places.IgwOut (vpc 0) ∷ places.Internet ∷ []))))

-- a gateway's table decides what comes in by it: a local route delivers, others lead to interfaces and firewall endpoints of the
-- VPC; where it has no route, a dead one or one that leads elsewhere, packets are stopped
abbrev pub EntrancesAskTables : Type 0
EntrancesAskTables =
    let all = behind_endpoint forwards.All in
    let by_routes : List Route → Outcome = (λ routes. outcome_from (behind_entrance (codes "igw-1") routes all) ends.Internet in_public) in
    let to_host = record in_public { dst = v4 10 0 1 10 } in
    let by_appliance = behind_entrance (codes "igw-1") (route (block (v4 10 0 1 0) 24) (targets.Interface (codes "eni-f")) ∷ []) (appliance (codes "eni-f") forwards.All ∷ []) in
    let by_vpn = behind_entrance (codes "vgw-1") (to_subnet (codes "vpce-fw") ∷ []) all in
    (by_routes (local_1 ∷ []) ≡ outcomes.Arrived (host_end 0) to_host)
    × ((by_routes [] ≡ outcomes.Stopped (stops.NoRoute (record { 0 = 2 })))
    × ((by_routes (gone_route (block (v4 10 0 1 0) 24) (targets.Other (codes "vpce-fw")) ∷ []) ≡ outcomes.Stopped (stops.Blackhole (record { 0 = 2 }) 0))
    × ((by_routes (to_subnet (codes "vpce-x") ∷ []) ≡ outcomes.Stopped (stops.Unmodelled (foreign.Target (record { 0 = 2 }) 0)))
    × ((by_routes (route anywhere (targets.Internet (codes "igw-1")) ∷ []) ≡ outcomes.Stopped (stops.Unmodelled (foreign.Target (record { 0 = 2 }) 0)))
    × ((places_from by_appliance ends.Internet in_public
    ≡ places.Internet ∷ places.IgwIn (vpc 0) ∷ places.Enter (vpc 0) through.Gateway ∷ places.Into (eni 1) ∷ places.OutOf (eni 1) ∷ places.Router (subnet 1) (from.Host (eni 1)) ∷ places.Into (eni 0) ∷ [])
    × (places_from by_vpn (far_end 0) to_host
    ≡ places.FarIn (far 0) ∷ places.Enter (vpc 0) (through.Far (far 0)) ∷ places.Inspect (firewall 0) ∷ places.Router (subnet 1) (from.Firewall (firewall 0)) ∷ places.Into (eni 0) ∷ []))))))

-- ---- all of them

abbrev outside : List Description
outside =
    gateway ∷ behind_gateway (codes "vpc-2") ∷ behind_transit (codes "att-vpn") [] ∷ without_b ∷ half_peered told_peering ∷ half_peered []
    ∷ with_endpoint (codes "vpc-1") ∷ over_transit ∷ behind_both ∷ inspected_by (behind_endpoint forwards.All) ∷ inspected_by [] ∷ []

-- each makes a network
abbrev pub OutsideIsAccepted : Type 0
OutsideIsAccepted = map refusal_of outside ≡ map (λ (d : Description). None) outside

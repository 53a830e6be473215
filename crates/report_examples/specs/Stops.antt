-- How each stop and each rule is printed.
use Rattle.std.specs.Prelude.{◌∷◌, ◌≡◌, [], List, None, Some, codes, false, true, ℕ}
use Rattle.vpc_laws.specs.Types.{Description, FarNo, FirewallNo, PeerNo, Stop, TableNo, TgwTableNo}
use Rattle.vpc_model.specs.declared.outcomes.By.TheVariants as bys
use Rattle.vpc_base.specs.declared.headers.Dir.TheVariants as dirs
use Rattle.vpc_model.specs.declared.places.End.TheVariants as ends
use Rattle.vpc_model.specs.declared.stops.Foreign.TheVariants as foreign
use Rattle.vpc_model.specs.declared.places.Came.TheVariants as from
use Rattle.vpc_model.specs.declared.rows.FarKind.TheVariants as kinds
use Rattle.vpc_model.specs.declared.rows.NatLife.TheVariants as lives
use Rattle.vpc_model.specs.declared.refusals.ListName.TheVariants as named
use Rattle.vpc_model.specs.declared.places.Place.TheVariants as places
use Rattle.vpc_model.specs.declared.refusals.Refusal.TheVariants as refusals
use Rattle.vpc_model.specs.declared.stops.Stop.TheVariants as stops
use Rattle.vpc_model.specs.declared.rows.Target.TheVariants as targets
use Rattle.vpc_model.specs.declared.places.EnterBy.TheVariants as through
use Rattle.vpc_examples.specs.Examples.{att, eni, nat, rule, subnet, tcp, vpc}
use Rattle.vpc_examples.specs.Networks.{acl_1, allow_all, anywhere, bare, block, gone_route, group, host, https_from, list_route, main_table, route, site_attachment, subnet_row, tgw_blackhole, tgw_route, v4}
use Rattle.block_report.specs.Hops.{by_text}
use Rattle.block_report.specs.Refusals.{refusal_text}
use Rattle.block_report.specs.Walks.{stop_text}
use Rattle.block_report.specs.Words.{header_text}
use Rattle.vpc_model.specs.Lookup.{no_vpc}

-- one row of each kind
abbrev pub one_of_each : Description
one_of_each = record (bare (record no_vpc { id = codes "vpc-1" } ∷ []) (subnet_row (codes "subnet-a") (codes "vpc-1") (codes "z") ∷ [])) {
  interfaces = host (codes "eni-a") (codes "subnet-a") (v4 10 0 1 10) (codes "sg-a") ∷ [];
  tables = main_table (codes "rtb-1") (codes "vpc-1")
      (route anywhere (targets.Transit (codes "tgw-1")) ∷ route anywhere (targets.Other (codes "vpce-1")) ∷ gone_route (block (v4 10 9 0 0) 16) (targets.Nat (codes "nat-9")) ∷ record (list_route (codes "pl-1") (targets.Nat (codes "nat-9"))) { blackhole = true } ∷ []) ∷ [];
  acls = acl_1 ∷ [];
  groups = group (codes "sg-a") (codes "vpc-1") (record (https_from anywhere) { id = Some (codes "sgr-1") } ∷ allow_all ∷ []) (allow_all ∷ []) ∷ [];
  igws = record { id = codes "igw-1"; vpcs = codes "vpc-1" ∷ [] } ∷ [];
  nats = record { id = codes "nat-1"; life = lives.Unmodelled } ∷ [];
  peerings = record { id = codes "pcx-1"; pair = Some (codes "vpc-1", codes "vpc-9") } ∷ [];
  attachments = site_attachment (codes "a") ∷ [];
  tgw_tables = record { id = codes "tgw-rtb-1"; routes = tgw_blackhole (block (v4 10 2 9 0) 24) ∷ tgw_route anywhere (codes "att-x") false ∷ [] } ∷ [];
  fars = record { id = codes "vgw-1"; kind = kinds.PrivateGateway None } ∷ record { id = codes "att-vpn"; kind = kinds.Attachment None } ∷ record { id = codes "vpce-s3"; kind = kinds.Endpoint (codes "vpc-1") } ∷ [];
  firewalls = record { id = codes "vpce-fw"; vpc = codes "vpc-1"; subnet = codes "subnet-a" } ∷ [];
}

abbrev pub told : Stop → List ℕ
told s = stop_text one_of_each s

abbrev pub first_table : TableNo
first_table = record { 0 = 0 }

abbrev pub first_tgw_table : TgwTableNo
first_tgw_table = record { 0 = 0 }

abbrev pub first_peering : PeerNo
first_peering = record { 0 = 0 }

abbrev pub far : ℕ → FarNo
far k = record { 0 = k }

abbrev pub first_firewall : FirewallNo
first_firewall = record { 0 = 0 }

-- stops at interfaces, tables and ACLs
abbrev pub PrintsInterfaceStops : Type 0
PrintsInterfaceStops =
    (told (stops.Detached (eni 0)) ≡ codes "Detached eni-a -")
    × ((told (stops.SourceCheck (eni 0)) ≡ codes "SourceCheck eni-a -")
    × ((told (stops.DestCheck (eni 0)) ≡ codes "DestCheck eni-a -")
    × ((told (stops.GroupsOut (eni 0)) ≡ codes "GroupsOut eni-a -")
    × ((told (stops.GroupsIn (eni 0)) ≡ codes "GroupsIn eni-a -")
    × ((told (stops.NotAHost (eni 0)) ≡ codes "NotAHost eni-a -")
    × ((told (stops.ApplianceDrop (eni 0)) ≡ codes "ApplianceDrop eni-a -")
    × ((told (stops.NoRoute first_table) ≡ codes "NoRoute rtb-1 -")
    × ((told (stops.Blackhole first_table 2) ≡ codes "Blackhole rtb-1 10.9.0.0/16")
    × ((told (stops.Blackhole first_table 3) ≡ codes "Blackhole rtb-1 pl-1")
    × ((told (stops.AclOut (record { 0 = 0 }) 90) ≡ codes "AclOut acl-1 90")
    × (told (stops.AclIn (record { 0 = 0 }) 32767) ≡ codes "AclIn acl-1 32767")))))))))))

-- stops at gateways and peerings
abbrev pub PrintsGatewayStops : Type 0
PrintsGatewayStops =
    (told (stops.NoHost (vpc 0)) ≡ codes "NoHost vpc-1 -")
    × ((told (stops.NoGateway (vpc 0)) ≡ codes "NoGateway vpc-1 -")
    × ((told (stops.GatewayDetached (record { 0 = 0 })) ≡ codes "GatewayDetached igw-1 -")
    × ((told (stops.NoPublic (record { 0 = 0 })) ≡ codes "NoPublic igw-1 -")
    × ((told stops.PrivateAddress ≡ codes "PrivateAddress internet -")
    × ((told (stops.NatNotAvailable (nat 0)) ≡ codes "NatNotAvailable nat-1 -")
    × ((told (stops.NatAnswer (nat 0)) ≡ codes "NatAnswer nat-1 -")
    × ((told (stops.NatProtocol (nat 0)) ≡ codes "NatProtocol nat-1 -")
    × ((told (stops.NatFull (nat 0)) ≡ codes "NatFull nat-1 -")
    × ((told (stops.NatUnsolicited (nat 0)) ≡ codes "NatUnsolicited nat-1 -")
    × ((told (stops.PeerNotActive first_peering) ≡ codes "PeerNotActive pcx-1 -")
    × ((told (stops.PeerSource first_peering) ≡ codes "PeerSource pcx-1 -")
    × (told (stops.PeerDestination first_peering) ≡ codes "PeerDestination pcx-1 -"))))))))))))

-- stops at transit gateways, and beyond what is followed
abbrev pub PrintsTransitStops : Type 0
PrintsTransitStops =
    (told (stops.TgwNoAttachment first_table 0) ≡ codes "TgwNoAttachment tgw-1 -")
    × ((told (stops.TgwNoZone (att 0)) ≡ codes "TgwNoZone att-a -")
    × ((told (stops.TgwNoTable (att 0)) ≡ codes "TgwNoTable att-a -")
    × ((told (stops.TgwNoRoute first_tgw_table) ≡ codes "TgwNoRoute tgw-rtb-1 -")
    × ((told (stops.TgwBlackhole first_tgw_table 0) ≡ codes "TgwBlackhole tgw-rtb-1 10.2.9.0/24")
    × ((told (stops.Unmodelled (foreign.Target first_table 1)) ≡ codes "Unmodelled vpce-1 -")
    × ((told (stops.Unmodelled (foreign.Nat (nat 0))) ≡ codes "Unmodelled nat-1 -")
    × ((told (stops.Unmodelled (foreign.Peering first_peering)) ≡ codes "Unmodelled pcx-1 -")
    × ((told (stops.Unmodelled (foreign.Attachment (att 0))) ≡ codes "Unmodelled att-a -")
    × ((told (stops.Unmodelled (foreign.Table first_tgw_table)) ≡ codes "Unmodelled tgw-rtb-1 -")
    × (told (stops.Unmodelled (foreign.FarAttachment first_tgw_table 1)) ≡ codes "Unmodelled att-x -"))))))))))

-- stops at networks that aren't described and at firewall endpoints, with the id of each kind of place there
abbrev pub PrintsOutsideStops : Type 0
PrintsOutsideStops =
    (told (stops.FarDetached (far 0)) ≡ codes "FarDetached vgw-1 -")
    × ((told (stops.FarNoTable (far 1)) ≡ codes "FarNoTable att-vpn -")
    × ((told (stops.FarSource (far 2)) ≡ codes "FarSource vpce-s3 -")
    × ((told (stops.FarOpens (far 2)) ≡ codes "FarOpens vpce-s3 -")
    × ((told (stops.InspectDrop first_firewall) ≡ codes "InspectDrop vpce-fw -")
    × ((told (stops.Loop (places.FarIn (far 0))) ≡ codes "Loop vgw-1 -")
    × ((told (stops.TooFar (places.FarOut (far 1))) ≡ codes "TooFar att-vpn -")
    × ((told (stops.Loop (places.Inspect first_firewall)) ≡ codes "Loop vpce-fw -")
    × (told (stops.WrongPlace (ends.Far (far 2))) ≡ codes "WrongPlace vpce-s3 -"))))))))

-- stops of whole walks, with the id of each kind of place
abbrev pub PrintsWalkStops : Type 0
PrintsWalkStops =
    (told (stops.Loop (places.OutOf (eni 0))) ≡ codes "Loop eni-a -")
    × ((told (stops.Loop (places.Router (subnet 0) (from.Host (eni 0)))) ≡ codes "Loop subnet-a -")
    × ((told (stops.Loop (places.Enter (vpc 0) through.Gateway)) ≡ codes "Loop vpc-1 -")
    × ((told (stops.Loop (places.Into (eni 0))) ≡ codes "Loop eni-a -")
    × ((told (stops.Loop (places.IgwOut (vpc 0))) ≡ codes "Loop igw-1 -")
    × ((told (stops.Loop places.Internet) ≡ codes "Loop internet -")
    × ((told (stops.Loop (places.IgwIn (vpc 0))) ≡ codes "Loop igw-1 -")
    × ((told (stops.Loop (places.NatOut (nat 0))) ≡ codes "Loop nat-1 -")
    × ((told (stops.Loop (places.NatIn (nat 0))) ≡ codes "Loop nat-1 -")
    × ((told (stops.Loop (places.Peer first_peering (vpc 0))) ≡ codes "Loop pcx-1 -")
    × ((told (stops.TooFar (places.Tgw (att 0) (subnet 0))) ≡ codes "TooFar att-a -")
    × ((told (stops.TooFar (places.TgwLeave (att 0) (subnet 0))) ≡ codes "TooFar att-a -")
    × ((told (stops.WrongPlace ends.Internet) ≡ codes "WrongPlace internet -")
    × ((told (stops.WrongReturn (ends.Interface (eni 0))) ≡ codes "WrongReturn eni-a -")
    × (told (stops.NoReply (ends.Interface (eni 0))) ≡ codes "NoReply eni-a -"))))))))))))))

-- by what a packet passed: a rule with an id of its own is told by it, another by its number
abbrev pub PrintsRules : Type 0
PrintsRules =
    (by_text one_of_each (rule 0 dirs.Inward 1) ≡ codes " by sg-a in sgr-1")
    × ((by_text one_of_each (rule 0 dirs.Inward 2) ≡ codes " by sg-a in 2")
    × ((by_text one_of_each (rule 0 dirs.Outward 1) ≡ codes " by sg-a out 1")
    × ((by_text one_of_each bys.NoGroups ≡ codes " by none")
    × ((by_text one_of_each bys.Tracked ≡ codes " by tracked")
    × (by_text one_of_each bys.Nothing ≡ [])))))

-- protocols with and without a name
abbrev pub PrintsProtocols : Type 0
PrintsProtocols =
    let h = tcp (v4 10 0 1 10) (v4 10 0 2 20) 7 53 in
    (header_text h ≡ codes "tcp 10.0.1.10 10.0.2.20 7 53")
    × ((header_text (record h { proto = 17 }) ≡ codes "udp 10.0.1.10 10.0.2.20 7 53")
    × ((header_text (record h { proto = 1 }) ≡ codes "icmp 10.0.1.10 10.0.2.20 7 53")
    × (header_text (record h { proto = 50 }) ≡ codes "50 10.0.1.10 10.0.2.20 7 53")))

-- each refusal of a description with its arguments
abbrev pub PrintsRefusals : Type 0
PrintsRefusals =
    (refusal_text (refusals.DuplicateId (codes "vpc-1")) ≡ codes "DuplicateId vpc-1")
    × ((refusal_text (refusals.MissingReference (codes "eni-a") (codes "sg-x")) ≡ codes "MissingReference eni-a sg-x")
    × ((refusal_text (refusals.DuplicateAddress (codes "vpc-1") (v4 10 0 1 10)) ≡ codes "DuplicateAddress vpc-1 10.0.1.10")
    × ((refusal_text (refusals.DuplicatePublic (v4 203 0 113 1)) ≡ codes "DuplicatePublic 203.0.113.1")
    × ((refusal_text (refusals.NoRouteTable (codes "subnet-a")) ≡ codes "NoRouteTable subnet-a")
    × ((refusal_text (refusals.NoAcl (codes "subnet-a")) ≡ codes "NoAcl subnet-a")
    × ((refusal_text (refusals.TwoInternetGateways (codes "vpc-1")) ≡ codes "TwoInternetGateways vpc-1")
    × ((refusal_text (refusals.TwoTables (codes "vpc-1")) ≡ codes "TwoTables vpc-1")
    × ((refusal_text (refusals.TwoAcls (codes "subnet-a")) ≡ codes "TwoAcls subnet-a")
    × (refusal_text (refusals.TooManyRows named.SecurityGroups) ≡ codes "TooManyRows SecurityGroups")))))))))

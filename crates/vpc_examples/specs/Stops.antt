-- Where packets are stopped in small networks: each stop at least once.
use Rattle.std.specs.Prelude.{◌++◌, ◌∷◌, ◌≡◌, ◌+◌, [], Bool, List, None, Option, Some, codes, false, length, map, true, ℕ}
use Rattle.vpc_laws.specs.Types.{Description, Dir, GroupScope, GroupVpc, Header, Interface, NatLife, Outcome, Peering, Route, RuleRef, SubnetNo}
use Rattle.vpc_model.specs.declared.outcomes.By.TheVariants as bys
use Rattle.vpc_base.specs.declared.headers.Dir.TheVariants as dirs
use Rattle.vpc_model.specs.declared.places.End.TheVariants as ends
use Rattle.vpc_model.specs.declared.stops.Foreign.TheVariants as foreign
use Rattle.vpc_model.specs.declared.places.Came.TheVariants as from
use Rattle.vpc_base.specs.declared.headers.Label.TheVariants as labels
use Rattle.vpc_model.specs.declared.rows.NatLife.TheVariants as lives
use Rattle.vpc_model.specs.declared.outcomes.Outcome.TheVariants as outcomes
use Rattle.vpc_model.specs.declared.outcomes.Phase.TheVariants as phases
use Rattle.vpc_model.specs.declared.places.Place.TheVariants as places
use Rattle.vpc_model.specs.declared.stops.Stop.TheVariants as stops
use Rattle.vpc_model.specs.declared.rows.Target.TheVariants as targets
use Rattle.vpc_model.specs.declared.outcomes.Verdict.TheVariants as verdicts
use Rattle.vpc_examples.specs.Examples.{a_to_c, a_to_server, att, eni, first_walk, from_server, hop, hop_by, nat, outcome_of, subnet, tcp, verdict_in, vpc, walk_after}
use Rattle.vpc_examples.specs.Networks.{acl, acl_1, allow_all, allow_row, anywhere, attached, bare, behind_nat, block, eni_n, gone_route, group, host, host_with, https_from, https_from_group, local_1, main_table, open_rows, peered, public_hosts, route, site_group, site_host, site_subnet, tcp_row, tgw_route, transit, transit_subnet, two_subnets, v4}
use Rattle.vpc_model.specs.Terms.{attachment_for, chosen_tgw_route, first_rule, interface_at, is_unroutable, leave_subnet, reference_counts}
use Rattle.vpc_model.specs.Lookup.{no_scope, no_subnet, no_vpc}

-- where a first packet from the first host, or from the internet, ends
abbrev pub open_from_a : Description → Header → Outcome
open_from_a d h = outcome_of (first_walk d labels.Opening (places.OutOf (eni 0)) h)

abbrev pub open_from_internet : Description → Header → Outcome
open_from_internet d h = outcome_of (first_walk d labels.Opening places.Internet h)

-- ---- one VPC, changed in one place

abbrev pub plain_vpc : Description
plain_vpc = two_subnets (acl_1 ∷ [])

abbrev pub with_hosts : Interface → Interface → Description
with_hosts a b = record plain_vpc { interfaces = a ∷ b ∷ [] }

abbrev pub with_route : Route → Description
with_route r = record plain_vpc { tables = main_table (codes "rtb-1") (codes "vpc-1") (local_1 ∷ r ∷ []) ∷ [] }

abbrev pub eni_a : Interface
eni_a = host (codes "eni-a") (codes "subnet-a") (v4 10 0 1 10) (codes "sg-a")

abbrev pub eni_b : Interface
eni_b = host (codes "eni-b") (codes "subnet-b") (v4 10 0 2 20) (codes "sg-b")

-- an interface that is attached to nothing sends and receives nothing; one whose check is on sends from its own addresses and
-- receives at them alone
abbrev pub ChecksInterfaces : Type 0
ChecksInterfaces =
    (open_from_a (with_hosts (record eni_a { idle = true }) eni_b) (a_to_c 0) ≡ outcomes.Stopped (stops.Detached (eni 0)))
    × ((open_from_a (with_hosts eni_a (record eni_b { idle = true })) (a_to_c 0) ≡ outcomes.Stopped (stops.Detached (eni 1)))
    × ((open_from_a plain_vpc (tcp (v4 10 0 1 99) (v4 10 0 2 20) 0 443) ≡ outcomes.Stopped (stops.SourceCheck (eni 0)))
    × ((open_from_a (with_hosts (record eni_a { checked = false }) eni_b) (tcp (v4 10 0 1 99) (v4 10 0 2 20) 0 443) ≡ outcomes.Stopped (stops.GroupsIn (eni 1)))
    × ((open_from_a (with_route (route (block (v4 10 9 0 0) 16) (targets.Interface (codes "eni-b")))) (tcp (v4 10 0 1 10) (v4 10 9 0 1) 0 443) ≡ outcomes.Stopped (stops.DestCheck (eni 1)))
    × (outcome_of (first_walk plain_vpc labels.Opening (places.OutOf (eni 1)) (tcp (v4 10 0 2 20) (v4 10 0 1 10) 0 443)) ≡ outcomes.Stopped (stops.GroupsOut (eni 1)))))))

-- every private address of an interface is its own, not the primary one alone
abbrev pub OwnsAllAddresses : Type 0
OwnsAllAddresses =
    open_from_a (with_hosts (record eni_a { addresses = (v4 10 0 1 10, None) ∷ (v4 10 0 1 11, None) ∷ [] }) (record eni_b { addresses = (v4 10 0 2 20, None) ∷ (v4 10 0 2 21, None) ∷ [] })) (tcp (v4 10 0 1 11) (v4 10 0 2 21) 0 443)
    ≡ outcomes.Arrived (ends.Interface (eni 1)) (tcp (v4 10 0 1 11) (v4 10 0 2 21) 0 443)

-- so is every address of a block that is delegated to it: it sends and receives there, and is a member of its groups there
abbrev pub OwnsDelegatedBlocks : Type 0
OwnsDelegatedBlocks =
    let d = with_hosts (record eni_a { prefixes = block (v4 10 0 1 64) 28 ∷ [] }) (record eni_b { prefixes = block (v4 10 0 2 128) 28 ∷ [] }) in
    let between : ℕ → ℕ → Header = λ from to. tcp from to 0 443 in
    (open_from_a d (between (v4 10 0 1 64) (v4 10 0 2 128)) ≡ outcomes.Arrived (ends.Interface (eni 1)) (between (v4 10 0 1 64) (v4 10 0 2 128)))
    × ((open_from_a d (between (v4 10 0 1 79) (v4 10 0 2 143)) ≡ outcomes.Arrived (ends.Interface (eni 1)) (between (v4 10 0 1 79) (v4 10 0 2 143)))
    × ((open_from_a d (between (v4 10 0 1 80) (v4 10 0 2 128)) ≡ outcomes.Stopped (stops.SourceCheck (eni 0)))
    × ((open_from_a d (between (v4 10 0 1 10) (v4 10 0 2 144)) ≡ outcomes.Stopped (stops.NoHost (vpc 0)))
    × (open_from_a d (between (v4 10 0 1 10) (v4 10 0 2 127)) ≡ outcomes.Stopped (stops.NoHost (vpc 0))))))

-- an interface of a gateway hosts nothing, whether it is found by its address or named by a route
abbrev pub GatewaysHostNothing : Type 0
GatewaysHostNothing =
    let d = record (with_route (route (block (v4 10 9 0 0) 16) (targets.Interface (codes "eni-b")))) { interfaces = eni_a ∷ record eni_n { id = codes "eni-b"; subnet = codes "subnet-b" } ∷ [] } in
    (open_from_a d (tcp (v4 10 0 1 10) (v4 10 0 3 5) 0 443) ≡ outcomes.Stopped (stops.NotAHost (eni 1)))
    × ((open_from_a d (tcp (v4 10 0 1 10) (v4 10 9 0 1) 0 443) ≡ outcomes.Stopped (stops.NotAHost (eni 1)))
    × ((open_from_a (behind_nat open_rows) (tcp (v4 10 0 1 10) (v4 10 0 3 5) 0 443) ≡ outcomes.Stopped (stops.NatUnsolicited (nat 0)))
    × (open_from_a (record (behind_nat open_rows) { tables = main_table (codes "rtb-1") (codes "vpc-1") (route anywhere (targets.Interface (codes "eni-n")) ∷ []) ∷ [] }) (a_to_server 0) ≡ outcomes.Stopped (stops.NotAHost (eni 2)))))

-- a router without a route for the destination, with one whose target is gone, with one to nothing that is followed, and with
-- one to the VPC, which has no such host
abbrev pub ChecksRoutes : Type 0
ChecksRoutes =
    (open_from_a plain_vpc (a_to_server 0) ≡ outcomes.Stopped (stops.NoRoute (record { 0 = 0 })))
    × ((open_from_a (with_route (gone_route anywhere (targets.Nat (codes "nat-1")))) (a_to_server 0) ≡ outcomes.Stopped (stops.Blackhole (record { 0 = 0 }) 1))
    × ((open_from_a (with_route (route anywhere (targets.Other (codes "vpce-1")))) (a_to_server 0) ≡ outcomes.Stopped (stops.Unmodelled (foreign.Target (record { 0 = 0 }) 1)))
    × ((open_from_a plain_vpc (tcp (v4 10 0 1 10) (v4 10 0 9 9) 0 443) ≡ outcomes.Stopped (stops.NoHost (vpc 0)))
    × (open_from_a (record peered { tables = main_table (codes "rtb-a") (codes "vpc-a") (route anywhere targets.Local ∷ []) ∷ [] }) (tcp (v4 10 1 1 10) (v4 10 3 1 10) 0 443) ≡ outcomes.Stopped (stops.NoHost (vpc 0))))))

-- the ACL of the other subnet judges what enters it
abbrev pub JudgesEntry : Type 0
JudgesEntry =
    open_from_a (two_subnets (acl (codes "acl-1") (codes "subnet-a" ∷ codes "subnet-b" ∷ []) (tcp_row 90 false false 443 443 (block (v4 10 0 1 10) 32) ∷ open_rows) ∷ [])) (a_to_c 0)
    ≡ outcomes.Stopped (stops.AclIn (record { 0 = 0 }) 90)

-- ---- rules of groups

-- the first group's rule lets in SSH, the second's DNS and then HTTPS from a prefix list
abbrev pub two_groups : Description
two_groups = record (with_hosts eni_a (record eni_b { groups = codes "sg-1" ∷ codes "sg-2" ∷ [] })) {
  lists = record { id = codes "pl-1"; entries = block (v4 10 0 0 0) 8 ∷ [] } ∷ [];
  groups = group (codes "sg-2") (codes "vpc-1") (record allow_all { proto = Some 17; q_from = 53; q_to = 53 } ∷ record (https_from anywhere) { blocks = []; lists = codes "pl-1" ∷ [] } ∷ []) []
      ∷ group (codes "sg-1") (codes "vpc-1") (record allow_all { proto = Some 6; q_from = 22; q_to = 22 } ∷ []) [] ∷ [];
}

abbrev pub inward_rule : Description → ℕ → Header → Option RuleRef
inward_rule d k h = first_rule d (interface_at d (eni k)) dirs.Inward h

-- a rule is told by its group and its number there, in the order of the interface's groups
abbrev pub FindsFirstRule : Type 0
FindsFirstRule =
    (inward_rule two_groups 1 (tcp (v4 10 0 1 10) (v4 10 0 2 20) 0 443) ≡ Some (record { group = record { 0 = 0 }; dir = dirs.Inward; number = 2 }))
    × ((inward_rule two_groups 1 (tcp (v4 10 0 1 10) (v4 10 0 2 20) 0 22) ≡ Some (record { group = record { 0 = 1 }; dir = dirs.Inward; number = 1 }))
    × ((inward_rule two_groups 1 (tcp (v4 192 0 2 1) (v4 10 0 2 20) 0 443) ≡ None)
    × (inward_rule two_groups 1 (tcp (v4 10 0 1 10) (v4 10 0 2 20) 0 80) ≡ None)))

-- the second site's group lets in HTTPS from the members of the first's
abbrev pub refers_across : List Peering → Description
refers_across peerings = record peered {
  groups = site_group (codes "a") ∷ group (codes "sg-b") (codes "vpc-b") (https_from_group (codes "sg-a") ∷ []) [] ∷ [];
  peerings = peerings;
}

-- a rule may name a group of a VPC that an active peering joins to its own, and of no other
abbrev pub CountsReferences : Type 0
CountsReferences =
    let h = tcp (v4 10 1 1 10) (v4 10 2 1 10) 0 443 in
    (inward_rule (refers_across (record { id = codes "pcx-ab"; pair = Some (codes "vpc-a", codes "vpc-b") } ∷ [])) 1 h ≡ Some (record { group = record { 0 = 1 }; dir = dirs.Inward; number = 1 }))
    × ((inward_rule (refers_across (record { id = codes "pcx-ba"; pair = Some (codes "vpc-b", codes "vpc-a") } ∷ [])) 1 h ≡ Some (record { group = record { 0 = 1 }; dir = dirs.Inward; number = 1 }))
    × ((inward_rule (refers_across (record { id = codes "pcx-ab"; pair = None } ∷ [])) 1 h ≡ None)
    × ((inward_rule (refers_across (record { id = codes "pcx-ac"; pair = Some (codes "vpc-a", codes "vpc-c") } ∷ [])) 1 h ≡ None)
    × (inward_rule (refers_across (record { id = codes "pcx-ab"; pair = Some (codes "vpc-a", codes "vpc-b") } ∷ [])) 1 (tcp (v4 10 1 9 9) (v4 10 2 1 10) 0 443) ≡ None))))

-- whether the second site's rule may name the first one's group, where peerings of these pairs are active
abbrev pub counts_over : List (List ℕ × List ℕ) → Bool
counts_over pairs = reference_counts (refers_across (map (λ pair. record { id = pair.0 ++ pair.1; pair = Some pair }) pairs)) dirs.Inward (codes "vpc-b") (codes "sg-a")

-- an active peering counts where it is of exactly these two VPCs: not one of either with a third, whichever asked for it, nor
-- one with each, nor one of a VPC with itself
abbrev pub OtherPeeringsDontCount : Type 0
OtherPeeringsDontCount =
    let a : List ℕ = codes "vpc-a" in
    let b : List ℕ = codes "vpc-b" in
    let c : List ℕ = codes "vpc-c" in
    (map counts_over (((a, b) ∷ []) ∷ ((b, a) ∷ []) ∷ ((a, c) ∷ (c, b) ∷ (b, a) ∷ []) ∷ []) ≡ true ∷ true ∷ true ∷ [])
    × ((map counts_over (((a, c) ∷ []) ∷ ((c, a) ∷ []) ∷ ((b, c) ∷ []) ∷ ((c, b) ∷ []) ∷ []) ≡ false ∷ false ∷ false ∷ false ∷ [])
    × (map counts_over ([] ∷ ((a, c) ∷ (c, b) ∷ []) ∷ ((a, a) ∷ []) ∷ ((b, b) ∷ []) ∷ []) ≡ false ∷ false ∷ false ∷ false ∷ []))

-- two VPCs at a transit gateway, where the second site's group lets in HTTPS from the members of the first's
abbrev pub refers_over : GroupScope → Description
refers_over scope = record transit {
  groups = site_group (codes "a") ∷ group (codes "sg-b") (codes "vpc-b") (https_from_group (codes "sg-a") ∷ []) [] ∷ [];
  scope = scope;
}

-- whether either site's rule of the direction may name the other's group, that of the second first
abbrev pub count_either_way : Dir → GroupScope → List Bool
count_either_way dir scope =
    reference_counts (refers_over scope) dir (codes "vpc-b") (codes "sg-a") ∷ reference_counts (refers_over scope) dir (codes "vpc-a") (codes "sg-b") ∷ []

abbrev pub both_attachments : GroupScope
both_attachments = record { gateways = codes "tgw-1" ∷ []; attachments = codes "att-a" ∷ codes "att-b" ∷ []; vpcs = [] }

-- an inward rule may name a group over a transit gateway where its option and those of both attachments are on; an outward one may not
abbrev pub CountsReferencesOverTransit : Type 0
CountsReferencesOverTransit =
    let h = tcp (v4 10 1 1 10) (v4 10 2 1 10) 0 443 in
    (inward_rule (refers_over both_attachments) 1 h ≡ Some (record { group = record { 0 = 1 }; dir = dirs.Inward; number = 1 }))
    × ((inward_rule (refers_over no_scope) 1 h ≡ None)
    × ((count_either_way dirs.Inward both_attachments ≡ true ∷ true ∷ [])
    × ((count_either_way dirs.Outward both_attachments ≡ false ∷ false ∷ [])
    × ((count_either_way dirs.Inward (record both_attachments { gateways = codes "tgw-2" ∷ [] }) ≡ false ∷ false ∷ [])
    × ((count_either_way dirs.Inward (record both_attachments { attachments = codes "att-a" ∷ [] }) ≡ false ∷ false ∷ [])
    × (count_either_way dirs.Inward (record both_attachments { attachments = codes "att-b" ∷ [] }) ≡ false ∷ false ∷ []))))))

-- a group of the first VPC that an interface of the second has, which lets in HTTPS from the members of the second's group
abbrev pub shared_group : List GroupVpc → Description
shared_group vpcs = record transit {
  interfaces = site_host (codes "a") 1 ∷ record (site_host (codes "b") 2) { groups = codes "sg-s" ∷ [] } ∷ host (codes "eni-b9") (codes "subnet-b") (v4 10 2 9 10) (codes "sg-b") ∷ [];
  groups = site_group (codes "a") ∷ site_group (codes "b") ∷ group (codes "sg-s") (codes "vpc-a") (https_from_group (codes "sg-b") ∷ []) [] ∷ [];
  scope = record no_scope { vpcs = vpcs };
}

-- rules of a group count in the VPC of the interface where the group belongs to it, else in the group's own
abbrev pub RulesAreInTheVpcOfTheInterface : Type 0
RulesAreInTheVpcOfTheInterface =
    let h = tcp (v4 10 2 9 10) (v4 10 2 1 10) 0 443 in
    let in_b : GroupVpc = record { group = codes "sg-s"; vpc = codes "vpc-b" } in
    (inward_rule (shared_group (in_b ∷ [])) 1 h ≡ Some (record { group = record { 0 = 2 }; dir = dirs.Inward; number = 1 }))
    × ((inward_rule (shared_group []) 1 h ≡ None)
    × ((inward_rule (shared_group (record in_b { group = codes "sg-b" } ∷ [])) 1 h ≡ None)
    × ((inward_rule (shared_group (record in_b { vpc = codes "vpc-c" } ∷ [])) 1 h ≡ None)
    -- and a group may be named where any of its VPCs is the rule's
    × ((reference_counts (shared_group (in_b ∷ [])) dirs.Outward (codes "vpc-b") (codes "sg-s") ≡ true)
    × (reference_counts (shared_group []) dirs.Outward (codes "vpc-b") (codes "sg-s") ≡ false)))))

-- an interface without groups is judged by none, and makes no connection
abbrev pub NeedsNoGroups : Type 0
NeedsNoGroups =
    first_walk (with_hosts (record eni_a { groups = [] }) (record eni_b { groups = [] })) labels.Opening (places.OutOf (eni 0)) (a_to_c 0) ≡ record {
      hops = hop_by (places.OutOf (eni 0)) (a_to_c 0) bys.NoGroups
          ∷ hop (places.Router (subnet 0) (from.Host (eni 0))) (a_to_c 0)
          ∷ hop_by (places.Into (eni 1)) (a_to_c 0) bys.NoGroups
          ∷ [];
      outcome = outcomes.Arrived (ends.Interface (eni 1)) (a_to_c 0);
      conns = [];
      nats = [];
    }

-- ---- the internet gateway

abbrev pub published : Description
published = public_hosts (https_from (block (v4 203 0 113 10) 32))

-- a route to a gateway that isn't attached, a source without a public address, a public address of a VPC without a gateway, and
-- private addresses on the internet
abbrev pub ChecksInternetGateways : Type 0
ChecksInternetGateways =
    (open_from_a (record published { igws = record { id = codes "igw-1"; vpcs = [] } ∷ [] }) (a_to_server 0) ≡ outcomes.Stopped (stops.GatewayDetached (record { 0 = 0 })))
    × ((open_from_a (record published { interfaces = eni_a ∷ eni_b ∷ [] }) (a_to_server 0) ≡ outcomes.Stopped (stops.NoPublic (record { 0 = 0 })))
    × ((open_from_internet (record published { igws = [] }) (tcp (v4 198 51 100 7) (v4 203 0 113 20) 0 443) ≡ outcomes.Stopped (stops.NoGateway (vpc 0)))
    × ((open_from_internet published (tcp (v4 192 168 1 1) (v4 203 0 113 20) 0 443) ≡ outcomes.Stopped stops.PrivateAddress)
    × (open_from_a published (tcp (v4 10 0 1 10) (v4 172 31 0 1) 0 443) ≡ outcomes.Stopped stops.PrivateAddress))))

-- two VPCs with hosts of one private address; the second's alone has a public one
abbrev pub overlapping : Description
overlapping = record peered {
  interfaces = site_host (codes "a") 1 ∷ host_with (codes "eni-b") (codes "subnet-b") (v4 10 1 1 10) (Some (v4 203 0 113 20)) (codes "sg-b") ∷ [];
  tables = main_table (codes "rtb-a") (codes "vpc-a") (route anywhere (targets.Internet (codes "igw-1")) ∷ []) ∷ [];
  igws = record { id = codes "igw-1"; vpcs = codes "vpc-a" ∷ [] } ∷ [];
}

-- public addresses belong to the hosts of one VPC
abbrev pub PublicAddressesAreOfOneVpc : Type 0
PublicAddressesAreOfOneVpc =
    (open_from_a overlapping (tcp (v4 10 1 1 10) (v4 198 51 100 7) 0 443) ≡ outcomes.Stopped (stops.NoPublic (record { 0 = 0 })))
    × (open_from_internet overlapping (tcp (v4 198 51 100 7) (v4 203 0 113 20) 0 443) ≡ outcomes.Stopped (stops.NoGateway (vpc 1)))

-- the first and last addresses of the non-routable blocks, and their neighbours
abbrev pub UnroutableBlocksEnd : Type 0
UnroutableBlocksEnd =
    (map is_unroutable (v4 0 0 0 0 ∷ v4 0 255 255 255 ∷ v4 10 0 0 0 ∷ v4 10 255 255 255 ∷ v4 127 0 0 0 ∷ v4 127 255 255 255 ∷ v4 169 254 0 0 ∷ v4 169 254 255 255 ∷ v4 172 16 0 0 ∷ v4 172 31 255 255 ∷ v4 192 168 0 0 ∷ v4 192 168 255 255 ∷ v4 224 0 0 0 ∷ v4 255 255 255 255 ∷ [])
    ≡ true ∷ true ∷ true ∷ true ∷ true ∷ true ∷ true ∷ true ∷ true ∷ true ∷ true ∷ true ∷ true ∷ true ∷ [])
    × (map is_unroutable (v4 1 0 0 0 ∷ v4 9 255 255 255 ∷ v4 11 0 0 0 ∷ v4 126 255 255 255 ∷ v4 128 0 0 0 ∷ v4 169 253 255 255 ∷ v4 169 255 0 0 ∷ v4 172 15 255 255 ∷ v4 172 32 0 0 ∷ v4 192 167 255 255 ∷ v4 192 169 0 0 ∷ v4 223 255 255 255 ∷ [])
    ≡ false ∷ false ∷ false ∷ false ∷ false ∷ false ∷ false ∷ false ∷ false ∷ false ∷ false ∷ false ∷ [])

-- ---- the NAT gateway

abbrev pub with_life : NatLife → Description
with_life life = record (behind_nat open_rows) { nats = record { id = codes "nat-1"; life = life } ∷ [] }

-- a gateway that is gone, one without a subnet, a protocol that isn't translated, an answer on the way out, a first packet on
-- the way in
abbrev pub ChecksNatGateways : Type 0
ChecksNatGateways =
    (open_from_a (with_life lives.Gone) (a_to_server 0) ≡ outcomes.Stopped (stops.NatNotAvailable (nat 0)))
    × ((open_from_a (with_life lives.Unmodelled) (a_to_server 0) ≡ outcomes.Stopped (stops.Unmodelled (foreign.Nat (nat 0))))
    × ((open_from_a (behind_nat open_rows) (record { proto = 50; src = v4 10 0 1 10; dst = v4 198 51 100 7; p = 0; q = 0 }) ≡ outcomes.Stopped (stops.NatProtocol (nat 0)))
    × ((outcome_of (first_walk (behind_nat open_rows) labels.Answer (places.OutOf (eni 0)) (a_to_server 0)) ≡ outcomes.Stopped (stops.NatAnswer (nat 0)))
    × (open_from_internet (behind_nat open_rows) (from_server 5000) ≡ outcomes.Stopped (stops.NatUnsolicited (nat 0))))))

-- ---- between VPCs

-- a peering that isn't active, one to a VPC that isn't described, and a source that isn't the sending VPC's
abbrev pub ChecksPeerings : Type 0
ChecksPeerings =
    let h = tcp (v4 10 1 1 10) (v4 10 3 1 10) 0 443 in
    (open_from_a (record peered { peerings = record { id = codes "pcx-ab"; pair = None } ∷ [] }) h ≡ outcomes.Stopped (stops.PeerNotActive (record { 0 = 0 })))
    × ((open_from_a (record peered { peerings = record { id = codes "pcx-ab"; pair = Some (codes "vpc-a", codes "vpc-x") } ∷ [] }) h ≡ outcomes.Stopped (stops.Unmodelled (foreign.Peering (record { 0 = 0 }))))
    × (open_from_a (record peered { interfaces = record (site_host (codes "a") 1) { checked = false } ∷ [] }) (tcp (v4 10 9 9 9) (v4 10 3 1 10) 0 443) ≡ outcomes.Stopped (stops.PeerSource (record { 0 = 0 }))))

abbrev pub a_over_transit : Header
a_over_transit = tcp (v4 10 1 1 10) (v4 10 2 1 10) 0 443

-- the transit gateway isn't attached to the VPC, or not in the zone; the attachment has no table, or the table no route
abbrev pub ChecksTransitEntry : Type 0
ChecksTransitEntry =
    (open_from_a (record transit { attachments = [] }) a_over_transit ≡ outcomes.Stopped (stops.TgwNoAttachment (record { 0 = 0 }) 1))
    × ((open_from_a (record transit { subnets = record (site_subnet (codes "a")) { zone = codes "y" } ∷ site_subnet (codes "b") ∷ transit_subnet (codes "a") ∷ transit_subnet (codes "b") ∷ [] }) a_over_transit ≡ outcomes.Stopped (stops.TgwNoZone (att 0)))
    × ((open_from_a (record transit { associations = [] }) a_over_transit ≡ outcomes.Stopped (stops.TgwNoTable (att 0)))
    × (open_from_a (attached [] []) a_over_transit ≡ outcomes.Stopped (stops.TgwNoRoute (record { 0 = 0 })))))

-- the route of the table has no attachment, or one that isn't described, or one of a VPC that isn't described
abbrev pub ChecksTransitExit : Type 0
ChecksTransitExit =
    (open_from_a (attached (record (tgw_route anywhere [] false) { attachment = None } ∷ []) []) a_over_transit ≡ outcomes.Stopped (stops.Unmodelled (foreign.Table (record { 0 = 0 }))))
    × ((open_from_a (attached (tgw_route anywhere (codes "att-x") false ∷ []) []) a_over_transit ≡ outcomes.Stopped (stops.Unmodelled (foreign.FarAttachment (record { 0 = 0 }) 0)))
    × (open_from_a (record transit { attachments = record { id = codes "att-a"; gateway = codes "tgw-1"; vpc = codes "vpc-a"; subnets = codes "subnet-ta" ∷ [] } ∷ record { id = codes "att-b"; gateway = codes "tgw-1"; vpc = codes "vpc-x"; subnets = codes "subnet-tb" ∷ [] } ∷ [] }) a_over_transit ≡ outcomes.Stopped (stops.Unmodelled (foreign.Attachment (att 1)))))

-- ---- ACLs at every exit and entry

-- the ACL of the first subnet lets nothing out, and so stops what leaves it for each kind of target
abbrev pub shut_out : Description → Description
shut_out d = record d { acls = acl (codes "acl-x") (codes "subnet-a" ∷ []) (allow_row 100 false anywhere ∷ []) ∷ d.acls }

abbrev pub JudgesExit : Type 0
JudgesExit =
    (open_from_a (shut_out plain_vpc) (a_to_c 0) ≡ outcomes.Stopped (stops.AclOut (record { 0 = 0 }) 32767))
    × ((open_from_a (shut_out (with_route (route (block (v4 10 9 0 0) 16) (targets.Interface (codes "eni-b"))))) (tcp (v4 10 0 1 10) (v4 10 9 0 1) 0 443) ≡ outcomes.Stopped (stops.AclOut (record { 0 = 0 }) 32767))
    × ((open_from_a (shut_out published) (a_to_server 0) ≡ outcomes.Stopped (stops.AclOut (record { 0 = 0 }) 32767))
    × ((open_from_a (shut_out (behind_nat open_rows)) (a_to_server 0) ≡ outcomes.Stopped (stops.AclOut (record { 0 = 0 }) 32767))
    × ((open_from_a (shut_out peered) (tcp (v4 10 1 1 10) (v4 10 3 1 10) 0 443) ≡ outcomes.Stopped (stops.AclOut (record { 0 = 0 }) 32767))
    × (open_from_a (shut_out transit) a_over_transit ≡ outcomes.Stopped (stops.AclOut (record { 0 = 0 }) 32767))))))

-- the ACL of the other subnet lets nothing in, and so stops what enters it: by an interface's address, by a route that names the
-- interface, by a NAT gateway, and from the internet gateway
abbrev pub shut_in : List ℕ → Description → Description
shut_in id d = record d { acls = acl (codes "acl-x") (id ∷ []) (allow_row 100 true anywhere ∷ []) ∷ d.acls }

abbrev pub JudgesEveryEntry : Type 0
JudgesEveryEntry =
    (open_from_a (shut_in (codes "subnet-b") plain_vpc) (a_to_c 0) ≡ outcomes.Stopped (stops.AclIn (record { 0 = 0 }) 32767))
    × ((open_from_a (shut_in (codes "subnet-b") (with_route (route (block (v4 10 9 0 0) 16) (targets.Interface (codes "eni-b"))))) (tcp (v4 10 0 1 10) (v4 10 9 0 1) 0 443) ≡ outcomes.Stopped (stops.AclIn (record { 0 = 0 }) 32767))
    × ((open_from_a (shut_in (codes "subnet-n") (behind_nat open_rows)) (a_to_server 0) ≡ outcomes.Stopped (stops.AclIn (record { 0 = 0 }) 32767))
    × ((open_from_internet (shut_in (codes "subnet-b") published) (tcp (v4 198 51 100 7) (v4 203 0 113 20) 0 443) ≡ outcomes.Stopped (stops.AclIn (record { 0 = 0 }) 32767))
    × (open_from_a (shut_in (codes "subnet-ta") transit) a_over_transit ≡ outcomes.Stopped (stops.AclIn (record { 0 = 0 }) 32767)))))

-- ---- choices at a transit gateway

-- the second VPC is attached by two subnets, in the zones z and y
abbrev pub two_zones : List ℕ → Description
two_zones zone = record transit {
  subnets = record (site_subnet (codes "a")) { zone = zone } ∷ site_subnet (codes "b") ∷ record (transit_subnet (codes "a")) { zone = zone } ∷ transit_subnet (codes "b") ∷ record (transit_subnet (codes "b")) { id = codes "subnet-y"; zone = codes "y" } ∷ [];
  attachments = record { id = codes "att-a"; gateway = codes "tgw-1"; vpc = codes "vpc-a"; subnets = codes "subnet-ta" ∷ [] } ∷ record { id = codes "att-b"; gateway = codes "tgw-1"; vpc = codes "vpc-b"; subnets = codes "subnet-tb" ∷ codes "subnet-y" ∷ [] } ∷ [];
}

abbrev pub leaves_to : List ℕ → Option SubnetNo
leaves_to zone = leave_subnet (two_zones zone) (att 1) (subnet 2)

-- a packet leaves a transit gateway in the zone in which it entered, and else by the first subnet
abbrev pub LeavesByZone : Type 0
LeavesByZone = (leaves_to (codes "y") ≡ Some (subnet 4)) × ((leaves_to (codes "z") ≡ Some (subnet 3)) × (leaves_to (codes "x") ≡ Some (subnet 3)))

-- of two gateways in a VPC the one that the route names is entered
abbrev pub EntersNamedGateway : Type 0
EntersNamedGateway =
    attachment_for (record transit { attachments = record { id = codes "att-x"; gateway = codes "tgw-2"; vpc = codes "vpc-a"; subnets = codes "subnet-ta" ∷ [] } ∷ transit.attachments }) (codes "tgw-1") (subnet 0) ≡ Some (att 1)

-- of equally long routes of a transit table the static one is chosen, and of equal ones the first
abbrev pub StaticRouteIsChosen : Type 0
StaticRouteIsChosen =
    let b = block (v4 10 2 0 0) 16 in
    (chosen_tgw_route (tgw_route b (codes "att-a") true ∷ tgw_route b (codes "att-b") false ∷ tgw_route b (codes "att-c") false ∷ []) (v4 10 2 1 10) ≡ Some 1)
    × (chosen_tgw_route (tgw_route anywhere (codes "att-a") false ∷ tgw_route b (codes "att-b") true ∷ []) (v4 10 2 1 10) ≡ Some 1)

-- ---- requests and replies

-- a request that arrives elsewhere, a reply that arrives elsewhere, and a request that has no reply
abbrev pub ChecksReturns : Type 0
ChecksReturns =
    (verdict_in published ends.Internet (ends.Interface (eni 0)) (tcp (v4 198 51 100 7) (v4 203 0 113 11) 0 22) ≡ verdicts.Stopped phases.Request (stops.WrongPlace ends.Internet))
    × ((verdict_in (record published { groups = group (codes "sg-a") (codes "vpc-1") (allow_all ∷ []) [] ∷ group (codes "sg-b") (codes "vpc-1") (https_from anywhere ∷ []) [] ∷ [] }) ends.Internet (ends.Interface (eni 0)) (tcp (v4 203 0 113 20) (v4 203 0 113 10) 443 22) ≡ verdicts.Stopped phases.Reply (stops.WrongReturn (ends.Interface (eni 1))))
    × ((verdict_in (record plain_vpc { groups = group (codes "sg-a") (codes "vpc-1") [] (allow_all ∷ []) ∷ group (codes "sg-b") (codes "vpc-1") (allow_all ∷ []) [] ∷ [] }) (ends.Interface (eni 0)) (ends.Interface (eni 1)) (record { proto = 1; src = v4 10 0 1 10; dst = v4 10 0 2 20; p = 0; q = 0 }) ≡ verdicts.Stopped phases.Reply (stops.NoReply (ends.Interface (eni 1))))
    × (verdict_in (record plain_vpc { groups = group (codes "sg-a") (codes "vpc-1") [] (allow_all ∷ []) ∷ group (codes "sg-b") (codes "vpc-1") (allow_all ∷ []) [] ∷ [] }) (ends.Interface (eni 0)) (ends.Interface (eni 1)) (record { proto = 1; src = v4 10 0 1 10; dst = v4 10 0 2 20; p = 0; q = 2048 }) ≡ verdicts.Through)))

-- a host whose check is off sends from its own public address inside the VPC; the reply comes back to it by way of the internet,
-- and so from another address to another
abbrev pub ChecksReturnedHeader : Type 0
ChecksReturnedHeader =
    let d = record published {
      interfaces = record (host_with (codes "eni-a") (codes "subnet-a") (v4 10 0 1 10) (Some (v4 203 0 113 10)) (codes "sg-a")) { checked = false }
          ∷ host_with (codes "eni-b") (codes "subnet-b") (v4 10 0 2 20) (Some (v4 203 0 113 20)) (codes "sg-b") ∷ [];
      groups = group (codes "sg-a") (codes "vpc-1") (allow_all ∷ []) (allow_all ∷ []) ∷ group (codes "sg-b") (codes "vpc-1") (https_from anywhere ∷ []) [] ∷ [];
    } in
    verdict_in d (ends.Interface (eni 0)) (ends.Interface (eni 1)) (tcp (v4 203 0 113 10) (v4 10 0 2 20) 5000 443) ≡ verdicts.Stopped phases.Reply (stops.WrongReturn (ends.Interface (eni 0)))

-- three hosts: the first, whose check is off, may send from the third's address; that one lets everything pass
abbrev pub neighbours : Description
neighbours = record plain_vpc {
  interfaces = record eni_a { checked = false } ∷ eni_b ∷ record (host (codes "eni-c") (codes "subnet-a") (v4 10 0 1 11) (codes "sg-b")) { groups = []; checked = false } ∷ [];
  groups = group (codes "sg-a") (codes "vpc-1") [] (allow_all ∷ []) ∷ group (codes "sg-b") (codes "vpc-1") (https_from anywhere ∷ []) [] ∷ [];
}

-- a reply that arrives at another end than the start isn't returned, also where it is the very reply of what was sent; it is
-- where that end sent it
abbrev pub RepliesReturnToTheStart : Type 0
RepliesReturnToTheStart =
    let h : Header = tcp (v4 10 0 1 11) (v4 10 0 2 20) 5000 443 in
    (verdict_in neighbours (ends.Interface (eni 0)) (ends.Interface (eni 1)) h ≡ verdicts.Stopped phases.Reply (stops.WrongReturn (ends.Interface (eni 2))))
    × (verdict_in neighbours (ends.Interface (eni 2)) (ends.Interface (eni 1)) h ≡ verdicts.Through)

-- a request that arrives at another end than the target is stopped there, also where a reply from the target would return
abbrev pub RequestsReachTheirTarget : Type 0
RequestsReachTheirTarget =
    let h : Header = tcp (v4 10 0 1 10) (v4 10 0 2 20) 5000 443 in
    let back : Header = tcp (v4 10 0 2 20) (v4 10 0 1 10) 443 5000 in
    (verdict_in neighbours (ends.Interface (eni 0)) (ends.Interface (eni 2)) h ≡ verdicts.Stopped phases.Request (stops.WrongPlace (ends.Interface (eni 1))))
    × ((outcome_of (walk_after neighbours labels.Answer (first_walk neighbours labels.Opening (places.OutOf (eni 0)) h) (places.OutOf (eni 2)) back) ≡ outcomes.Arrived (ends.Interface (eni 0)) back)
    × (verdict_in neighbours (ends.Interface (eni 0)) (ends.Interface (eni 1)) h ≡ verdicts.Through))

-- ---- long walks

-- the id of the VPC, the subnet, the attachment and the tables of the site with this number
abbrev pub site : ℕ → List ℕ
site k = (65 + k) ∷ []

abbrev pub sites : List ℕ
sites = 0 ∷ 1 ∷ 2 ∷ 3 ∷ 4 ∷ 5 ∷ 6 ∷ 7 ∷ 8 ∷ 9 ∷ 10 ∷ 11 ∷ 12 ∷ 13 ∷ 14 ∷ 15 ∷ 16 ∷ 17 ∷ 18 ∷ 19 ∷ 20 ∷ 21 ∷ []

abbrev pub to_all_at : List ℕ → Route
to_all_at gateway = route anywhere (targets.Transit gateway)

-- 22 VPCs at a transit gateway, which sends what comes from each to the next one
abbrev pub row_of_sites : Description
row_of_sites = record (bare (map (λ k. record no_vpc { id = site k }) sites) (map (λ k. record no_subnet { id = site k; vpc = site k; zone = site 0 }) sites)) {
  interfaces = record (host (site 0) (site 0) (v4 10 1 1 10) (site 0)) { groups = [] } ∷ [];
  tables = map (λ k. main_table (site k) (site k) (to_all_at (site 0) ∷ [])) sites;
  acls = acl (site 0) (map site sites) open_rows ∷ [];
  attachments = map (λ k. record { id = site k; gateway = site 0; vpc = site k; subnets = site k ∷ [] }) sites;
  associations = map (λ k. record { attachment = site k; table = site k }) sites;
  tgw_tables = map (λ k. record { id = site k; routes = tgw_route anywhere (site (k + 1)) false ∷ [] }) sites;
}

-- a walk is stopped before its 65th place
abbrev pub LongWalksEnd : Type 0
LongWalksEnd =
    let w = first_walk row_of_sites labels.Opening (places.OutOf (eni 0)) (tcp (v4 10 1 1 10) (v4 198 51 100 7) 0 443) in
    (length w.hops ≡ 64) × (w.outcome ≡ outcomes.Stopped (stops.TooFar (places.Router (subnet 21) (from.Transit (att 21)))))

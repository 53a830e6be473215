-- Numbers in range, places where a packet can be, and stops that can be told.
use Rattle.std.specs.Prelude.{◌&&◌, ◌||◌, Bool, List, None, Option, Some, bytes_eq, false, is_some, length, nat_le, nat_lt, slice_index_or, true, ℕ}
use Rattle.vpc_model.specs.Types.{AclNo, AttNo, By, Came, Component, Description, End, EniNo, EnterBy, FarNo, FirewallNo, Foreign, GroupNo, IgwNo, NatLife, NatNo, PeerNo, Place, RuleRef, Stop, StopRule, SubnetNo, TableNo, TgwTableNo, VpcNo}
use Rattle.vpc_model.specs.declared.outcomes.By.TheVariants as bys
use Rattle.vpc_model.specs.declared.places.End.TheVariants as ends
use Rattle.vpc_model.specs.declared.stops.Foreign.TheVariants as foreign
use Rattle.vpc_model.specs.declared.places.Came.TheVariants as from
use Rattle.vpc_model.specs.declared.rows.NatLife.TheVariants as lives
use Rattle.vpc_model.specs.declared.places.Place.TheVariants as places
use Rattle.vpc_model.specs.declared.stops.Component.TheVariants as at
use Rattle.vpc_model.specs.declared.stops.StopRule.TheVariants as by
use Rattle.vpc_model.specs.declared.places.EnterBy.TheVariants as through
use Rattle.vpc_model.specs.Far.{is_far_end}
use Rattle.vpc_model.specs.Firewalls.{is_followed}
use Rattle.vpc_model.specs.Groups.{permissions_of}
use Rattle.vpc_model.specs.Lookup.{far_at, firewall_at, gateway_of, group_at, has_vpc, nat_at, peering_at, table_at, tgw_table_at, vpc_at}
use Rattle.vpc_model.specs.Step.Transit.{no_tgw_route}
use Rattle.vpc_model.specs.Told.{component_of, rule_of}

-- ---- numbers in range

-- a VPC is described
abbrev pub is_vpc : Description → VpcNo → Bool
is_vpc d x = nat_lt x.0 (length d.vpcs)

-- a subnet is described
abbrev pub is_subnet : Description → SubnetNo → Bool
is_subnet d x = nat_lt x.0 (length d.subnets)

-- an interface is described
abbrev pub is_eni : Description → EniNo → Bool
is_eni d x = nat_lt x.0 (length d.interfaces)

-- a route table is described
abbrev pub is_table : Description → TableNo → Bool
is_table d x = nat_lt x.0 (length d.tables)

-- an ACL is described
abbrev pub is_acl : Description → AclNo → Bool
is_acl d x = nat_lt x.0 (length d.acls)

-- a group is described
abbrev pub is_group : Description → GroupNo → Bool
is_group d x = nat_lt x.0 (length d.groups)

-- an internet gateway is described
abbrev pub is_igw : Description → IgwNo → Bool
is_igw d x = nat_lt x.0 (length d.igws)

-- a NAT gateway is described
abbrev pub is_nat : Description → NatNo → Bool
is_nat d x = nat_lt x.0 (length d.nats)

-- a peering is described
abbrev pub is_peering : Description → PeerNo → Bool
is_peering d x = nat_lt x.0 (length d.peerings)

-- an attachment is described
abbrev pub is_attachment : Description → AttNo → Bool
is_attachment d x = nat_lt x.0 (length d.attachments)

-- a transit gateway table is described
abbrev pub is_tgw_table : Description → TgwTableNo → Bool
is_tgw_table d x = nat_lt x.0 (length d.tgw_tables)

-- the row of a network that isn't described is there
abbrev pub is_far : Description → FarNo → Bool
is_far d x = nat_lt x.0 (length d.fars)

-- a firewall endpoint is described
abbrev pub is_firewall : Description → FirewallNo → Bool
is_firewall d x = nat_lt x.0 (length d.firewalls)

-- a route of a table
abbrev pub is_route : Description → TableNo → ℕ → Bool
is_route d t k = let table = table_at d t in is_table d t && nat_lt k (length table.routes)

-- a route of a transit gateway table
abbrev pub is_tgw_route : Description → TgwTableNo → ℕ → Bool
is_tgw_route d t k = let table = tgw_table_at d t in is_tgw_table d t && nat_lt k (length table.routes)

-- an end is described
abbrev pub is_end : Description → End → Bool
is_end d (ends.Interface i) = is_eni d i
is_end d ends.Internet = true
is_end d (ends.Far k) = is_far d k && is_far_end d (far_at d k)

-- a rule of a described group, numbered from 1
abbrev pub is_rule : Description → RuleRef → Bool
is_rule d r = let g = group_at d r.group in is_group d r.group && (nat_le 1 r.number && nat_le r.number (length (permissions_of r.dir g)))

-- ---- sound places

-- from where a packet comes to a router
abbrev pub is_origin : Description → Came → Bool
is_origin d (from.Host i) = is_eni d i
is_origin d (from.Nat n) = is_nat d n
is_origin d (from.Transit a) = is_attachment d a
is_origin d (from.Firewall e) = is_firewall d e

-- by what a packet enters a VPC
abbrev pub is_entry : Description → EnterBy → Bool
is_entry d through.Gateway = true
is_entry d (through.Peering x) = is_peering d x
is_entry d (through.Far k) = is_end d (ends.Far k)

-- a NAT gateway that translates
abbrev pub is_live : NatLife → Bool
is_live lives.Gone = false
is_live lives.Unmodelled = false
is_live (lives.Live subnet eni address) = true

-- an internet gateway is attached to the VPC
abbrev pub has_gateway : Description → VpcNo → Bool
has_gateway d v = is_vpc d v && is_some (gateway_of d v)

-- an active peering of the VPC with another, both of which are described
abbrev pub joins : Description → List ℕ → Option (List ℕ × List ℕ) → Bool
joins d vpc None = false
joins d vpc (Some pair) = (bytes_eq pair.0 vpc || bytes_eq pair.1 vpc) && (has_vpc d pair.0 && has_vpc d pair.1)

-- a place where a packet can be: its numbers are in range, its NAT gateway is live, its VPC has an internet gateway attached, its
-- peering is active and joins its VPC to another that is described, its network is an end, what
-- stands behind its firewall endpoint is told
abbrev pub is_sound : Description → Place → Bool
is_sound d (places.OutOf i) = is_eni d i
is_sound d (places.Router s came) = is_subnet d s && is_origin d came
is_sound d (places.Enter v by) = is_vpc d v && is_entry d by
is_sound d (places.Into i) = is_eni d i
is_sound d (places.IgwOut v) = has_gateway d v
is_sound d places.Internet = true
is_sound d (places.IgwIn v) = has_gateway d v
is_sound d (places.NatOut n) = let row = nat_at d n in is_nat d n && is_live row.life
is_sound d (places.NatIn n) = let row = nat_at d n in is_nat d n && is_live row.life
is_sound d (places.Peer x v) = let row = peering_at d x in let vpc = vpc_at d v in is_peering d x && (is_vpc d v && joins d vpc.id row.pair)
is_sound d (places.Tgw a s) = is_attachment d a && is_subnet d s
is_sound d (places.TgwLeave a s) = is_attachment d a && is_subnet d s
is_sound d (places.FarOut k) = is_end d (ends.Far k)
is_sound d (places.FarIn k) = is_end d (ends.Far k)
is_sound d (places.Inspect e) = let row = firewall_at d e in is_firewall d e && (is_followed d row && has_vpc d row.vpc)

-- ---- stops that can be told

-- what leads out of the networks that are followed has an id
abbrev pub has_foreign_text : Description → Foreign → Bool
has_foreign_text d (foreign.Target t k) = is_route d t k
has_foreign_text d (foreign.Nat n) = is_nat d n
has_foreign_text d (foreign.Peering x) = is_peering d x
has_foreign_text d (foreign.Attachment a) = is_attachment d a
has_foreign_text d (foreign.Table t) = is_tgw_table d t
has_foreign_text d (foreign.FarAttachment t k) =
    let table = tgw_table_at d t in
    let r = slice_index_or table.routes k no_tgw_route in
    is_tgw_route d t k && is_some r.attachment

-- the component is described
abbrev pub has_component : Description → Component → Bool
has_component d (at.Interface i) = is_eni d i
has_component d (at.Table t) = is_table d t
has_component d (at.Target t k) = is_route d t k
has_component d (at.Acl a) = is_acl d a
has_component d (at.Vpc v) = is_vpc d v
has_component d (at.Subnet s) = is_subnet d s
has_component d (at.InternetGateway g) = is_igw d g
has_component d (at.NatGateway n) = is_nat d n
has_component d (at.Peering x) = is_peering d x
has_component d (at.Attachment a) = is_attachment d a
has_component d (at.TransitTable t) = is_tgw_table d t
has_component d (at.Foreign f) = has_foreign_text d f
has_component d (at.Place p) = is_sound d p
has_component d (at.End e) = is_end d e

-- the rule is there: an ACL's row is told by its number alone
abbrev pub has_stop_rule : Description → StopRule → Bool
has_stop_rule d by.None = true
has_stop_rule d (by.AclRow n) = true
has_stop_rule d (by.Route t k) = is_route d t k
has_stop_rule d (by.TransitRoute t k) = is_tgw_route d t k
has_stop_rule d (by.Access s) = is_subnet d s

-- the rows and places that a stop carries give its id and rule
abbrev pub has_text : Description → Stop → Bool
has_text d s = has_stop_rule d (rule_of s) && has_component d (component_of s)

-- by what a packet passed groups: a rule that is there
abbrev pub has_rule : Description → By → Bool
has_rule d bys.Nothing = true
has_rule d bys.NoGroups = true
has_rule d bys.Tracked = true
has_rule d (bys.Rule r) = is_rule d r

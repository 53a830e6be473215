-- What is told of a stop: its name, its component, and the rule of the component that stopped the packet.
use Rattle.std.specs.Prelude.{[], List, codes, decimal, slice_index_or, unwrap_or, ℕ}
use Rattle.vpc_model.specs.Types.{Component, Description, End, Foreign, Phase, Place, Reach, Stop, StopName, StopRule, StopText, TableNo, Target, TgwTableNo, VpcNo}
use Rattle.vpc_model.specs.declared.places.End.TheVariants as ends
use Rattle.vpc_model.specs.declared.stops.Component.TheVariants as at
use Rattle.vpc_model.specs.declared.stops.Foreign.TheVariants as foreign
use Rattle.vpc_model.specs.declared.stops.StopName.TheVariants as is
use Rattle.vpc_model.specs.declared.places.Place.TheVariants as places
use Rattle.vpc_model.specs.declared.rows.Reach.TheVariants as reaches
use Rattle.vpc_model.specs.declared.stops.Stop.TheVariants as stops
use Rattle.vpc_model.specs.declared.stops.StopRule.TheVariants as by
use Rattle.vpc_model.specs.declared.rows.Target.TheVariants as targets
use Rattle.prefix_text.specs.Block.{block_text}
use Rattle.vpc_model.specs.Access.{access_of, access_text}
use Rattle.vpc_model.specs.Lookup.{acl_at, attached_gateway, attachment_at, far_at, firewall_at, igw_at, interface_at, nat_at, peering_at, subnet_at, table_at, tgw_table_at, vpc_at}
use Rattle.vpc_model.specs.Step.Router.{no_route}
use Rattle.vpc_model.specs.Step.Transit.{no_tgw_route}

-- the attached gateway of a VPC
abbrev pub gateway_id : Description → VpcNo → List ℕ
gateway_id d v = let g = igw_at d (attached_gateway d v) in g.id

-- the id of a place
abbrev pub place_id : Description → Place → List ℕ
place_id d (places.OutOf i) = let e = interface_at d i in e.id
place_id d (places.Router s came) = let row = subnet_at d s in row.id
place_id d (places.Enter v by) = let row = vpc_at d v in row.id
place_id d (places.Into i) = let e = interface_at d i in e.id
place_id d (places.IgwOut v) = gateway_id d v
place_id d places.Internet = codes "internet"
place_id d (places.IgwIn v) = gateway_id d v
place_id d (places.NatOut n) = let row = nat_at d n in row.id
place_id d (places.NatIn n) = let row = nat_at d n in row.id
place_id d (places.Peer x v) = let row = peering_at d x in row.id
place_id d (places.Tgw a s) = let row = attachment_at d a in row.id
place_id d (places.TgwLeave a s) = let row = attachment_at d a in row.id
place_id d (places.FarOut k) = let row = far_at d k in row.id
place_id d (places.FarIn k) = let row = far_at d k in row.id
place_id d (places.Inspect e) = let row = firewall_at d e in row.id

-- the id of an end
abbrev pub end_id : Description → End → List ℕ
end_id d (ends.Interface i) = let e = interface_at d i in e.id
end_id d ends.Internet = codes "internet"
end_id d (ends.Far k) = let row = far_at d k in row.id

-- a stop as it is told: its name, its component, and the rule of the component that stopped the packet
abbrev pub parts_of : Stop → StopName × Component × StopRule
parts_of (stops.Detached i) = (is.Detached, at.Interface i, by.None)
parts_of (stops.SourceCheck i) = (is.SourceCheck, at.Interface i, by.None)
parts_of (stops.DestCheck i) = (is.DestCheck, at.Interface i, by.None)
parts_of (stops.GroupsOut i) = (is.GroupsOut, at.Interface i, by.None)
parts_of (stops.GroupsIn i) = (is.GroupsIn, at.Interface i, by.None)
parts_of (stops.NotAHost i) = (is.NotAHost, at.Interface i, by.None)
parts_of (stops.ApplianceDrop i) = (is.ApplianceDrop, at.Interface i, by.None)
parts_of (stops.NoRoute t) = (is.NoRoute, at.Table t, by.None)
parts_of (stops.Blackhole t k) = (is.Blackhole, at.Table t, by.Route t k)
parts_of (stops.AclOut a n) = (is.AclOut, at.Acl a, by.AclRow n)
parts_of (stops.AclIn a n) = (is.AclIn, at.Acl a, by.AclRow n)
parts_of (stops.NoHost v) = (is.NoHost, at.Vpc v, by.None)
parts_of (stops.NoGateway v) = (is.NoGateway, at.Vpc v, by.None)
parts_of (stops.GatewayDetached g) = (is.GatewayDetached, at.InternetGateway g, by.None)
parts_of (stops.NoPublic g) = (is.NoPublic, at.InternetGateway g, by.None)
parts_of stops.PrivateAddress = (is.PrivateAddress, at.End ends.Internet, by.None)
parts_of (stops.BlockPublicAccess s) = (is.BlockPublicAccess, at.Subnet s, by.Access s)
parts_of (stops.NatNotAvailable g) = (is.NatNotAvailable, at.NatGateway g, by.None)
parts_of (stops.NatAnswer g) = (is.NatAnswer, at.NatGateway g, by.None)
parts_of (stops.NatProtocol g) = (is.NatProtocol, at.NatGateway g, by.None)
parts_of (stops.NatFull g) = (is.NatFull, at.NatGateway g, by.None)
parts_of (stops.NatUnsolicited g) = (is.NatUnsolicited, at.NatGateway g, by.None)
parts_of (stops.PeerNotActive x) = (is.PeerNotActive, at.Peering x, by.None)
parts_of (stops.PeerSource x) = (is.PeerSource, at.Peering x, by.None)
parts_of (stops.PeerDestination x) = (is.PeerDestination, at.Peering x, by.None)
parts_of (stops.TgwNoAttachment t k) = (is.TgwNoAttachment, at.Target t k, by.None)
parts_of (stops.TgwNoZone a) = (is.TgwNoZone, at.Attachment a, by.None)
parts_of (stops.TgwNoTable a) = (is.TgwNoTable, at.Attachment a, by.None)
parts_of (stops.TgwNoRoute t) = (is.TgwNoRoute, at.TransitTable t, by.None)
parts_of (stops.TgwBlackhole t k) = (is.TgwBlackhole, at.TransitTable t, by.TransitRoute t k)
parts_of (stops.FarDetached k) = (is.FarDetached, at.End (ends.Far k), by.None)
parts_of (stops.FarNoTable k) = (is.FarNoTable, at.End (ends.Far k), by.None)
parts_of (stops.FarSource k) = (is.FarSource, at.End (ends.Far k), by.None)
parts_of (stops.FarOpens k) = (is.FarOpens, at.End (ends.Far k), by.None)
parts_of (stops.InspectDrop e) = (is.InspectDrop, at.Place (places.Inspect e), by.None)
parts_of (stops.Unmodelled f) = (is.Unmodelled, at.Foreign f, by.None)
parts_of (stops.Loop p) = (is.Loop, at.Place p, by.None)
parts_of (stops.TooFar p) = (is.TooFar, at.Place p, by.None)
parts_of (stops.WrongPlace e) = (is.WrongPlace, at.End e, by.None)
parts_of (stops.WrongReturn e) = (is.WrongReturn, at.End e, by.None)
parts_of (stops.NoReply e) = (is.NoReply, at.End e, by.None)

-- its name, without what it carries
abbrev pub name_of : Stop → StopName
name_of s = let parts = parts_of s in parts.0

-- the component that stopped the packet
abbrev pub component_of : Stop → Component
component_of s = let parts = parts_of s in parts.1

-- the rule of the component
abbrev pub rule_of : Stop → StopRule
rule_of s = let parts = parts_of s in parts.2

-- the id of a route's target
abbrev pub target_id : Target → List ℕ
target_id targets.Local = codes "local"
target_id (targets.Internet id) = id
target_id (targets.Nat id) = id
target_id (targets.Transit id) = id
target_id (targets.Peer id) = id
target_id (targets.Interface id) = id
target_id (targets.Other id) = id

-- the id of the target of a table's route
abbrev pub route_target_id : Description → TableNo → ℕ → List ℕ
route_target_id d t k = let table = table_at d t in let r = slice_index_or table.routes k no_route in target_id r.target

-- the id of the attachment of a transit gateway route
abbrev pub tgw_route_attachment : Description → TgwTableNo → ℕ → List ℕ
tgw_route_attachment d t k = let table = tgw_table_at d t in let r = slice_index_or table.routes k no_tgw_route in unwrap_or r.attachment []

-- the id of what isn't followed
abbrev pub foreign_id : Description → Foreign → List ℕ
foreign_id d (foreign.Target t k) = route_target_id d t k
foreign_id d (foreign.Nat n) = let row = nat_at d n in row.id
foreign_id d (foreign.Peering x) = let row = peering_at d x in row.id
foreign_id d (foreign.Attachment a) = let row = attachment_at d a in row.id
foreign_id d (foreign.Table t) = let table = tgw_table_at d t in table.id
foreign_id d (foreign.FarAttachment t k) = tgw_route_attachment d t k

-- the id of a component
abbrev pub component_id : Description → Component → List ℕ
component_id d (at.Interface i) = let e = interface_at d i in e.id
component_id d (at.Table t) = let table = table_at d t in table.id
component_id d (at.Target t k) = route_target_id d t k
component_id d (at.Acl a) = let row = acl_at d a in row.id
component_id d (at.Vpc v) = let row = vpc_at d v in row.id
component_id d (at.Subnet s) = let row = subnet_at d s in row.id
component_id d (at.InternetGateway g) = let row = igw_at d g in row.id
component_id d (at.NatGateway n) = let row = nat_at d n in row.id
component_id d (at.Peering x) = let row = peering_at d x in row.id
component_id d (at.Attachment a) = let row = attachment_at d a in row.id
component_id d (at.TransitTable t) = let table = tgw_table_at d t in table.id
component_id d (at.Foreign f) = foreign_id d f
component_id d (at.Place p) = place_id d p
component_id d (at.End e) = end_id d e

-- the id of the component that stopped the packet
abbrev pub stop_id : Description → Stop → List ℕ
stop_id d s = component_id d (component_of s)

-- a route's prefix, or the id of its prefix list
abbrev pub reach_text : Reach → List ℕ
reach_text (reaches.Block b) = block_text b
reach_text (reaches.List id) = id

-- a rule, or a dash
abbrev pub rule_text : Description → StopRule → List ℕ
rule_text d by.None = codes "-"
rule_text d (by.AclRow n) = decimal n
rule_text d (by.Route t k) = let table = table_at d t in let r = slice_index_or table.routes k no_route in reach_text r.reach
rule_text d (by.TransitRoute t k) = let table = tgw_table_at d t in let r = slice_index_or table.routes k no_tgw_route in block_text r.block
rule_text d (by.Access s) = access_text (access_of d s)

-- the rule that stopped the packet, or a dash
abbrev pub stop_rule : Description → Stop → List ℕ
stop_rule d s = rule_text d (rule_of s)

-- what is told of a stop in a phase
abbrev pub told_stop : Description → Phase → Stop → StopText
told_stop d phase s = record { phase = phase; name = name_of s; id = stop_id d s; rule = stop_rule d s }

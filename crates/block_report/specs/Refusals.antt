-- How the first reason against a bundle is printed: its name and its arguments.
use Rattle.std.specs.Prelude.{◌++◌, List, codes, ℕ}
use Rattle.vpc_laws.specs.Types.{ListName, Refusal}
use Rattle.vpc_model.specs.declared.refusals.ListName.TheVariants as named
use Rattle.vpc_model.specs.declared.refusals.Refusal.TheVariants as refusals
use Rattle.prefix_text.specs.Addr.{addr_text}
use Rattle.block_report.specs.Words.{word}
use Rattle.bundle.specs.declared.refusal.BundleRefusal.{BundleRefusal}
use Rattle.bundle.specs.declared.refusal.BundleRefusal.TheVariants as causes

-- the name of a list of a bundle
abbrev pub list_text : ListName → List ℕ
list_text named.Vpcs = codes "Vpcs"
list_text named.Subnets = codes "Subnets"
list_text named.NetworkInterfaces = codes "NetworkInterfaces"
list_text named.RouteTables = codes "RouteTables"
list_text named.PrefixLists = codes "PrefixLists"
list_text named.NetworkAcls = codes "NetworkAcls"
list_text named.SecurityGroups = codes "SecurityGroups"
list_text named.InternetGateways = codes "InternetGateways"
list_text named.NatGateways = codes "NatGateways"
list_text named.VpcPeeringConnections = codes "VpcPeeringConnections"
list_text named.TransitGatewayVpcAttachments = codes "TransitGatewayVpcAttachments"
list_text named.TransitGatewayAttachments = codes "TransitGatewayAttachments"
list_text named.TransitGatewayRoutes = codes "TransitGatewayRoutes"
list_text named.Appliances = codes "Appliances"
list_text named.VpnGateways = codes "VpnGateways"
list_text named.VpcEndpoints = codes "VpcEndpoints"

-- a refusal with its arguments; want of memory has a line of its own
abbrev pub refusal_text : Refusal → List ℕ
refusal_text (refusals.DuplicateId id) = codes "DuplicateId" ++ word id
refusal_text (refusals.MissingReference from_id to_id) = codes "MissingReference" ++ word from_id ++ word to_id
refusal_text (refusals.DuplicateAddress vpc a) = codes "DuplicateAddress" ++ word vpc ++ word (addr_text a)
refusal_text (refusals.DuplicatePublic a) = codes "DuplicatePublic" ++ word (addr_text a)
refusal_text (refusals.NoRouteTable id) = codes "NoRouteTable" ++ word id
refusal_text (refusals.NoAcl id) = codes "NoAcl" ++ word id
refusal_text (refusals.TwoInternetGateways id) = codes "TwoInternetGateways" ++ word id
refusal_text (refusals.TwoTables id) = codes "TwoTables" ++ word id
refusal_text (refusals.TwoAcls id) = codes "TwoAcls" ++ word id
refusal_text (refusals.TooManyRows name) = codes "TooManyRows" ++ word (list_text name)
refusal_text refusals.Memory = codes "want of memory"

-- its name and its arguments
abbrev pub cause_text : BundleRefusal → List ℕ
cause_text causes.NotJson = codes "NotJson"
cause_text (causes.WrongShape path) = codes "WrongShape" ++ word path
cause_text (causes.BadText path) = codes "BadText" ++ word path
cause_text (causes.Rows cause) = refusal_text cause
cause_text causes.Memory = codes "want of memory"

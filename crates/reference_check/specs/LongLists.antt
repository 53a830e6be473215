-- The lists that are too long, part by part.
use Rattle.std.specs.Prelude.{◌++◌, ◌||◌, List, drop, false, filter, map}
use Rattle.vpc_model.specs.Accepted.{is_long, is_long_far, is_long_group, list_of_far, too_long}
use Rattle.vpc_model.specs.declared.refusals.Refusal.{Refusal}
use Rattle.vpc_model.specs.declared.rows.Description.{Description}
use Rattle.vpc_model.specs.declared.rows.Far.{Far}
use Rattle.vpc_model.specs.declared.refusals.ListName.TheVariants as named
use Rattle.vpc_model.specs.declared.refusals.Refusal.TheVariants as refusals

-- of VPCs, subnets, interfaces, tables and prefix lists
abbrev pub long_networks : Description → List Refusal
long_networks d =
    too_long named.Vpcs (λ v. is_long v.blocks) d.vpcs
    ++ (too_long named.Subnets (λ s. false) d.subnets
    ++ (too_long named.NetworkInterfaces (λ e. is_long e.addresses || (is_long e.prefixes || is_long e.groups)) d.interfaces
    ++ (too_long named.RouteTables (λ t. is_long t.subnets || (is_long t.gateways || is_long t.routes)) d.tables
    ++ too_long named.PrefixLists (λ l. is_long l.entries) d.lists)))

-- of ACLs and groups
abbrev pub long_filters : Description → List Refusal
long_filters d = too_long named.NetworkAcls (λ a. is_long a.subnets || is_long a.rows) d.acls ++ too_long named.SecurityGroups is_long_group d.groups

-- of gateways and what is attached to them, and of appliances
abbrev pub long_gateways : Description → List Refusal
long_gateways d =
    too_long named.InternetGateways (λ g. is_long g.vpcs) d.igws
    ++ (too_long named.NatGateways (λ n. false) d.nats
    ++ (too_long named.VpcPeeringConnections (λ x. false) d.peerings
    ++ (too_long named.TransitGatewayVpcAttachments (λ a. is_long a.subnets) d.attachments
    ++ (too_long named.TransitGatewayAttachments (λ x. false) d.associations
    ++ (too_long named.TransitGatewayRoutes (λ t. is_long t.routes) d.tgw_tables
    ++ too_long named.Appliances (λ a. false) d.appliances)))))

-- that there are too many of some networks, by the lists that tell them
abbrev pub told_by_list : List Far → List Refusal
told_by_list fars = map (λ f. refusals.TooManyRows (list_of_far f.kind)) fars

-- of networks that aren't described, of their blocks, and of firewall endpoints
abbrev pub long_outside : Description → List Refusal
long_outside d =
    told_by_list (drop 100000 d.fars)
    ++ (told_by_list (filter (λ f. is_long_far f.kind) d.fars) ++ too_long named.VpcEndpoints (λ e. false) d.firewalls)

-- of all lists
abbrev pub long_by_part : Description → List Refusal
long_by_part d = long_networks d ++ (long_filters d ++ (long_gateways d ++ long_outside d))

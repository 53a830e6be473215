-- What security groups allow (VPC User Guide, "Security group rules").
use Rattle.std.specs.List.{list_any}
use Rattle.std.specs.Prelude.{◌&&◌, ◌||◌, ◌∷◌, ◌+◌, [], Bool, List, None, Option, Some, bytes_eq, false, filter, if◌then◌else◌, map, option_and_then, option_map, position, true, ℕ}
use Rattle.vpc_model.specs.Types.{Attachment, Description, Dir, Group, GroupNo, Header, Interface, Permission, RuleRef}
use Rattle.vpc_base.specs.declared.headers.Dir.TheVariants as dirs
use Rattle.prefix_text.specs.Block.{holds}
use Rattle.vpc_model.specs.Choice.{or_else}
use Rattle.vpc_model.specs.Filter.{far_address, is_between, matches_proto}
use Rattle.vpc_model.specs.Lookup.{entries_of, group_at, group_of_id, has_address, is_listed, vpc_of_interface}

-- the address is a private address of an interface that has the group (VPC User Guide, "Security group rules")
abbrev pub is_member : Description → List ℕ → ℕ → Bool
is_member d group a = list_any (λ e. is_listed group e.groups && has_address e a) d.interfaces

-- an active peering has these two VPCs, in either order (EC2 API, DescribeVpcPeeringConnections)
abbrev pub is_pair_of : List ℕ → List ℕ → Option (List ℕ × List ℕ) → Bool
is_pair_of v w None = false
is_pair_of v w (Some pair) = (bytes_eq pair.0 v && bytes_eq pair.1 w) || (bytes_eq pair.0 w && bytes_eq pair.1 v)

-- an active peering joins the two VPCs (VPC Peering Guide, "VPC peering basics")
abbrev pub are_peers : Description → List ℕ → List ℕ → Bool
are_peers d v w = list_any (λ x. is_pair_of v w x.pair) d.peerings

-- the attachment lets rules name groups: its own option and that of its transit gateway are on (EC2 API, DescribeTransitGatewayVpcAttachments, DescribeTransitGateways)
abbrev pub lets_name : Description → Attachment → Bool
lets_name d a = is_listed a.id d.scope.attachments && is_listed a.gateway d.scope.gateways

-- the attachments are of one transit gateway, that of the first to the VPC v, that of the second to w (EC2 API, DescribeTransitGatewayVpcAttachments)
abbrev pub are_on_one : List ℕ → List ℕ → Attachment → Attachment → Bool
are_on_one v w a b = bytes_eq a.gateway b.gateway && (bytes_eq a.vpc v && bytes_eq b.vpc w)

-- a transit gateway joins the two VPCs by attachments that let rules name groups (VPC User Guide, "Security group referencing")
abbrev pub are_over_transit : Description → List ℕ → List ℕ → Bool
are_over_transit d v w = list_any (λ a. lets_name d a && list_any (λ b. lets_name d b && are_on_one v w a b) d.attachments) d.attachments

-- the direction of IpPermissions
abbrev pub is_inward : Dir → Bool
is_inward dirs.Inward = true
is_inward dirs.Outward = false

-- a rule that counts in the VPC v may name a group of the VPC w: the same or one peered with it, or, for inward rules, one joined to it by a transit gateway (VPC User Guide, "Security group referencing")
abbrev pub may_name : Description → Dir → List ℕ → List ℕ → Bool
may_name d dir v w = bytes_eq w v || (are_peers d w v || (is_inward dir && are_over_transit d w v))

-- the VPCs of a group: its own, and those with which it is associated (EC2 API, DescribeSecurityGroupVpcAssociations)
abbrev pub vpcs_of_group : Description → Group → List (List ℕ)
vpcs_of_group d g = g.vpc ∷ map (λ x. x.vpc) (filter (λ x. bytes_eq x.group g.id) d.scope.vpcs)

-- the VPC in which the group's rules count for an interface: that of the interface where the group has it, else the group's own (VPC User Guide, "Associate security groups with multiple VPCs")
abbrev pub vpc_of_rules : Description → Interface → Group → List ℕ
vpc_of_rules d e g = let v = vpc_of_interface d e in if is_listed v (vpcs_of_group d g) then v else g.vpc

-- a rule that counts in the VPC may name the group: it is described, and the rule may name a group of one of its VPCs (VPC User Guide, "Security group rules")
abbrev pub reference_counts : Description → Dir → List ℕ → List ℕ → Bool
reference_counts d dir vpc group = list_any (λ g. bytes_eq g.id group && list_any (may_name d dir vpc) (vpcs_of_group d g)) d.groups

-- a rule names the address: by a block, a prefix list or, as the profile judges it, as a member of a group (VPC User Guide, "Security group rules")
abbrev pub names_address : Description → Dir → List ℕ → ℕ → Permission → Bool
names_address d dir vpc a p =
    list_any (holds a) p.blocks
    || (list_any (λ l. list_any (holds a) (entries_of d l)) p.lists
    || list_any (λ g. reference_counts d dir vpc g && is_member d g a) p.groups)

-- protocol, port range and far address match (VPC User Guide, "Security group rules")
abbrev pub permission_allows : Description → List ℕ → Dir → Header → Permission → Bool
permission_allows d vpc dir h p = matches_proto p.proto h.proto && (is_between p.q_from p.q_to h.q && names_address d dir vpc (far_address dir h) p)

-- the rules of a direction: IpPermissions or IpPermissionsEgress (EC2 API, DescribeSecurityGroups)
abbrev pub permissions_of : Dir → Group → List Permission
permissions_of dirs.Inward g = g.inward
permissions_of dirs.Outward g = g.outward

-- a rule that allows nothing
abbrev pub no_permission : Permission
no_permission = record { id = None; proto = None; q_from = 1; q_to = 0; blocks = []; lists = []; groups = [] }

-- the first rule of an interface's group that allows the header, numbered from 1 (profile)
abbrev pub rule_of_group : Description → Interface → Dir → Header → GroupNo → Option RuleRef
rule_of_group d e dir h n =
    let g = group_at d n in
    option_map (λ k. record { group = n; dir = dir; number = k + 1 }) (position (permission_allows d (vpc_of_rules d e g) dir h) (permissions_of dir g))

-- the first rule of the groups that allows the header, in the order of the groups and of their rules (profile)
abbrev pub first_rule_of : Description → Interface → Dir → Header → List (List ℕ) → Option RuleRef
first_rule_of d e dir h [] = None
first_rule_of d e dir h (id ∷ ids) = or_else (option_and_then (rule_of_group d e dir h) (group_of_id d id)) (first_rule_of d e dir h ids)

-- the first rule of the interface's groups that allows the header (VPC User Guide, "Security groups")
abbrev pub first_rule : Description → Interface → Dir → Header → Option RuleRef
first_rule d e dir h = first_rule_of d e dir h e.groups

-- Where interfaces, subnets and NAT gateways lie, and which VPCs peerings join.
use Rattle.std.specs.Prelude.{if◌then◌else◌, List, None, Option, Some, map, ℕ}
use Rattle.vpc_laws.specs.Types.{Access, Description, SubnetNo, VpcNo}
use Rattle.vpc_model.specs.Access.{access_in}
use Rattle.vpc_model.specs.Lookup.{has_vpc, subnet_no, vpc_at, vpc_no}
use Rattle.vpc_model.specs.Peerings.{other_side}
use Rattle.vpc_model.specs.Step.Nat.{own_subnet}

-- the subnet of each interface
abbrev pub subnets_in : Description → List SubnetNo
subnets_in d = map (λ e. subnet_no d e.subnet) d.interfaces

-- the VPC of each subnet
abbrev pub vpcs_in : Description → List VpcNo
vpcs_in d = map (λ s. vpc_no d s.vpc) d.subnets

-- the mode of Block Public Access in each subnet
abbrev pub accesses_in : Description → List Access
accesses_in d = map (access_in d) d.subnets

-- the subnet of each NAT gateway, of one that isn't live that of no id
abbrev pub nat_subnets_in : Description → List SubnetNo
nat_subnets_in d = map (λ n. subnet_no d (own_subnet n.life)) d.nats

-- the VPC with an id, if it is described
abbrev pub vpc_by : Description → List ℕ → Option VpcNo
vpc_by d id = if has_vpc d id then Some (vpc_no d id) else None

-- the two VPCs of a peering, those that are described; none where it isn't active
abbrev pub ends_by : Description → Option (List ℕ × List ℕ) → Option VpcNo × Option VpcNo
ends_by d None = (None, None)
ends_by d (Some pair) = (vpc_by d pair.0, vpc_by d pair.1)

-- of each peering
abbrev pub ends_in : Description → List (Option VpcNo × Option VpcNo)
ends_in d = map (λ x. ends_by d x.pair) d.peerings

-- the VPC at the other side of an active peering, if it is described
abbrev pub far_vpc : Description → VpcNo → Option (List ℕ × List ℕ) → Option VpcNo
far_vpc d v None = None
far_vpc d v (Some pair) = let row = vpc_at d v in vpc_by d (other_side row.id pair)

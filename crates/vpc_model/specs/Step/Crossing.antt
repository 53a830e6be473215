-- From subnet to subnet, and to an interface: what has no place of its own.
use Rattle.std.specs.Prelude.{◌==◌, if◌then◌else◌, Bool, List, None, Option, Some, bytes_eq, false, option_map, position, true, ℕ}
use Rattle.vpc_model.specs.Types.{Description, EniNo, Header, InterfaceKind, NatLife, NatNo, Stop, SubnetNo}
use Rattle.vpc_base.specs.declared.headers.Dir.TheVariants as dirs
use Rattle.vpc_model.specs.declared.rows.InterfaceKind.TheVariants as kinds
use Rattle.vpc_model.specs.declared.rows.NatLife.TheVariants as lives
use Rattle.vpc_model.specs.declared.places.Place.TheVariants as places
use Rattle.vpc_model.specs.declared.stops.Stop.TheVariants as stops
use Rattle.vpc_model.specs.Acls.{acl_verdict}
use Rattle.vpc_model.specs.Choice.{or_else}
use Rattle.vpc_model.specs.Lookup.{acl_at, acl_of, interface_at}
use Rattle.vpc_model.specs.Step.Words.{Next, go, stop}

-- the stop of an outbound ACL verdict
abbrev pub refused_out : Description → SubnetNo → Bool × ℕ → Option Stop
refused_out d s verdict = if verdict.0 then None else Some (stops.AclOut (acl_of d s) verdict.1)

-- the stop of an inbound ACL verdict
abbrev pub refused_in : Description → SubnetNo → Bool × ℕ → Option Stop
refused_in d s verdict = if verdict.0 then None else Some (stops.AclIn (acl_of d s) verdict.1)

-- the subnet's ACL judges a packet that leaves it (VPC User Guide, "Network ACLs")
abbrev pub leaving : Description → SubnetNo → Header → Option Stop
leaving d s h = let a = acl_at d (acl_of d s) in refused_out d s (acl_verdict a.rows dirs.Outward h)

-- the subnet's ACL judges a packet that enters it (VPC User Guide, "Network ACLs")
abbrev pub entering : Description → SubnetNo → Header → Option Stop
entering d s h = let a = acl_at d (acl_of d s) in refused_in d s (acl_verdict a.rows dirs.Inward h)

-- the ACLs of both judge a packet that goes from one subnet to another; inside one subnet none does (VPC User Guide, "Network ACLs")
abbrev pub crossing : Description → SubnetNo → SubnetNo → Header → Option Stop
crossing d s t h = if s.0 == t.0 then None else or_else (leaving d s h) (entering d t h)

-- the interface belongs to a gateway, as its InterfaceType says (EC2 API, DescribeNetworkInterfaces)
abbrev pub is_gateway : InterfaceKind → Bool
is_gateway kinds.Host = false
is_gateway kinds.Gateway = true

-- the interface is that of a live NAT gateway (EC2 API, DescribeNatGateways)
abbrev pub is_eni_of : List ℕ → NatLife → Bool
is_eni_of id lives.Gone = false
is_eni_of id lives.Unmodelled = false
is_eni_of id (lives.Live subnet eni address) = bytes_eq eni id

-- the first live NAT gateway whose interface this is (EC2 API, DescribeNatGateways)
abbrev pub nat_of : Description → EniNo → Option NatNo
nat_of d i = let e = interface_at d i in option_map (λ k. record { 0 = k }) (position (λ n. is_eni_of e.id n.life) d.nats)

-- to the NAT gateway, or to the interface unless it hosts nothing (VPC User Guide, "NAT gateways")
abbrev pub deliver_by : Description → EniNo → Header → Option NatNo → Next
deliver_by d i h (Some n) = go (places.NatIn n) h
deliver_by d i h None = let e = interface_at d i in if is_gateway e.kind then stop (stops.NotAHost i) else go (places.Into i) h

-- a packet is delivered to an interface
abbrev pub deliver : Description → EniNo → Header → Next
deliver d i h = deliver_by d i h (nat_of d i)

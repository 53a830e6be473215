-- The NAT gateway (VPC User Guide, "NAT gateways").
use Rattle.std.specs.Prelude.{◌++◌, ◌∷◌, [], if◌then◌else◌, List, None, Option, Some, ℕ}
use Rattle.vpc_model.specs.Types.{Description, Header, Label, NatLife, NatNo}
use Rattle.vpc_model.specs.declared.outcomes.By.TheVariants as bys
use Rattle.vpc_model.specs.declared.places.Came.TheVariants as from
use Rattle.vpc_base.specs.declared.headers.Label.TheVariants as labels
use Rattle.vpc_model.specs.declared.rows.NatLife.TheVariants as lives
use Rattle.vpc_model.specs.declared.places.Place.TheVariants as places
use Rattle.vpc_model.specs.declared.stops.Stop.TheVariants as stops
use Rattle.vpc_model.specs.Lookup.{nat_at, subnet_no}
use Rattle.vpc_model.specs.Nat.{Translation, inward, is_full, is_translatable, new_translation, translation_of}
use Rattle.vpc_model.specs.Step.Words.{Moment, Next, Step, go, plain, stop}

-- the private address of a live NAT gateway, its PrivateIp (EC2 API, DescribeNatGateways)
abbrev pub own_address : NatLife → ℕ
own_address lives.Gone = 0
own_address lives.Unmodelled = 0
own_address (lives.Live subnet eni address) = address

-- the subnet of a live NAT gateway, by its SubnetId (EC2 API, DescribeNatGateways)
abbrev pub own_subnet : NatLife → List ℕ
own_subnet lives.Gone = []
own_subnet lives.Unmodelled = []
own_subnet (lives.Live subnet eni address) = subnet

-- on from a NAT gateway, by the router of its subnet (VPC User Guide, "NAT gateways")
abbrev pub from_nat : Description → NatNo → Header → Next
from_nat d n h = let row = nat_at d n in go (places.Router (subnet_no d (own_subnet row.life)) (from.Nat n)) h

-- on with a new translation, which is remembered (profile)
abbrev pub translated_to : Description → NatNo → Moment → Translation → Step
translated_to d n m t = record { next = from_nat d n t.after; by = bys.Nothing; conns = m.conns; nats = m.nats ++ t ∷ [] }

-- by the translation that there is, or a new one while the gateway isn't full (VPC User Guide, "NAT gateways")
abbrev pub translate : Description → NatNo → Moment → Option Translation → Step
translate d n m (Some t) = plain m (from_nat d n t.after)
translate d n m None =
    let row = nat_at d n in
    if is_full m.nats n m.header then plain m (stop (stops.NatFull n)) else translated_to d n m (new_translation m.nats n (own_address row.life) m.header)

-- out by a NAT gateway: first packets of TCP, UDP and ICMP alone (profile)
abbrev pub step_nat_out : Description → Label → NatNo → Moment → Step
step_nat_out d labels.Answer n m = plain m (stop (stops.NatAnswer n))
step_nat_out d labels.Opening n m = if is_translatable m.header.proto then translate d n m (translation_of m.nats n m.header) else plain m (stop (stops.NatProtocol n))

-- on as the answer to the open before its translation (VPC User Guide, "NAT gateways")
abbrev pub from_inward : Description → NatNo → Option Header → Next
from_inward d n None = stop (stops.NatUnsolicited n)
from_inward d n (Some h) = from_nat d n h

-- back by a NAT gateway: answers to what it sent out alone (profile)
abbrev pub step_nat_in : Description → Label → NatNo → Moment → Step
step_nat_in d labels.Opening n m = plain m (stop (stops.NatUnsolicited n))
step_nat_in d labels.Answer n m = plain m (from_inward d n (inward m.nats n m.header))

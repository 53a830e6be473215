-- Which interface has an address.
use Rattle.std.specs.List.{list_any}
use Rattle.std.specs.Prelude.{◌≡◌, ◌&&◌, Option, option_map, position, ℕ}
use Rattle.prefix_text.specs.Block.{holds}
use Rattle.vpc_laws.specs.Types.{Description, EniNo, VpcNo}
use Rattle.vpc_model.specs.Accepted.{IsAccepted}
use Rattle.vpc_model.specs.Choice.{or_else}
use Rattle.vpc_model.specs.Lookup.{host_of, is_assigned, is_in_vpc}

-- the interface of a VPC to which the address is assigned (EC2 API, DescribeNetworkInterfaces)
abbrev pub assigned_host : Description → VpcNo → ℕ → Option EniNo
assigned_host d v a = option_map (λ k. record { 0 = k }) (position (λ e. is_assigned e a && is_in_vpc d v e) d.interfaces)

-- the interface of a VPC to which a block is delegated that holds the address (EC2 User Guide, "Prefix delegation")
abbrev pub delegated_host : Description → VpcNo → ℕ → Option EniNo
delegated_host d v a = option_map (λ k. record { 0 = k }) (position (λ e. list_any (holds a) e.prefixes && is_in_vpc d v e) d.interfaces)

-- in an accepted description the interface that has an address is either
abbrev pub HostsAreAssignedOrDelegated : Type 0
HostsAreAssignedOrDelegated =
    (d : Description) (v : VpcNo) (a : ℕ) → IsAccepted d → host_of d v a ≡ or_else (assigned_host d v a) (delegated_host d v a)

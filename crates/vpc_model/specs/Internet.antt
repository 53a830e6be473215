-- Public addresses and the internet (VPC User Guide, "Internet gateways").
use Rattle.std.specs.List.{filter_map, flat_map, list_any}
use Rattle.std.specs.Prelude.{◌==◌, ◌∷◌, [], Bool, List, Option, filter, find, map, option_map, ℕ}
use Rattle.vpc_model.specs.Types.{Block, Description, Interface, VpcNo}
use Rattle.prefix_text.specs.Block.{holds}
use Rattle.vpc_model.specs.Lookup.{is_in_vpc, vpc_no, vpc_of_interface}

-- 0.0.0.0/8, 10.0.0.0/8, 127.0.0.0/8, 169.254.0.0/16, 172.16.0.0/12, 192.168.0.0/16 and 224.0.0.0/3 (profile)
abbrev pub unroutable_blocks : List Block
unroutable_blocks =
    record { first = 0; length = 8 } ∷ record { first = 167772160; length = 8 } ∷ record { first = 2130706432; length = 8 }
    ∷ record { first = 2851995648; length = 16 } ∷ record { first = 2886729728; length = 12 } ∷ record { first = 3232235520; length = 16 }
    ∷ record { first = 3758096384; length = 3 } ∷ []

-- the address is non-routable: the internet carries no packet from or to it (profile)
abbrev pub is_unroutable : ℕ → Bool
is_unroutable a = list_any (holds a) unroutable_blocks

-- a private and a public address (EC2 API, DescribeNetworkInterfaces)
abbrev pub pair_of : ℕ × Option ℕ → Option (ℕ × ℕ)
pair_of x = option_map (λ public. (x.0, public)) x.1

-- the pairs of an interface's private and public addresses (EC2 API, DescribeNetworkInterfaces)
abbrev pub pairs_of : Interface → List (ℕ × ℕ)
pairs_of e = filter_map pair_of e.addresses

-- the pairs of a VPC (EC2 API, DescribeNetworkInterfaces)
abbrev pub pairs_in : Description → VpcNo → List (ℕ × ℕ)
pairs_in d v = flat_map pairs_of (filter (is_in_vpc d v) d.interfaces)

-- the public address of a private one in a VPC (VPC User Guide, "Internet gateways")
abbrev pub public_of : Description → VpcNo → ℕ → Option ℕ
public_of d v own = option_map (λ p. p.1) (find (λ p. p.0 == own) (pairs_in d v))

-- the private address of a public one in a VPC (VPC User Guide, "Internet gateways")
abbrev pub private_of : Description → VpcNo → ℕ → Option ℕ
private_of d v public = option_map (λ p. p.0) (find (λ p. p.1 == public) (pairs_in d v))

-- an interface's public addresses, each with its VPC (EC2 API, DescribeNetworkInterfaces)
abbrev pub owned_by : Description → Interface → List (VpcNo × ℕ)
owned_by d e = map (λ p. (vpc_no d (vpc_of_interface d e), p.1)) (pairs_of e)

-- the VPC of a public address (EC2 API, DescribeNetworkInterfaces)
abbrev pub owner_of : Description → ℕ → Option VpcNo
owner_of d public = option_map (λ o. o.0) (find (λ o. o.1 == public) (flat_map (owned_by d) d.interfaces))

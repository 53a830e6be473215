-- Private and public addresses with the numbers of their VPCs (EC2 API, DescribeNetworkInterfaces).
use Rattle.std.specs.List.{flat_map}
use Rattle.std.specs.Prelude.{◌<◌, ◌≡◌, ◌^◌, IfSome, List, Option, Some, map, option_map, option_to_list, true, ℕ}
use Rattle.vpc_model.specs.declared.numbers.VpcNo.{VpcNo}
use Rattle.vpc_model.specs.declared.rows.Description.{Description}
use Rattle.vpc_model.specs.declared.rows.Interface.{Interface}
use Rattle.vpc_model.specs.Internet.{owner_of, pair_of, pairs_of, private_of, public_of}
use Rattle.vpc_model.specs.Lookup.{vpc_no, vpc_of_interface}
use Rattle.vpc_model.specs.Sound.{is_vpc}
use Rattle.number_tables.specs.Entries.{value_at}
use Rattle.number_tables.specs.Keys.{key_of}
use Rattle.number_tables.specs.declared.tables.Entry.{Entry}
use Rattle.edge_gateways.specs.declared.pairs.Owner.{Owner}
use Rattle.edge_gateways.specs.declared.pairs.Pair.{Pair}

-- a private and a public address in a VPC
abbrev pub in_vpc : VpcNo → ℕ × ℕ → Pair
in_vpc v p = record { owner = record { vpc = v; own = p.0 }; public = p.1 }

-- an address with its public one, where it has one
abbrev pub pair_in : VpcNo → ℕ × Option ℕ → List Pair
pair_in v x = map (in_vpc v) (option_to_list (pair_of x))

-- the pairs of an interface
abbrev pub pairs_with : Description → Interface → List Pair
pairs_with d e = map (in_vpc (vpc_no d (vpc_of_interface d e))) (pairs_of e)

-- the pairs of all interfaces
abbrev pub all_pairs : Description → List Pair
all_pairs d = flat_map (pairs_with d) d.interfaces

-- the public address by its VPC and private address
abbrev pub public_entry : Pair → Entry ℕ
public_entry p = record { key = key_of p.owner.vpc.0 p.owner.own; value = p.public }

-- the owner by its public address
abbrev pub owner_entry : Pair → Entry Owner
owner_entry p = record { key = p.public; value = p.owner }

-- ---- what the two tables tell

-- the public address of a private one in a VPC
abbrev pub public_at : List (Entry ℕ) → VpcNo → ℕ → Option ℕ
public_at publics v own = value_at (key_of v.0 own) publics

-- the VPC of a public address, and the private address there
abbrev pub owner_at : List (Entry Owner) → ℕ → Option (VpcNo × ℕ)
owner_at owners public = option_map (λ o. (o.vpc, o.own)) (value_at public owners)

-- they tell of every address what the description says
pub record HasPairsOf (d : Description) (publics : List (Entry ℕ)) (owners : List (Entry Owner)) : Type 0 where
  pub public : (v : VpcNo) (own : ℕ) → is_vpc d v ≡ true → own < 2 ^ 32 → public_at publics v own ≡ public_of d v own
  pub owner : (public : ℕ) → option_map (λ o. o.0) (owner_at owners public) ≡ owner_of d public
  pub own : (public : ℕ) → IfSome (owner_at owners public) (λ o. private_of d o.0 public ≡ Some o.1)

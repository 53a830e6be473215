-- Interfaces by their VPCs and the private addresses that are assigned to them (EC2 API, DescribeNetworkInterfaces).
use Rattle.std.specs.Prelude.{◌++◌, ◌+◌, ◌<◌, ◌≡◌, ◌^◌, [], ◌∷◌, All, List, Option, map, true, ℕ}
use Rattle.number_tables.specs.Entries.{value_at}
use Rattle.number_tables.specs.Keys.{key_of}
use Rattle.number_tables.specs.declared.tables.Entry.{Entry}
use Rattle.vpc_laws.specs.Hosts.{assigned_host}
use Rattle.vpc_laws.specs.Types.{Description, EniNo, Interface, VpcNo}
use Rattle.vpc_model.specs.Lookup.{vpc_no, vpc_of_interface}
use Rattle.vpc_model.specs.Sound.{is_vpc}

-- an interface by a private address that is assigned to it in its VPC
abbrev pub host_entry : VpcNo → EniNo → ℕ × Option ℕ → Entry EniNo
host_entry v i x = record { key = key_of v.0 x.0; value = i }

-- by each of these
abbrev pub host_entries : Description → ℕ → Interface → List (Entry EniNo)
host_entries d k e = map (host_entry (vpc_no d (vpc_of_interface d e)) (record { 0 = k })) e.addresses

-- the interfaces that are numbered from a number on
abbrev pub hosts_from : Description → ℕ → List Interface → List (Entry EniNo)
hosts_from d k [] = []
hosts_from d k (e ∷ rest) = host_entries d k e ++ hosts_from d (k + 1) rest

-- these are numbers of 32 bits
abbrev pub HasFit : Interface → Type 0
HasFit e = All (λ x. x.0 < 2 ^ 32) e.addresses

-- what stands at an address of a VPC is the interface to which it is assigned
abbrev pub AreHosts : Description → List (Entry EniNo) → Type 0
AreHosts d table = (v : VpcNo) (a : ℕ) → is_vpc d v ≡ true → a < 2 ^ 32 → value_at (key_of v.0 a) table ≡ assigned_host d v a

-- Which interfaces have which private addresses.
use Rattle.std.specs.Prelude.{◌+◌, ◌-◌, ◌++◌, ◌&&◌, ◌≡◌, [], ◌∷◌, if◌then◌else◌, Bool, List, Option, length, nat_lt, option_map, replicate, ℕ}
use Rattle.vpc_model.specs.declared.rows.Description.{Description}
use Rattle.vpc_model.specs.declared.rows.Interface.{Interface}
use Rattle.vpc_model.specs.declared.numbers.EniNo.{EniNo}
use Rattle.vpc_model.specs.declared.numbers.VpcNo.{VpcNo}
use Rattle.vpc_model.specs.Accepted.{private_addresses}
use Rattle.vpc_model.specs.Lookup.{is_assigned, is_in_vpc}
use Rattle.reference_check.specs.Blocks.{FindBlocks}
use Rattle.reference_check.specs.declared.hosts.Hosts.{Hosts}
use Rattle.reference_check.specs.Keys.{AreKeys}

-- the number of each address's interface, where the first of these has the given one
abbrev pub owners_from : ℕ → List Interface → List ℕ
owners_from n [] = []
owners_from n (e ∷ es) = replicate (length e.addresses) n ++ owners_from (n + 1) es

-- the address is assigned to an interface of the VPC
abbrev pub is_assigned_in : Description → VpcNo → ℕ → Interface → Bool
is_assigned_in d v a e = is_assigned e a && is_in_vpc d v e

-- the interface with the number, if there is one
abbrev pub numbered : Option ℕ → Option EniNo
numbered number = option_map (λ k. record { 0 = k }) number

-- the last address of a VPC up to a key, by the first key of the VPC
abbrev pub last_in : ℕ → ℕ → ℕ
last_in first key = if nat_lt (key - first) 4294967295 then key - first else 4294967295

-- the keys of all assigned addresses, and the numbers of their interfaces; and what finds the interfaces by their blocks
pub record AreHosts (d : Description) (h : Hosts) : Type 0 where
  pub addresses : AreKeys d (private_addresses d) h.keys
  pub owners : h.owners.items ≡ owners_from 0 d.interfaces
  pub blocks : FindBlocks d h.blocks

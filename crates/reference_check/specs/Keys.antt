-- Private addresses as single numbers.
use Rattle.std.specs.Prelude.{◌*◌, ◌+◌, ◌<◌, ◌≡◌, ◌^◌, [], ◌∷◌, List, Option, map, true, ℕ}
use Rattle.vpc_model.specs.declared.refusals.Refusal.{Refusal}
use Rattle.vpc_model.specs.declared.refusals.Refusal.TheVariants as refusals
use Rattle.vpc_model.specs.declared.rows.Description.{Description}
use Rattle.vpc_model.specs.declared.rows.Interface.{Interface}
use Rattle.vpc_model.specs.Lookup.{has_vpc, vpc_no, vpc_of_interface}

-- an address in the VPC with an id, by the VPC's number
abbrev pub key_of : Description → List ℕ × ℕ → ℕ
key_of d a = let v = vpc_no d a.0 in v.0 * 4294967296 + a.1

-- each VPC is described, and the addresses are of 32 bits
abbrev pub AreKnown : Description → List (List ℕ × ℕ) → Type 0
AreKnown d [] = Unit {0}
AreKnown d (a ∷ rest) = (has_vpc d a.0 ≡ true) × (a.1 < 2 ^ 32) × AreKnown d rest

-- the keys of such addresses
pub record AreKeys (d : Description) (addresses : List (List ℕ × ℕ)) (keys : List ℕ) : Type 0 where
  pub known : AreKnown d addresses
  pub same : keys ≡ map (key_of d) addresses

-- the addresses of an interface in the VPC with an id
abbrev pub addresses_in : List ℕ → List (ℕ × Option ℕ) → List (List ℕ × ℕ)
addresses_in vpc addresses = map (λ x. (vpc, x.0)) addresses

-- the addresses of an interface
abbrev pub addresses_of : Description → Interface → List (List ℕ × ℕ)
addresses_of d e = addresses_in (vpc_of_interface d e) e.addresses

-- an address stands twice in a VPC
abbrev pub twice : List ℕ × ℕ → Refusal
twice a = refusals.DuplicateAddress a.0 a.1

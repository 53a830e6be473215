-- Which addresses are claimed.
use Rattle.std.specs.List.{AllByRecursion, flat_map, list_any}
use Rattle.std.specs.Prelude.{◌&&◌, ◌++◌, ◌<◌, ◌≤◌, Bool, List, None, Option, Some, bytes_eq, length, map, nat_le, nat_lt, ℕ}
use Rattle.prefix_text.specs.Block.{Block}
use Rattle.address_sets.specs.Runs.{run_of}
use Rattle.address_sets.specs.declared.sets.Run.{Run}
use Rattle.vpc_model.specs.Accepted.{Claim, address_clashes, clash_with}
use Rattle.vpc_model.specs.declared.refusals.Refusal.{Refusal}
use Rattle.vpc_model.specs.declared.rows.Description.{Description}
use Rattle.vpc_model.specs.declared.rows.Interface.{Interface}

-- the claim has the address in the VPC with this id
abbrev pub is_of : List ℕ → ℕ → Claim → Bool
is_of vpc a c = bytes_eq c.vpc vpc && (nat_le c.first a && nat_le a c.last)

-- one of the claims has it
abbrev pub is_claimed : List ℕ → ℕ → List Claim → Bool
is_claimed vpc a claims = list_any (is_of vpc a) claims

-- the claim of one address
abbrev pub alone : List ℕ × ℕ → Claim
alone p = record { vpc = p.0; first = p.1; last = p.1 }

-- the run of one address
abbrev pub run_at : ℕ → Run
run_at a = record { first = a; last = a }

-- the claim of a run of addresses
abbrev pub claim_of : List ℕ → Run → Claim
claim_of vpc run = record { vpc = vpc; first = run.first; last = run.last }

-- the claims of addresses that are assigned in a VPC, each alone
abbrev pub alone_in : List ℕ → List (ℕ × Option ℕ) → List Claim
alone_in vpc addresses = map (λ x. alone (vpc, x.0)) addresses

-- the claims of blocks that are delegated in a VPC
abbrev pub blocks_in : List ℕ → List Block → List Claim
blocks_in vpc blocks = map (λ b. claim_of vpc (run_of b)) blocks

-- what an interface claims in a VPC and others claim already
abbrev pub own_clashes : List Claim → List ℕ → Interface → List Refusal
own_clashes claims vpc e = address_clashes claims (alone_in vpc e.addresses) ++ flat_map (clash_with claims) (blocks_in vpc e.prefixes)

-- what an interface claims in a VPC
abbrev pub own_claims : List ℕ → Interface → List Claim
own_claims vpc e = alone_in vpc e.addresses ++ blocks_in vpc e.prefixes

-- each of the claims has some address
abbrev pub AreSome : List Claim → Type 0
AreSome claims = AllByRecursion (λ c. c.first ≤ c.last) claims

-- an interface has a block
abbrev pub has_prefixes : Description → Bool
has_prefixes d = list_any (λ e. nat_lt 0 (length e.prefixes)) d.interfaces

-- the least number from one to another that has a property, where one has
abbrev pub IsLeast : (ℕ → Type 0) → ℕ → ℕ → Option ℕ → Type 0
IsLeast P from to None = (k : ℕ) → from ≤ k → k ≤ to → P k → ⊥
IsLeast P from to (Some m) = (from ≤ m) × (m ≤ to) × P m × ((k : ℕ) → from ≤ k → k < m → P k → ⊥)

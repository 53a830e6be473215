-- Numbers that are taken, in runs that lie apart.
use Rattle.std.specs.Map.{lookup}
use Rattle.std.specs.Ordering.{is_eq, nat_cmp}
use Rattle.std.specs.Prelude.{◌++◌, ◌<◌, ◌≡◌, ◌≤◌, ◌⊎◌, ◌^◌, List, None, Option, Result, Some, true, ℕ}
use Rattle.number_tables.specs.Keys as keys
use Rattle.address_sets.specs.declared.sets.Run.{Run}
use Rattle.vpc_model.specs.Accepted.{Claim, least_shared}
use Rattle.vpc_model.specs.Lookup.{has_vpc}
use Rattle.vpc_model.specs.declared.refusals.Refusal.{Refusal}
use Rattle.vpc_model.specs.declared.rows.Description.{Description}
use Rattle.reference_check.specs.Claimed.{AreSome, claim_of, is_claimed}
use Rattle.reference_check.specs.Keys.{key_of}
use Rattle.reference_check.specs.Told.{Tells}

-- the first number of the run with this last one; each run stands as its last number and its first
abbrev pub first_at : List (ℕ × ℕ) → ℕ → Option ℕ
first_at runs last = lookup (λ k. is_eq (nat_cmp last k)) runs

-- the number is in one of the runs
abbrev pub IsTaken : List (ℕ × ℕ) → ℕ → Type 0
IsTaken runs k = (last : ℕ) × (first : ℕ) × (first_at runs last ≡ Some first) × (first ≤ k) × (k ≤ last)

-- each run has some number, and the later ones begin after it ended
pub record LieApart (runs : List (ℕ × ℕ)) : Type 0 where
  pub some : (last first : ℕ) → first_at runs last ≡ Some first → first ≤ last
  pub apart : (last first later begin : ℕ) → first_at runs last ≡ Some first → first_at runs later ≡ Some begin → last < later → last < begin

-- the run that ends first among those that end at the number or after it, as its last number and its first
abbrev pub IsNextRun : List (ℕ × ℕ) → ℕ → Option (ℕ × ℕ) → Type 0
IsNextRun runs k None = (last : ℕ) → k ≤ last → first_at runs last ≡ None
IsNextRun runs k (Some run) =
    (k ≤ run.0) × (first_at runs run.0 ≡ Some run.1) × ((last first : ℕ) → k ≤ last → first_at runs last ≡ Some first → run.0 ≤ last)

-- the same numbers are taken, and those from the first to the last
abbrev pub Takes : List (ℕ × ℕ) → ℕ → ℕ → List (ℕ × ℕ) → Type 0
Takes old first last new =
    (k : ℕ) → (IsTaken new k → IsTaken old k ⊎ ((first ≤ k) × (k ≤ last))) × (IsTaken old k ⊎ ((first ≤ k) × (k ≤ last)) → IsTaken new k)

-- no address of the run is taken in the VPC with this number
abbrev pub IsFree : List (ℕ × ℕ) → ℕ → Run → Type 0
IsFree runs v run = (a : ℕ) → run.first ≤ a → a ≤ run.last → IsTaken runs (keys.key_of v a) → ⊥

-- the keys of what is claimed in described VPCs
pub record AreTaken (d : Description) (claims : List Claim) (runs : List (ℕ × ℕ)) : Type 0 where
  pub some : AreSome claims
  pub claimed : (vpc : List ℕ) (a : ℕ) → has_vpc d vpc ≡ true → a < 2 ^ 32 → IsTaken runs (key_of d (vpc, a)) → is_claimed vpc a claims ≡ true
  pub taken : (vpc : List ℕ) (a : ℕ) → has_vpc d vpc ≡ true → a < 2 ^ 32 → is_claimed vpc a claims ≡ true → IsTaken runs (key_of d (vpc, a))

-- the least address of a run in a VPC that is claimed, whatever claims took these keys
abbrev pub IsLeastClaimed : Description → List (ℕ × ℕ) → List ℕ → Run → Option ℕ → Type 0
IsLeastClaimed d runs vpc run least = (claims : List Claim) → AreTaken d claims runs → least ≡ least_shared claims (claim_of vpc run)

-- what is wrong beside the claims that took these keys is told
abbrev pub TellsBeside : {A : Type 0} → Description → List (ℕ × ℕ) → (List Claim → List Refusal) → Result A Refusal → Type 0
TellsBeside d runs causes result = (claims : List Claim) → AreTaken d claims runs → Tells (causes claims) result

-- likewise beside the claims of others and, after them, of one's own
abbrev pub TellsBesideBoth : {A : Type 0} → Description → List (ℕ × ℕ) → List (ℕ × ℕ) → (List Claim → List Refusal) → Result A Refusal → Type 0
TellsBesideBoth d runs own causes result = (claims before : List Claim) → AreTaken d claims runs → AreTaken d before own → Tells (causes (claims ++ before)) result

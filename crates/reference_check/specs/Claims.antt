-- Which rows of a list name which targets, such as which tables name which subnets.
use Rattle.std.specs.Prelude.{◌==◌, if◌then◌else◌, Bool, List, None, Option, Some, bytes_eq, map, position, slice_index_or, slice_set, ℕ}
use Rattle.vpc_model.specs.Accepted.{holds_twice}
use Rattle.vpc_model.specs.Lookup.{is_listed}
use Rattle.reference_check.specs.declared.claims.Claim.{Claim}
use Rattle.reference_check.specs.declared.claims.Claim.TheVariants as claim

-- no row names the target, or one does, or more do: the first has this number
abbrev pub claim_by : {X : Type 0} → (X → Bool) → List X → Claim
claim_by names rows = elim (position names rows) [ None ↦ claim.Unclaimed | Some r ↦ if holds_twice names rows then claim.Twice r else claim.Once r ]

-- which rows name each target
abbrev pub claims_by : {X : Type 0} → (List ℕ → X → Bool) → List (List ℕ) → List X → List Claim
claims_by names targets rows = map (λ t. claim_by (names t) rows) targets

-- the number of the first row that names the target
abbrev pub first_of : Claim → Option ℕ
first_of claim.Unclaimed = None
first_of (claim.Once r) = Some r
first_of (claim.Twice r) = Some r

-- a row, none of whose successors was noted yet, names the target
abbrev pub noted : ℕ → Claim → Claim
noted row claim.Unclaimed = claim.Once row
noted row (claim.Once r) = if r == row then claim.Once r else claim.Twice r
noted row (claim.Twice r) = claim.Twice r

-- the row names the target with this id
abbrev pub noted_at : List (List ℕ) → ℕ → List ℕ → List Claim → List Claim
noted_at targets row id claims =
    elim (position (λ t. bytes_eq t id) targets) [ None ↦ claims | Some k ↦ slice_set claims k (noted row (slice_index_or claims k claim.Unclaimed)) ]

-- the row names the targets that are listed, where others were named before
abbrev pub noted_all : List (List ℕ) → ℕ → List (List ℕ) → (List ℕ → Claim) → List Claim
noted_all targets row ids before = map (λ t. if is_listed t ids then noted row (before t) else before t) targets

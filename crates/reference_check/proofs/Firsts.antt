-- The first row that a test holds of, and the first cause.
use Rattle.std.proofs.Common.{◌+◌, ◌<◌, ◌≡◌, ◌∙◌, ◌∷◌, [], ◌||◌, Bool, List, None, Option, Some, ap, arith, bytes_eq, cond, false, filter, get_or, is_none, length, map, nat_le, nat_lt, not, position, refl, suc, sym, true, ℕ}
use Rattle.std.specs.List.{count_by, list_any, position_or_len}
use Rattle.std.proofs.lemmas.Bool.Decides.{nat_tests}
use Rattle.std.proofs.lemmas.List.{get_or-map, length-map}
use Rattle.std.proofs.lemmas.List.Sums.{passes_at_first}
use Rattle.std.proofs.lemmas.Slice.Eq.{bytes_eq-Decides}
use Rattle.vpc_base.proofs.Positions.{list_any-position, missing_number, position-le, position_map}
use Rattle.vpc_model.specs.Accepted.{first_cause, holds_twice}
use Rattle.vpc_model.specs.Choice.{or_else}
use Rattle.vpc_model.specs.declared.refusals.Refusal.{Refusal}
use Rattle.reference_check.specs.Attached.{is_twice, is_unclaimed}
use Rattle.reference_check.specs.declared.claims.Claim.{Claim}
use Rattle.reference_check.specs.declared.claims.Claim.TheVariants as claim
use Rattle.reference_check.specs.Claims.{claim_by, claims_by, first_of}
use Rattle.reference_check.proofs.Maps.{found_number}
use Rattle.reference_check.proofs.Marks.{claim_by-is, found-counted}

filter-nil : {X : Type 0} (q : X → Bool) (xs : List X) → list_any q xs ≡ false → filter q xs ≡ []
filter-nil q [] e = refl
filter-nil q (x ∷ xs) e = by (q x) refl e (filter-nil q xs)
  where
    by : (b : Bool) → q x ≡ b → (b || list_any q xs) ≡ false → (list_any q xs ≡ false → filter q xs ≡ []) → filter q (x ∷ xs) ≡ []
    by true h i next = absurd (cc)
    by false h i next = rw h (next i)

filter-first : {X : Type 0} (q : X → Bool) (cause : X → Refusal) (xs : List X) (d : X) → list_any q xs ≡ true → first_cause (map cause (filter q xs)) ≡ Some (cause (get_or xs (position_or_len q xs) d))
filter-first q cause [] d e = absurd (cc)
filter-first {X = X} q cause (x ∷ xs) d e = by (q x) refl e (filter-first q cause xs d)
  where
    by : (b : Bool) → q x ≡ b → (b || list_any q xs) ≡ true → (list_any q xs ≡ true → first_cause (map cause (filter q xs)) ≡ Some (cause (get_or xs (position_or_len q xs) d))) → first_cause (map cause (filter q (x ∷ xs))) ≡ Some (cause (get_or (x ∷ xs) (position_or_len q (x ∷ xs)) d))
    by true h i next = rw h
    by false h i next =
        let one : 1 + position_or_len q xs ≡ suc (position_or_len q xs) = omega arith in
        rw (h, one) (next i)

-- nothing passes
pub causes-none : {X : Type 0} (q : X → Bool) (cause : X → Refusal) (xs : List X) → position q xs ≡ None → map cause (filter q xs) ≡ []
causes-none q cause xs h = ap (map cause) (filter-nil q xs (missing_number q xs h))

-- the first that passes, by its id
pub causes-first : {X : Type 0} (q : X → Bool) (cause : List ℕ → Refusal) (f : X → List ℕ) (xs ys : List X) (k : ℕ) (d : X) (id : List ℕ) → position q xs ≡ Some k → ys ≡ xs → id ≡ f (get_or ys k d) → first_cause (map (λ x. cause (f x)) (filter q xs)) ≡ Some (cause id)
causes-first {X = X} q cause f xs ys k d id h same is =
    let found = found_number q xs k h in
    filter-first q (λ x. cause (f x)) xs d found.there ∙ ap (λ (n : ℕ). Some (cause (f (get_or xs n d)))) found.number
    ∙ ap (λ (zs : List X). Some (cause (f (get_or zs k d)))) (sym same)
    ∙ ap (λ (i : List ℕ). Some (cause i)) (sym is)

-- ---- by claims

unclaimed-by : {X : Type 0} (p : X → Bool) (rows : List X) → is_unclaimed (claim_by p rows) ≡ not (list_any p rows)
unclaimed-by p rows = rw (claim_by-is p rows, list_any-position p rows) (by (nat_lt (position_or_len p rows) (length rows)) (nat_le 2 (count_by p rows)))
  where
    by : (a b : Bool) → is_unclaimed (cond a (cond b (claim.Twice (position_or_len p rows)) (claim.Once (position_or_len p rows))) claim.Unclaimed) ≡ not a
    by true true = refl
    by true false = refl
    by false b = refl

twice-by : {X : Type 0} (p : X → Bool) (rows : List X) → is_twice (claim_by p rows) ≡ holds_twice p rows
twice-by p rows = rw (claim_by-is p rows) (by (nat_lt (position_or_len p rows) (length rows)) (nat_le 2 (count_by p rows)) refl refl (found-counted p rows))
  where
    by : (a b : Bool) → nat_lt (position_or_len p rows) (length rows) ≡ a → nat_le 2 (count_by p rows) ≡ b → nat_lt (position_or_len p rows) (length rows) ≡ nat_lt 0 (count_by p rows) → is_twice (cond a (cond b (claim.Twice (position_or_len p rows)) (claim.Once (position_or_len p rows))) claim.Unclaimed) ≡ b
    by true true e h s = refl
    by true false e h s = refl
    by false true e h s = absurd (grind (arith, nat_tests))
    by false false e h s = refl

pub unclaimed-position : {X Y : Type 0} (names : List ℕ → X → Bool) (f : Y → List ℕ) (targets : List Y) (rows : List X) (claims : List Claim) → claims ≡ claims_by names (map f targets) rows → position is_unclaimed claims ≡ position (λ v. not (list_any (names (f v)) rows)) targets
unclaimed-position names f targets rows claims e =
    ap (position is_unclaimed) e
    ∙ position_map (λ t. claim_by (names t) rows) is_unclaimed (λ t. not (list_any (names t) rows)) (λ t. unclaimed-by (names t) rows) (map f targets)
    ∙ position_map f (λ t. not (list_any (names t) rows)) (λ v. not (list_any (names (f v)) rows)) (λ v. refl) targets

pub twice-position : {X Y : Type 0} (names : List ℕ → X → Bool) (f : Y → List ℕ) (targets : List Y) (rows : List X) (claims : List Claim) → claims ≡ claims_by names (map f targets) rows → position is_twice claims ≡ position (λ v. holds_twice (names (f v)) rows) targets
twice-position names f targets rows claims e =
    ap (position is_twice) e
    ∙ position_map (λ t. claim_by (names t) rows) is_twice (λ t. holds_twice (names t) rows) (λ t. twice-by (names t) rows) (map f targets)
    ∙ position_map f (λ t. holds_twice (names t) rows) (λ v. holds_twice (names (f v)) rows) (λ v. refl) targets

-- ---- by the chosen tables

either-any : {X : Type 0} (p q : X → Bool) (xs : List X) → list_any (λ x. p x || q x) xs ≡ (list_any p xs || list_any q xs)
either-any p q [] = refl
either-any p q (x ∷ xs) = by (p x) (q x) (list_any p xs) (list_any q xs) (either-any p q xs)
  where
    by : (a b c d : Bool) → list_any (λ x. p x || q x) xs ≡ (c || d) → ((a || b) || list_any (λ x. p x || q x) xs) ≡ ((a || c) || (b || d))
    by true b c d h = refl
    by false true true d h = refl
    by false true false d h = refl
    by false false c d h = h

pub none-or_else : {X : Type 0} (p q : X → Bool) (xs : List X) → is_none (or_else (position p xs) (position q xs)) ≡ not (list_any (λ x. p x || q x) xs)
none-or_else p q xs = rw (either-any p q xs, list_any-position p xs, list_any-position q xs) (by (nat_lt (position_or_len p xs) (length xs)) (nat_lt (position_or_len q xs) (length xs)))
  where
    by : (a b : Bool) → is_none (or_else (cond a (Some (position_or_len p xs)) None) (cond b (Some (position_or_len q xs)) None)) ≡ not (a || b)
    by true b = refl
    by false true = refl
    by false false = refl

-- ---- the claims to one target

pub first-by : {X : Type 0} (p : X → Bool) (rows : List X) → first_of (claim_by p rows) ≡ position p rows
first-by p rows = by (position p rows) (holds_twice p rows)
  where
    by : (o : Option ℕ) (twice : Bool) → first_of (elim o as (λ o. Claim) [ None ↦ claim.Unclaimed | Some r ↦ cond twice (claim.Twice r) (claim.Once r) ]) ≡ o
    by None twice = refl
    by (Some r) true = refl
    by (Some r) false = refl

pub claim-at : {X : Type 0} (names : List ℕ → X → Bool) (ids : List (List ℕ)) (id : List ℕ) (rows : List X) (k : ℕ) (d : Claim) → position (λ i. bytes_eq i id) ids ≡ Some k → get_or (claims_by names ids rows) k d ≡ claim_by (names id) rows
claim-at names ids id rows k d h =
    let found = found_number (λ i. bytes_eq i id) ids k h in
    let within : k < length ids = found.within in
    let passes = passes_at_first (λ i. bytes_eq i id) ids [] (rw found.number within) in
    let same : get_or ids (position_or_len (λ i. bytes_eq i id) ids) [] ≡ id = (bytes_eq-Decides _ id).0 passes in
    get_or-map (λ t. claim_by (names t) rows) ids k [] d within
    ∙ ap (λ (n : ℕ). claim_by (names (get_or ids n [])) rows) (sym found.number)
    ∙ ap (λ (t : List ℕ). claim_by (names t) rows) same

pub first-at : {X : Type 0} (names : List ℕ → X → Bool) (ids : List (List ℕ)) (id : List ℕ) (rows : List X) (k : ℕ) (d : Claim) (claims : List Claim) → claims ≡ claims_by names ids rows → position (λ i. bytes_eq i id) ids ≡ Some k → first_of (get_or claims k d) ≡ position (names id) rows
first-at names ids id rows k d claims e h =
    ap (λ (cs : List Claim). first_of (get_or cs k d)) e ∙ ap first_of (claim-at names ids id rows k d h) ∙ first-by (names id) rows

-- by the target's number
pub first-of-row : {X Y : Type 0} (names : List ℕ → X → Bool) (f : Y → List ℕ) (targets : List Y) (rows : List X) (k : ℕ) (d : Claim) (y : Y) (claims : List Claim) → claims ≡ claims_by names (map f targets) rows → k < length targets → first_of (get_or claims k d) ≡ position (names (f (get_or targets k y))) rows
first-of-row {Y = Y} names f targets rows k d y claims e within =
    let longer : k < length (map f targets) = rw (length-map targets f) within in
    ap (λ (cs : List Claim). first_of (get_or cs k d)) e
    ∙ ap first_of (get_or-map (λ t. claim_by (names t) rows) (map f targets) k (f y) d longer ∙ ap (λ (t : List ℕ). claim_by (names t) rows) (get_or-map f targets k y (f y) within))
    ∙ first-by (names (f (get_or targets k y))) rows

-- ---- numbers in range

pub missing-length : {X : Type 0} (p : X → Bool) (xs : List X) → position p xs ≡ None → position_or_len p xs ≡ length xs
missing-length p xs h =
    let none : nat_lt (position_or_len p xs) (length xs) ≡ false = sym (list_any-position p xs) ∙ missing_number p xs h in
    let within = position-le p xs in
    grind (arith, nat_tests)

pub or_else-within : {X : Type 0} (p q : X → Bool) (xs : List X) (k : ℕ) → or_else (position p xs) (position q xs) ≡ Some k → k < length xs
or_else-within {X = X} p q xs k h = by (position p xs) refl h
  where
    by : (o : Option ℕ) → position p xs ≡ o → or_else o (position q xs) ≡ Some k → k < length xs
    by None e i = (found_number q xs k i).within
    by (Some n) e i = (found_number p xs k (e ∙ i)).within

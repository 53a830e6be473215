-- Claims, row by row.
use Rattle.std.proofs.Common.{◌+◌, ◌||◌, not, subst, ◌++◌, ◌<◌, ◌==◌, ◌≡◌, ◌≤◌, ◌∙◌, ◌∷◌, [], Bool, List, None, Some, ap, arith, bytes_eq, cond, false, get_or, length, map, nat_lt, nat_le, refl, replicate, set, suc, sym, take, true, ℕ}
use Rattle.std.specs.List.{count_by, list_any, position_or_len}
use Rattle.std.proofs.lemmas.Bool.Decides.{nat_tests}
use Rattle.std.proofs.lemmas.Grind.{common_steps, take_at_read}
use Rattle.std.proofs.lemmas.List.Folds.{list_any-append, position_or_len_push}
use Rattle.std.proofs.lemmas.List.Sums.{sum_by-cons, sum_by_push}
use Rattle.std.proofs.lemmas.Slice.Eq.{bytes_eq-Decides}
use Rattle.vpc_base.proofs.Bytes.{bytes_eq-comm}
use Rattle.vpc_base.proofs.Positions.{list_any-position, position-le}
use Rattle.vpc_model.specs.Accepted.{is_main_of}
use Rattle.vpc_model.specs.declared.rows.RouteTable.{RouteTable}
use Rattle.reference_check.specs.declared.claims.Claim.{Claim}
use Rattle.reference_check.specs.declared.claims.Claim.TheVariants as claim
use Rattle.reference_check.specs.Claims.{claim_by, claims_by, noted, noted_all, noted_at}
use Rattle.vpc_model.specs.Lookup.{is_listed}
use Rattle.reference_check.proofs.Distinct.{AreDistinct}

-- something passes exactly where what passes counts
pub found-counted : {X : Type 0} (p : X → Bool) (xs : List X) → nat_lt (position_or_len p xs) (length xs) ≡ nat_lt 0 (count_by p xs)
found-counted p [] = refl
found-counted p (x ∷ xs) = by (p x) refl (found-counted p xs) (sum_by-cons (λ y. cond (p y) 1 0) x xs)
  where
    by : (b : Bool) → p x ≡ b → nat_lt (position_or_len p xs) (length xs) ≡ nat_lt 0 (count_by p xs) → count_by p (x ∷ xs) ≡ cond (p x) 1 0 + count_by p xs → nat_lt (position_or_len p (x ∷ xs)) (length (x ∷ xs)) ≡ nat_lt 0 (count_by p (x ∷ xs))
    by true e h s = rw (s, e) (grind (arith, nat_tests))
    by false e h s = rw (s, e) (grind (arith, nat_tests))

-- the claim by the number of the first row, the count of rows and the count of those that name the target
abbrev pub claim_of : ℕ → ℕ → ℕ → Claim
claim_of first rows naming = cond (nat_lt first rows) (cond (nat_le 2 naming) (claim.Twice first) (claim.Once first)) claim.Unclaimed

pub claim_by-is : {X : Type 0} (p : X → Bool) (xs : List X) → claim_by p xs ≡ claim_of (position_or_len p xs) (length xs) (count_by p xs)
claim_by-is p xs = by (nat_lt (position_or_len p xs) (length xs)) (nat_le 2 (count_by p xs)) (position_or_len p xs)
  where
    by : (found twice : Bool) (n : ℕ) → elim (cond found (Some n) None) as (λ o. Claim) [ None ↦ claim.Unclaimed | Some r ↦ cond twice (claim.Twice r) (claim.Once r) ] ≡ cond found (cond twice (claim.Twice n) (claim.Once n)) claim.Unclaimed
    by true twice n = refl
    by false twice n = refl

-- one more row
claim_of-next : (b : Bool) (first rows naming : ℕ) → first ≤ rows → nat_lt first rows ≡ nat_lt 0 naming → claim_of (cond (first == rows) (rows + cond b 0 1) first) (rows + 1) (naming + cond b 1 0) ≡ cond b (noted rows (claim_of first rows naming)) (claim_of first rows naming)
claim_of-next true first rows naming le same = grind (arith, nat_tests)
claim_of-next false first rows naming le same = grind (arith, nat_tests)

-- a claim once one more row was seen
pub claim_by-push : {X : Type 0} (p : X → Bool) (xs : List X) (x : X) → claim_by p (xs ++ x ∷ []) ≡ cond (p x) (noted (length xs) (claim_by p xs)) (claim_by p xs)
claim_by-push p xs x =
    let now = claim_by-is p (xs ++ x ∷ []) in
    let before = claim_by-is p xs in
    let first = position_or_len_push p xs x in
    let naming : count_by p (xs ++ x ∷ []) ≡ count_by p xs + cond (p x) 1 0 = sum_by_push (λ y. cond (p y) 1 0) xs x in
    let rows : length (xs ++ x ∷ []) ≡ length xs + 1 = grind (arith, common_steps) in
    rw (now, before, first, naming, rows) (claim_of-next (p x) _ _ _ (position-le p xs) (found-counted p xs))

-- where no item passes
map-none : {X Y : Type 0} (p : X → Bool) (f g : X → Y) (xs : List X) → list_any p xs ≡ false → map f xs ≡ map (λ x. cond (p x) (g x) (f x)) xs
map-none p f g [] e = refl
map-none {X = X} {Y = Y} p f g (x ∷ xs) e = by (p x) refl e (map-none p f g xs)
  where
    by : (b : Bool) → p x ≡ b → (b || list_any p xs) ≡ false → (list_any p xs ≡ false → map f xs ≡ map (λ x. cond (p x) (g x) (f x)) xs) → map f (x ∷ xs) ≡ map (λ x. cond (p x) (g x) (f x)) (x ∷ xs)
    by true h i next = absurd (cc)
    by false h i next = rw (h, next i)

-- a claim that is noted where the target's id is found
noted_found : {Y : Type 0} (f : List ℕ → Y) (g : Y → Y) (id : List ℕ) (d : Y) (ts : List (List ℕ)) → AreDistinct ts → nat_lt (position_or_len (λ t. bytes_eq t id) ts) (length ts) ≡ true → set (map f ts) (position_or_len (λ t. bytes_eq t id) ts) (g (get_or (map f ts) (position_or_len (λ t. bytes_eq t id) ts) d)) ≡ map (λ t. cond (bytes_eq t id) (g (f t)) (f t)) ts
noted_found f g id d [] differ e = absurd (cc)
noted_found {Y = Y} f g id d (t ∷ ts) differ e = by (bytes_eq t id) refl e (noted_found f g id d ts differ.1)
  where
    by : (b : Bool) → bytes_eq t id ≡ b → nat_lt (cond (not b) (1 + position_or_len (λ t. bytes_eq t id) ts) 0) (suc (length ts)) ≡ true → (nat_lt (position_or_len (λ t. bytes_eq t id) ts) (length ts) ≡ true → set (map f ts) (position_or_len (λ t. bytes_eq t id) ts) (g (get_or (map f ts) (position_or_len (λ t. bytes_eq t id) ts) d)) ≡ map (λ t. cond (bytes_eq t id) (g (f t)) (f t)) ts) → set (f t ∷ map f ts) (cond (not b) (1 + position_or_len (λ t. bytes_eq t id) ts) 0) (g (get_or (f t ∷ map f ts) (cond (not b) (1 + position_or_len (λ t. bytes_eq t id) ts) 0) d)) ≡ cond b (g (f t)) (f t) ∷ map (λ t. cond (bytes_eq t id) (g (f t)) (f t)) ts
    by true h i rest =
        let same : t ≡ id = (bytes_eq-Decides t id).0 h in
        let P : List ℕ → Type 0 = λ u. list_any (λ v. bytes_eq v u) ts ≡ false in
        ap (λ ys. g (f t) ∷ ys) (map-none (λ u. bytes_eq u id) f (λ u. g (f u)) ts (subst P same differ.0))
    by false h i rest =
        let next : 1 + position_or_len (λ t. bytes_eq t id) ts ≡ suc (position_or_len (λ t. bytes_eq t id) ts) = omega arith in
        let within : nat_lt (position_or_len (λ t. bytes_eq t id) ts) (length ts) ≡ true = grind (arith, nat_tests) in
        rw next (ap (λ ys. f t ∷ ys) (rest within))

-- a row names one more target
pub noted_at-map : (targets : List (List ℕ)) (row : ℕ) (id : List ℕ) (f : List ℕ → Claim) → AreDistinct targets → noted_at targets row id (map f targets) ≡ map (λ t. cond (bytes_eq t id) (noted row (f t)) (f t)) targets
noted_at-map targets row id f differ = by (nat_lt (position_or_len (λ t. bytes_eq t id) targets) (length targets)) refl
  where
    by : (b : Bool) → nat_lt (position_or_len (λ t. bytes_eq t id) targets) (length targets) ≡ b → elim (cond b (Some (position_or_len (λ t. bytes_eq t id) targets)) None) as (λ o. List Claim) [ None ↦ map f targets | Some k ↦ set (map f targets) k (noted row (get_or (map f targets) k claim.Unclaimed)) ] ≡ map (λ t. cond (bytes_eq t id) (noted row (f t)) (f t)) targets
    by true h = noted_found f (noted row) id claim.Unclaimed targets differ h
    by false h = map-none (λ t. bytes_eq t id) f (λ t. noted row (f t)) targets (list_any-position (λ t. bytes_eq t id) targets ∙ h)

-- twice by one row is once
noted-noted : (row : ℕ) (c : Claim) → noted row (noted row c) ≡ noted row c
noted-noted row claim.Unclaimed =
    let same : (row == row) ≡ true = grind (arith, nat_tests) in
    rw same
noted-noted row (claim.Once r) = by (r == row) refl
  where
    by : (b : Bool) → (r == row) ≡ b → noted row (cond b (claim.Once r) (claim.Twice r)) ≡ cond b (claim.Once r) (claim.Twice r)
    by true h = rw h
    by false h = refl
noted-noted row (claim.Twice r) = refl

noted_once : (row : ℕ) (id t : List ℕ) (listed : Bool) (c : Claim) → cond (bytes_eq t id) (noted row (cond listed (noted row c) c)) (cond listed (noted row c) c) ≡ cond (listed || (bytes_eq id t || false)) (noted row c) c
noted_once row id t listed c = rw (bytes_eq-comm id t) (by (bytes_eq t id) listed)
  where
    by : (b listed : Bool) → cond b (noted row (cond listed (noted row c) c)) (cond listed (noted row c) c) ≡ cond (listed || (b || false)) (noted row c) c
    by true true = noted-noted row c
    by true false = refl
    by false true = refl
    by false false = refl

pub noted_all-push : (targets : List (List ℕ)) (row : ℕ) (ids : List (List ℕ)) (id : List ℕ) (f : List ℕ → Claim) → AreDistinct targets → noted_at targets row id (noted_all targets row ids f) ≡ noted_all targets row (ids ++ id ∷ []) f
noted_all-push targets row ids id f differ =
    let each : (t : List ℕ) → cond (bytes_eq t id) (noted row (cond (is_listed t ids) (noted row (f t)) (f t))) (cond (is_listed t ids) (noted row (f t)) (f t)) ≡ cond (is_listed t (ids ++ id ∷ [])) (noted row (f t)) (f t) = λ t. noted_once row id t (is_listed t ids) (f t) ∙ ap (λ b. cond b (noted row (f t)) (f t)) (sym (list_any-append (λ i. bytes_eq i t) ids (id ∷ []))) in
    noted_at-map targets row id (λ t. cond (is_listed t ids) (noted row (f t)) (f t)) differ ∙ ap (λ (h : List ℕ → Claim). map h targets) (λ i t. each t i)

-- no row yet
pub claims_by-none : {X : Type 0} (names : List ℕ → X → Bool) (targets : List (List ℕ)) → replicate (length targets) claim.Unclaimed ≡ claims_by names targets []
claims_by-none names [] = refl
claims_by-none names (t ∷ ts) = ap (λ cs. claim.Unclaimed ∷ cs) (claims_by-none names ts)

-- one more row
pub claims_by-push : {X : Type 0} (names : List ℕ → X → Bool) (targets : List (List ℕ)) (rows : List X) (row : X) → map (λ t. cond (names t row) (noted (length rows) (claim_by (names t) rows)) (claim_by (names t) rows)) targets ≡ claims_by names targets (rows ++ row ∷ [])
claims_by-push names targets rows row = ap (λ (h : List ℕ → Claim). map h targets) (λ i t. sym (claim_by-push (names t) rows row) i)

pub claims_by-take : {X : Type 0} (names : List ℕ → X → Bool) (targets : List (List ℕ)) (rows : List X) (r : ℕ) (row : X) → r < length rows → row ≡ get_or rows r row → map (λ t. cond (names t row) (noted r (claim_by (names t) (take r rows))) (claim_by (names t) (take r rows))) targets ≡ claims_by names targets (take (r + 1) rows)
claims_by-take {X = X} names targets rows r row within is =
    let taken : take (r + 1) rows ≡ take r rows ++ row ∷ [] = (take_at_read rows r row within).1 ∙ ap (λ x. take r rows ++ x ∷ []) (sym is) in
    let count : length (take r rows) ≡ r = grind (arith, common_steps) in
    let push = claims_by-push names targets (take r rows) row in
    ap (λ (n : ℕ). map (λ t. cond (names t row) (noted n (claim_by (names t) (take r rows))) (claim_by (names t) (take r rows))) targets) (sym count)
    ∙ push ∙ ap (λ (xs : List X). claims_by names targets xs) (sym taken)

-- a main table's VPC
pub noted_main : (targets : List (List ℕ)) (row : ℕ) (table : RouteTable) (f : List ℕ → Claim) → AreDistinct targets → table.main ≡ true → noted_at targets row table.vpc (map f targets) ≡ map (λ t. cond (is_main_of t table) (noted row (f t)) (f t)) targets
noted_main targets row table f differ main =
    let each : (t : List ℕ) → cond (bytes_eq t table.vpc) (noted row (f t)) (f t) ≡ cond (is_main_of t table) (noted row (f t)) (f t) = λ t. rw (main, bytes_eq-comm t table.vpc) in
    noted_at-map targets row table.vpc f differ ∙ ap (λ (h : List ℕ → Claim). map h targets) (λ i t. each t i)

pub noted_no_main : (targets : List (List ℕ)) (row : ℕ) (table : RouteTable) (f : List ℕ → Claim) → table.main ≡ false → map f targets ≡ map (λ t. cond (is_main_of t table) (noted row (f t)) (f t)) targets
noted_no_main targets row table f main =
    let each : (t : List ℕ) → f t ≡ cond (is_main_of t table) (noted row (f t)) (f t) = λ t. rw main in
    ap (λ (h : List ℕ → Claim). map h targets) (λ i t. each t i)

-- The first entry with a key, among entries that are sorted by key.
use Rattle.std.proofs.Common.{◌≡◌, ◌∙◌, ◌&&◌, ◌∷◌, ◌<◌, ◌≤◌, ◌==◌, ◌⊎◌, [], ℕ, Bool, List, None, Some, ap, arith, false, find, inl, inr, length, nat_lt, not, option_map, refl, slice_index_or, subst, suc, sym, true, zero}
use Rattle.std.specs.List.Sorted.{IsNonDecreasingBy, IsPartitionPoint, IsStableByKey, ties}
use Rattle.std.specs.Ordering.{is_lt, nat_cmp}
use Rattle.std.proofs.lemmas.Bool.{cases_lt, eq-eqb, ltb-false, ltb-true, ne_eqb}
use Rattle.std.proofs.lemmas.Bool.Decides.{nat_tests}
use Rattle.vpc_base.proofs.Tests.{find-kept}
use Rattle.number_tables.specs.declared.tables.Entry.{Entry}
use Rattle.number_tables.specs.Entries.{value_at}

-- ---- searches

pub find-first : {X : Type 0} (p : X → Bool) (xs : List X) (n : ℕ) (d : X) → n < length xs → ((i : ℕ) → i < n → p (slice_index_or xs i d) ≡ false) → p (slice_index_or xs n d) ≡ true
    → find p xs ≡ Some (slice_index_or xs n d)
find-first p [] n d within before here = absurd (omega arith)
find-first p (x ∷ xs) zero d within before here = rw here refl
find-first p (x ∷ xs) (suc n) d within before here = rw (before 0 (omega arith)) (find-first p xs n d (omega arith) (λ i lt. before (suc i) (omega arith)) here)

pub find-nothing : {X : Type 0} (p : X → Bool) (xs : List X) → ((i : ℕ) (d : X) → i < length xs → p (slice_index_or xs i d) ≡ false) → find p xs ≡ None
find-nothing p [] none = refl
find-nothing p (x ∷ xs) none = rw (none 0 x (omega arith)) (find-nothing p xs (λ i d within. none (suc i) d (omega arith)))

-- ---- entries of one key

key-ties : (k n : ℕ) → (n == k) ≡ true → (not (is_lt (nat_cmp k n)) && not (is_lt (nat_cmp n k))) ≡ true
key-ties k n same = grind (arith, nat_tests)

-- a stable sort keeps the first entry of each key
value_at-with : {T : Type 0} (k : ℕ) (v : T) (xs ys : List (Entry T)) → IsStableByKey (λ e. e.key) nat_cmp xs ys → value_at k ys ≡ value_at k xs
value_at-with {T} k v xs ys stable =
    let p : (Entry T → Bool) = λ e. e.key == k in
    let x : Entry T = record { key = k; value = v } in
    let d : (Entry T → Bool) = ties (λ a b. is_lt (nat_cmp a.key b.key)) x in
    let implies : ((e : Entry T) → p e ≡ true → d e ≡ true) = λ e same. key-ties k e.key same in
    ap (option_map (λ e. e.value)) (sym (find-kept p d implies ys) ∙ ap (find p) (stable x) ∙ find-kept p d implies xs)

pub value_at-stable : {T : Type 0} (k : ℕ) (xs ys : List (Entry T)) → IsStableByKey (λ e. e.key) nat_cmp xs ys → value_at k ys ≡ value_at k xs
value_at-stable k [] [] stable = refl
value_at-stable k [] (y ∷ ys) stable = value_at-with k y.value [] (y ∷ ys) stable
value_at-stable k (x ∷ xs) ys stable = value_at-with k x.value (x ∷ xs) ys stable

-- ---- the first entry that is not below the key

pub value_at-found : {T : Type 0} (k : ℕ) (es seen set : List (Entry T)) (n : ℕ) (e : Entry T) → seen ≡ es → es ≡ set → n < length es
    → IsPartitionPoint (λ e. nat_lt e.key k ≡ true) (λ e. nat_lt e.key k ≡ false) seen n
    → e ≡ slice_index_or es n e → e.key ≡ k
    → Some e.value ≡ value_at k set
value_at-found {T} k es seen set n e same is within point at has =
    let p : (Entry T → Bool) = λ x. x.key == k in
    let key : (Entry T → ℕ) = λ x. x.key in
    let here : p (slice_index_or es n e) ≡ true = eq-eqb _ k (sym (ap key at) ∙ has) in
    let early : ((i : ℕ) → i < n → p (slice_index_or es i e) ≡ false) =
    λ i lt. ne_eqb _ k (λ eq. absurd (omega (arith, ltb-true _ k (subst (λ xs. nat_lt (slice_index_or xs i e).key k ≡ true) same (point.0 i e (omega arith) lt))))) in
    ap (λ (x : Entry T). Some x.value) at ∙ sym (ap (option_map (λ x. x.value)) (find-first p es n e within early here)) ∙ ap (value_at k) is

pub value_at-none : {T : Type 0} (k : ℕ) (es seen set : List (Entry T)) (n : ℕ) → seen ≡ es → es ≡ set → IsNonDecreasingBy (λ e. e.key) es
    → IsPartitionPoint (λ e. nat_lt e.key k ≡ true) (λ e. nat_lt e.key k ≡ false) seen n
    → ((d : Entry T) → n < length es → (slice_index_or es n d).key ≡ k → ⊥)
    → None ≡ value_at k set
value_at-none {T} k es seen set n same is up point other =
    let p : (Entry T → Bool) = λ x. x.key == k in
    let long : length seen ≡ length es = ap length same in
    sym
    (ap (option_map (λ x. x.value))
    (find-nothing p es
    (λ i d within. ne_eqb _ k (λ eq. by i d within eq long (cases_lt i n)))))
    ∙ ap (value_at k) is
  where
    by : (i : ℕ) (d : Entry T) → i < length es → (slice_index_or es i d).key ≡ k → length seen ≡ length es → (i < n) ⊎ (n ≤ i) → ⊥
    by i d within eq long (inl before) =
        let below = ltb-true _ k (subst (λ xs. nat_lt (slice_index_or xs i d).key k ≡ true) same (point.0 i d (omega arith) before)) in
        absurd (omega arith)
    by i d within eq long (inr after) =
        let least = ltb-false _ k (subst (λ xs. nat_lt (slice_index_or xs n d).key k ≡ false) same (point.1 n d (omega arith) (omega arith))) in
        let most = up n i d after within in
        other d (omega arith) (omega arith)

-- Runs that have no key in common.
use Rattle.std.proofs.Common.{◌≡◌, ◌∙◌, ◌-◌, ◌<◌, ◌≤◌, ◌⊎◌, ◌∷◌, [], ℕ, Bool, List, None, Option, Some, ap, arith, cond, false, filter, find, inl, inr, length, nat_lt, option_map, refl, slice_index_or, subst, suc, sym, true, zero}
use Rattle.std.specs.List.{Contains, count_by}
use Rattle.std.specs.List.Sorted.{IsNonDecreasingBy, IsPartitionPoint, IsPermutation}
use Rattle.std.proofs.lemmas.Bool.{both_ways, cases_Bool, cases_lt, leb-true, ltb-false, ltb-true}
use Rattle.std.proofs.lemmas.Bool.Decides.{nat_tests}
use Rattle.std.proofs.lemmas.List.{get_or_default}
use Rattle.std.proofs.lemmas.List.Elements.{filter_passes}
use Rattle.std.proofs.lemmas.List.Sorted.{All-permutation, Contains-permutation, IsPermutation-sym, sum_by-IsPermutation}
use Rattle.vpc_base.proofs.Members.{Contains-cases, Contains-none, filter-member, find-None, find-member, find_none}
use Rattle.vpc_base.proofs.Tests.{count_by-cons, find-kept}
use Rattle.number_tables.specs.declared.runs.KeyRun.{KeyRun}
use Rattle.number_tables.specs.Runs.{AreApart, AreRuns, IsStretch, has_key, has_some, value_of}
use Rattle.number_tables.proofs.Searching.{find-nothing}

-- ---- items that pass a test at most once

pub one-passes : {X : Type 0} (p : X → Bool) (xs : List X) (j : ℕ) (d : X) → j < length xs → p (slice_index_or xs j d) ≡ true → 1 ≤ count_by p xs
one-passes p [] j d within passes = absurd (omega arith)
one-passes p (x ∷ xs) zero d within passes =
    let all = count_by-cons p x xs in
    let here : cond {A = ℕ} (p x) 1 0 ≡ 1 = ap {B = ℕ} (λ b. cond b 1 0) passes in
    omega arith
one-passes p (x ∷ xs) (suc j) d within passes =
    let all = count_by-cons p x xs in
    let rest = one-passes p xs j d (omega arith) passes in
    omega arith

pub two-pass : {X : Type 0} (p : X → Bool) (xs : List X) (i j : ℕ) (d e : X) → i < j → j < length xs → p (slice_index_or xs i d) ≡ true → p (slice_index_or xs j e) ≡ true → 2 ≤ count_by p xs
two-pass p [] i j d e lt within one other = absurd (omega arith)
two-pass p (x ∷ xs) i zero d e lt within one other = absurd (omega arith)
two-pass p (x ∷ xs) zero (suc j) d e lt within one other =
    let all = count_by-cons p x xs in
    let here : cond {A = ℕ} (p x) 1 0 ≡ 1 = ap {B = ℕ} (λ b. cond b 1 0) one in
    let rest = one-passes p xs j e (omega arith) other in
    omega arith
two-pass p (x ∷ xs) (suc i) (suc j) d e lt within one other =
    let all = count_by-cons p x xs in
    let rest = two-pass p xs i j d e (omega arith) (omega arith) one other in
    omega arith

-- the one that passes is found
pub find-only : {X : Type 0} (p : X → Bool) (xs : List X) (x : X) → count_by p xs ≤ 1 → Contains xs x → p x ≡ true → find p xs ≡ Some x
find-only p [] x most has passes = absurd (Contains-none x has)
find-only p (y ∷ ys) x most has passes =
    let all = count_by-cons p y ys in
    elim (cases_Bool (p y)) [
      | inl here ↦
          elim (Contains-cases y x ys has) [
            | inl same ↦ rw here (ap Some same)
            | inr later ↦
                let first : cond {A = ℕ} (p y) 1 0 ≡ 1 = ap {B = ℕ} (λ b. cond b 1 0) here in
                let second = one-passes p ys later.0 x later.1 (subst (λ z. p z ≡ true) (sym later.2) passes) in
                absurd (omega arith)
          ]
      | inr fails ↦
          elim (Contains-cases y x ys has) [
            | inl same ↦ absurd (both_ways (p y) fails (ap p same ∙ passes))
            | inr later ↦ let rest : count_by p ys ≤ 1 = omega arith in rw fails (find-only p ys x rest later passes)
          ]
    ]

-- and it is found in any order
pub find-permuted : {X : Type 0} (p : X → Bool) (xs ys : List X) → IsPermutation xs ys → count_by p xs ≤ 1 → find p ys ≡ find p xs
find-permuted {X} p xs ys same most = by (find p xs) refl
  where
    by : (o : Option X) → find p xs ≡ o → find p ys ≡ find p xs
    by None none = find_none p ys (λ x has. find-None p xs x none (Contains-permutation ys xs x (IsPermutation-sym xs ys same) has)) ∙ sym none
    by (Some x) found =
        let member = find-member p xs x found in
        let sums = sum_by-IsPermutation (λ y. cond (p y) 1 0) xs ys same in
        find-only p ys x (omega arith) (Contains-permutation xs ys x same member.1) member.0 ∙ sym found

pub count_by-filter : {X : Type 0} (p d : X → Bool) (xs : List X) → count_by p (filter d xs) ≤ count_by p xs
count_by-filter p d [] = omega arith
count_by-filter p d (x ∷ xs) =
    let all = count_by-cons p x xs in
    let rest = count_by-filter p d xs in
    elim (cases_Bool (d x)) [
      | inl kept ↦ let some = count_by-cons p x (filter d xs) in rw kept (omega arith)
      | inr dropped ↦ rw dropped (omega arith)
    ]

-- ---- runs in order

-- what has a key isn't empty
key-some : {T : Type 0} (k : ℕ) (r : KeyRun T) → has_key k r ≡ true → has_some r ≡ true
key-some k r has = grind (arith, nat_tests)

pub are_runs-sorted : {T : Type 0} (given sorted : List (KeyRun T)) → AreApart given → IsPermutation (filter has_some given) sorted → IsNonDecreasingBy (λ r. r.last) sorted → AreRuns sorted
are_runs-sorted given sorted apart same up = record {
  some = All-permutation (λ r. has_some r ≡ true) (filter has_some given) sorted same (filter_passes has_some given);
  apart = λ k.
      let sums = sum_by-IsPermutation (λ r. cond (has_key k r) 1 0) (filter has_some given) sorted same in
      let fewer = count_by-filter (has_key k) has_some given in
      let one = apart k in
      omega arith;
  ascend = up;
}

pub value_of-sorted : {T : Type 0} (k : ℕ) (given sorted : List (KeyRun T)) → AreApart given → IsPermutation (filter has_some given) sorted → value_of k sorted ≡ value_of k given
value_of-sorted k given sorted apart same =
    let fewer = count_by-filter (has_key k) has_some given in
    let one = apart k in
    ap (option_map (λ r. r.value))
    (find-permuted (has_key k) (filter has_some given) sorted same (omega arith) ∙ find-kept (has_key k) has_some (key-some k) given)

-- what is there was given
pub member-sorted : {T : Type 0} (given sorted : List (KeyRun T)) (r : KeyRun T) → IsPermutation (filter has_some given) sorted → Contains sorted r → Contains given r
member-sorted given sorted r same has = (filter-member has_some given r (Contains-permutation sorted (filter has_some given) r (IsPermutation-sym (filter has_some given) sorted same) has)).1

-- ---- the first run that doesn't end before the key

has-key : {T : Type 0} (k : ℕ) (r : KeyRun T) → r.first ≤ k → k ≤ r.last → has_key k r ≡ true
has-key k r from to = grind (arith, nat_tests)

ends-before : {T : Type 0} (k : ℕ) (r : KeyRun T) → r.last < k → has_key k r ≡ false
ends-before k r before = grind (arith, nat_tests)

has-from : {T : Type 0} (k : ℕ) (r : KeyRun T) → has_key k r ≡ true → r.first ≤ k
has-from k r has = grind (arith, nat_tests)

-- no run has a key before which the first ones end, where the next one begins after it
pub none-at : {T : Type 0} (k : ℕ) (runs : List (KeyRun T)) (n : ℕ) → AreRuns runs → ((i : ℕ) (d : KeyRun T) → i < n → i < length runs → (slice_index_or runs i d).last < k)
    → ((d : KeyRun T) → n < length runs → k < (slice_index_or runs n d).first) → value_of k runs ≡ None
none-at {T} k runs n are ended later = ap (option_map (λ r. r.value)) (find-nothing (has_key k) runs (λ i d within. by i d within (cases_lt i n)))
  where
    after : (i : ℕ) (d : KeyRun T) → i < length runs → (n < i) ⊎ (i ≤ n) → n ≤ i → (has_key k (slice_index_or runs i d) ≡ true) → ⊥
    after i d within (inl past) le has =
        let r = slice_index_or runs n d in
        let begins = later d (omega arith) in
        let some : r.first ≤ r.last = leb-true _ _ (are.some n d (omega arith)) in
        let ends : r.last ≤ (slice_index_or runs i d).last = are.ascend n i d le within in
        let from = has-from k (slice_index_or runs i d) has in
        let both = two-pass (has_key r.last) runs n i d d past within (has-key r.last r some (omega arith)) (has-key r.last (slice_index_or runs i d) (omega arith) ends) in
        let one = are.apart r.last in
        omega arith
    after i d within (inr ge) le has =
        let here : i ≡ n = omega arith in
        let begins = later d (omega arith) in
        let from = has-from k (slice_index_or runs n d) (subst (λ m. has_key k (slice_index_or runs m d) ≡ true) here has) in
        omega arith

    by : (i : ℕ) (d : KeyRun T) → i < length runs → (i < n) ⊎ (n ≤ i) → has_key k (slice_index_or runs i d) ≡ false
    by i d within (inl before) = ends-before k (slice_index_or runs i d) (ended i d before within)
    by i d within (inr le) =
        elim (cases_Bool (has_key k (slice_index_or runs i d))) [
          | inl has ↦ absurd (after i d within (cases_lt n i) le has)
          | inr lacks ↦ lacks
        ]

-- the first runs that a search passes end before the key
abbrev pub IsPlace : {T : Type 0} → ℕ → List (KeyRun T) → ℕ → Type 0
IsPlace k seen n = IsPartitionPoint (λ r. nat_lt r.last k ≡ true) (λ r. nat_lt r.last k ≡ false) seen n

ended-before : {T : Type 0} (k : ℕ) (runs seen : List (KeyRun T)) (n : ℕ) → seen ≡ runs → IsPlace k seen n → (i : ℕ) (d : KeyRun T) → i < n → (slice_index_or runs i d).last < k
ended-before k runs seen n same point i d lt = ltb-true _ k (subst (λ xs. nat_lt (slice_index_or xs i d).last k ≡ true) same (point.0 i d (omega arith) lt))

-- ---- how far keys are alike

-- up to the end of the run that has the key
pub stretch-in : {T : Type 0} (k : ℕ) (runs seen set : List (KeyRun T)) (n : ℕ) (r : KeyRun T) → seen ≡ runs → runs ≡ set → AreRuns runs → n < length runs → IsPlace k seen n
    → r ≡ slice_index_or runs n r → r.first ≤ k → IsStretch set k (r.last, Some r.value)
stretch-in {T} k runs seen set n r same is are within point at begun =
    subst (λ rs. IsStretch rs k (r.last, Some r.value)) is
    (record {
      from = ended;
      alike = λ j from to. ap (option_map (λ (x : KeyRun T). x.value)) (find-only (has_key j) runs r (are.apart j) member (has-key j r (omega arith) to));
      ends = inr (r, member, inr refl);
    })
  where
    last : (KeyRun T → ℕ)
    last = λ x. x.last

    ended : k ≤ r.last
    ended = ltb-false r.last k (subst (λ x. nat_lt x.last k ≡ false) (sym at) (subst (λ xs. nat_lt (slice_index_or xs n r).last k ≡ false) same (point.1 n r (omega arith) (subst (λ (xs : List (KeyRun T)). n < length xs) (sym same) within))))

    member : Contains runs r
    member = (n, within, sym at)

-- up to the next run
pub stretch-before : {T : Type 0} (k : ℕ) (runs seen set : List (KeyRun T)) (n : ℕ) (r : KeyRun T) → seen ≡ runs → runs ≡ set → AreRuns runs → n < length runs → IsPlace k seen n
    → r ≡ slice_index_or runs n r → k < r.first → IsStretch set k (r.first - 1, None)
stretch-before {T} k runs seen set n r same is are within point at after =
    subst (λ rs. IsStretch rs k (r.first - 1, None)) is
    (record {
      from = omega arith;
      alike = λ j from to.
          none-at j runs n are (λ i d lt inside. let ended = ended-before k runs seen n same point i d lt in omega arith)
          (λ d inside. let first : r.first ≡ (slice_index_or runs n d).first = ap (λ (x : KeyRun T). x.first) (at ∙ get_or_default runs n r d inside) in omega arith);
      ends = inr (r, (n, within, sym at), inl (omega arith));
    })

-- up to the last number
pub stretch-rest : {T : Type 0} (k : ℕ) (runs seen set : List (KeyRun T)) (n : ℕ) → seen ≡ runs → runs ≡ set → AreRuns runs → length runs ≤ n → IsPlace k seen n → k ≤ 18446744073709551615
    → IsStretch set k (18446744073709551615, None)
stretch-rest {T} k runs seen set n same is are past point fits =
    subst (λ rs. IsStretch rs k (18446744073709551615, None)) is
    (record {
      from = fits;
      alike = λ j from to.
          none-at j runs n are (λ i d lt inside. let ended = ended-before k runs seen n same point i d lt in omega arith) (λ d inside. absurd (omega arith));
      ends = inl refl;
    })

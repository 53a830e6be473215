-- Joined runs have the addresses of the runs, and are apart.
use Rattle.std.proofs.Common.{◌≡◌, ◌∙◌, ◌||◌, ◌+◌, ◌<◌, ◌≤◌, ◌∷◌, [], ℕ, List, ap, arith, filter, inl, inr, nat_lt, refl, suc, sym, true}
use Rattle.std.specs.List.{AllByRecursion}
use Rattle.std.specs.List.Sorted.{IsNonDecreasingBy, IsPermutation}
use Rattle.std.proofs.lemmas.List.Elements.{All-from_recursion, filter_passes, recursion_from_All}
use Rattle.std.proofs.lemmas.List.Sorted.{All-permutation, list_any-IsPermutation}
use Rattle.std.proofs.lemmas.Map.Views.{any-filter_same}
use Rattle.std.proofs.lemmas.Bool.{cases_Bool, le-leb, leb-false, leb-true}
use Rattle.std.proofs.lemmas.Bool.Decides.{nat_tests}
use Rattle.std.proofs.Math.Bool.{or_assoc}
use Rattle.vpc_base.proofs.Members.{AllByRecursion-weaker}
use Rattle.address_sets.specs.declared.sets.Run.{Run}
use Rattle.address_sets.specs.Runs.{AreApart, AreRuns, has_some, is_in, is_of, joined_with, joins, runs_joined, with_last}

-- runs whose firsts ascend
abbrev pub Ascend : List Run → Type 0
Ascend [] = Unit {0}
Ascend (r ∷ rs) = AllByRecursion (λ s. r.first ≤ s.first) rs × Ascend rs

-- a run that meets the next one, up to the later of their ends, has the addresses of both
is_of-joined : (a : ℕ) (r s : Run) → r.first ≤ s.first → joins r s ≡ true → is_of a (with_last r s.last) ≡ (is_of a r || is_of a s)
is_of-joined a r s up meets = grind (arith, nat_tests)

-- a run keeps where it begins
first-with_last : (r : Run) (last : ℕ) → (with_last r last).first ≡ r.first
first-with_last r last = elim (cases_Bool (nat_lt r.last last)) [ inl longer ↦ rw longer refl | inr same ↦ rw same refl ]

ascend-joined : (r s : Run) (ss : List Run) → Ascend (r ∷ s ∷ ss) → Ascend (with_last r s.last ∷ ss)
ascend-joined r s ss up = (AllByRecursion-weaker (λ t. r.first ≤ t.first) (λ t. (with_last r s.last).first ≤ t.first) (λ t le. omega (arith, first-with_last r s.last)) ss up.0.1, up.1.1)

pub is_in-joined_with : (a : ℕ) (r : Run) (rs : List Run) → Ascend (r ∷ rs) → is_in a (joined_with r rs) ≡ (is_of a r || is_in a rs)
is_in-joined_with a r [] up = refl
is_in-joined_with a r (s ∷ ss) up =
    elim (cases_Bool (joins r s)) [
      | inl meets ↦
          rw meets
          (is_in-joined_with a (with_last r s.last) ss (ascend-joined r s ss up)
          ∙ ap (λ b. b || is_in a ss) (is_of-joined a r s up.0.0 meets)
          ∙ or_assoc (is_of a r) (is_of a s) (is_in a ss))
      | inr gap ↦ rw gap (ap (λ b. is_of a r || b) (is_in-joined_with a s ss up.1))
    ]

-- joined runs begin where the first of them does, or later
from-first : (b : ℕ) (r : Run) (rs : List Run) → b ≤ r.first → Ascend (r ∷ rs) → AllByRecursion (λ s. b ≤ s.first) (joined_with r rs)
from-first b r [] le up = (le, tt)
from-first b r (s ∷ ss) le up =
    elim (cases_Bool (joins r s)) [
      | inl meets ↦ rw meets (from-first b (with_last r s.last) ss (omega (arith, first-with_last r s.last)) (ascend-joined r s ss up))
      | inr gap ↦ rw gap (le, from-first b s ss (omega (arith, up.0.0)) up.1)
    ]

are_apart-joined_with : (r : Run) (rs : List Run) → Ascend (r ∷ rs) → AreApart (joined_with r rs)
are_apart-joined_with r [] up = (tt, tt)
are_apart-joined_with r (s ∷ ss) up =
    elim (cases_Bool (joins r s)) [
      | inl meets ↦ rw meets (are_apart-joined_with (with_last r s.last) ss (ascend-joined r s ss up))
      | inr gap ↦
          let before : r.first ≤ s.first = up.0.0 in
          let after : r.last + 1 < s.first = leb-false s.first (r.last + 1) gap in
          rw gap (
            AllByRecursion-weaker (λ t. s.first ≤ t.first) (λ t. (r.first ≤ t.first) × (r.last + 1 < t.first)) (λ t le. (omega arith, omega arith)) (joined_with s ss)
                (from-first s.first s ss (omega arith) up.1),
            are_apart-joined_with s ss up.1,
          )
    ]

-- and none of them is empty
some-with_last : (r : Run) (last : ℕ) → r.first ≤ r.last → (with_last r last).first ≤ (with_last r last).last
some-with_last r last some = grind (arith, nat_tests)

some-joined_with : (r : Run) (rs : List Run) → r.first ≤ r.last → AllByRecursion (λ s. s.first ≤ s.last) rs → AllByRecursion (λ s. s.first ≤ s.last) (joined_with r rs)
some-joined_with r [] some all = (some, tt)
some-joined_with r (s ∷ ss) some all =
    elim (cases_Bool (joins r s)) [
      | inl meets ↦ rw meets (some-joined_with (with_last r s.last) ss (some-with_last r s.last some) all.1)
      | inr gap ↦ rw gap (some, some-joined_with s ss all.0 all.1)
    ]

some-runs_joined : (runs : List Run) → AllByRecursion (λ s. s.first ≤ s.last) runs → AllByRecursion (λ s. s.first ≤ s.last) (runs_joined runs)
some-runs_joined [] all = tt
some-runs_joined (r ∷ rs) all = some-joined_with r rs all.0 all.1

-- sorted runs ascend
ascend-sorted : (runs : List Run) → IsNonDecreasingBy (λ r. r.first) runs → Ascend runs
ascend-sorted [] up = tt
ascend-sorted (r ∷ rs) up =
    (recursion_from_All (λ s. r.first ≤ s.first) rs (λ k d within. up 0 (suc k) d (omega arith) (omega arith)), ascend-sorted rs (λ i j d le within. up (suc i) (suc j) d (omega arith) (omega arith)))

is_in-joined : (a : ℕ) (given sorted : List Run) → IsPermutation given sorted → IsNonDecreasingBy (λ r. r.first) sorted → is_in a (runs_joined sorted) ≡ is_in a given
is_in-joined a given [] same up = sym (list_any-IsPermutation (is_of a) given [] same)
is_in-joined a given (r ∷ rs) same up = is_in-joined_with a r rs (ascend-sorted (r ∷ rs) up) ∙ sym (list_any-IsPermutation (is_of a) given (r ∷ rs) same)

are_apart-joined : (sorted : List Run) → IsNonDecreasingBy (λ r. r.first) sorted → AreApart (runs_joined sorted)
are_apart-joined [] up = tt
are_apart-joined (r ∷ rs) up = are_apart-joined_with r rs (ascend-sorted (r ∷ rs) up)

-- sorted runs that aren't empty, joined where they meet
pub are_runs-joined : (given sorted : List Run) → IsPermutation (filter has_some given) sorted → IsNonDecreasingBy (λ r. r.first) sorted → AreRuns (runs_joined sorted)
are_runs-joined given sorted same up =
    let some = All-permutation (λ r. has_some r ≡ true) (filter has_some given) sorted same (filter_passes has_some given) in
    record {
      apart = are_apart-joined sorted up;
      some = λ k d inside. le-leb _ _ (All-from_recursion (λ s. s.first ≤ s.last) (runs_joined sorted)
          (some-runs_joined sorted (recursion_from_All (λ s. s.first ≤ s.last) sorted (λ j e within. leb-true _ _ (some j e within)))) k d inside);
    }

-- an empty run has no address
is_of-some : (a : ℕ) (r : Run) → is_of a r ≡ true → has_some r ≡ true
is_of-some a r of = grind (arith, nat_tests)

pub is_in-joined_some : (a : ℕ) (given sorted : List Run) → IsPermutation (filter has_some given) sorted → IsNonDecreasingBy (λ r. r.first) sorted
    → is_in a (runs_joined sorted) ≡ is_in a given
is_in-joined_some a given sorted same up = is_in-joined a (filter has_some given) sorted same up ∙ any-filter_same (is_of a) has_some true (is_of-some a) given

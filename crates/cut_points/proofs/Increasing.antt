-- Strictly increasing lists.
use Rattle.std.proofs.Common.{◌+◌, ◌≡◌, ◌<◌, ℕ, Bool, true, List, [], ◌∷◌, arith, zero, suc}
use Rattle.std.specs.BTreeSet.{BTreeSet, contains}
use Rattle.std.specs.List.{Contains, filter, list_any, range_with_len}
use Rattle.std.specs.List.Sorted.{IsStrictlyIncreasing}
use Rattle.std.specs.Ordering.{nat_cmp}
use Rattle.std.specs.Prelude.{nat_eq}
use Rattle.std.proofs.lemmas.Cmp.{nat_cmp_total, nat_eq_equiv}
use Rattle.std.proofs.lemmas.List.Elements.{All-contains, All-contains_itself, All-filter, filter_passes}
use Rattle.std.proofs.lemmas.List.FromFn.{get_or-range_with_len, length-range_with_len}
use Rattle.std.proofs.lemmas.List.Kept.{IsStrictlyIncreasing-filter}
use Rattle.std.proofs.lemmas.Map.Keys.{sorted_from_strictly_increasing}
use Rattle.std.proofs.lemmas.Map.Lookups.{btree_set_from_contains, exact_unsigned}
use Rattle.std.proofs.lemmas.Map.Views.{Contains-from_any, btree_set_contains_iff, exact_unsigned_eq, list_any-from_Contains}
use Rattle.std.specs.Cmp.Derive.{one_truth}
use Rattle.vpc_base.proofs.Members.{Contains-filter}
use Rattle.cut_laws.proofs.Among.{Within}

-- what a test keeps stands in the list
pub from_filter : (p : ℕ → Bool) (xs : List ℕ) → Within (filter p xs) xs
from_filter p xs c h = All-contains (Contains xs) (filter p xs) c (All-filter p (Contains xs) xs (All-contains_itself xs)) h

-- what a test keeps of a list is kept of another that has what passes the test
pub kept_within : (p : ℕ → Bool) (xs ys : List ℕ) → ((c : ℕ) → p c ≡ true → Contains xs c → Contains ys c) → Within (filter p xs) (filter p ys)
kept_within p xs ys there c h =
    let passes = All-contains (λ n. p n ≡ true) (filter p xs) c (filter_passes p xs) h in
    Contains-filter p ys c (there c passes (from_filter p xs c h)) passes

-- ---- increasing lists with the same members are the same

-- the list as a set of std, whose keys ascend
abbrev set_of : List ℕ → BTreeSet ℕ
set_of xs = record { keys = xs }

pub same_list : (xs ys : List ℕ) → IsStrictlyIncreasing xs → IsStrictlyIncreasing ys → Within xs ys → Within ys xs → xs ≡ ys
same_list xs ys up_x up_y there back =
    let has_x = btree_set_contains_iff nat_cmp_total exact_unsigned (set_of xs) in
    let has_y = btree_set_contains_iff nat_cmp_total exact_unsigned (set_of ys) in
    btree_set_from_contains nat_cmp_total (set_of xs) (set_of ys)
    (sorted_from_strictly_increasing xs up_x)
    (sorted_from_strictly_increasing ys up_y)
    (λ c. one_truth (contains nat_cmp (set_of xs) c) (contains nat_cmp (set_of ys) c)
    (λ t. (has_y c).1 (there c ((has_x c).0 t)))
    (λ t. (has_x c).1 (back c ((has_y c).0 t))))
    exact_unsigned

-- ---- each list has an increasing list with its members

-- a number above each number of the list
abbrev above : List ℕ → ℕ
above [] = 0
above (x ∷ xs) = x + 1 + above xs

above-is : (xs : List ℕ) (c : ℕ) → Contains xs c → c < above xs
above-is [] c (k, below, e) = absurd (omega arith)
above-is (x ∷ xs) c (zero, below, e) = let same : x ≡ c = e in omega arith
above-is (x ∷ xs) c (suc k, below, e) = let rest = above-is xs c (k, omega arith, e) in omega arith

range_increases : (a n : ℕ) → IsStrictlyIncreasing (range_with_len a n)
range_increases a n k below =
    let l = length-range_with_len a n in
    let here = get_or-range_with_len a n k 0 (omega arith) in
    let next = get_or-range_with_len a n (k + 1) 0 (omega arith) in
    omega arith

in_range : (n c : ℕ) → c < n → Contains (range_with_len 0 n) c
in_range n c lt = (c, omega (arith, length-range_with_len 0 n), omega (arith, get_or-range_with_len 0 n c c lt))

-- the numbers of the list in ascending order, each once
pub increasing : List ℕ → List ℕ
increasing xs = filter (λ c. list_any (nat_eq c) xs) (range_with_len 0 (above xs))

pub increasing-increases : (xs : List ℕ) → IsStrictlyIncreasing (increasing xs)
unfolding increasing
increasing-increases xs = IsStrictlyIncreasing-filter (λ c. list_any (nat_eq c) xs) (range_with_len 0 (above xs)) (range_increases 0 (above xs))

pub increasing-no_others : (xs : List ℕ) → Within (increasing xs) xs
unfolding increasing
increasing-no_others xs c h =
    Contains-from_any exact_unsigned_eq c xs
    (All-contains (λ c. list_any (nat_eq c) xs ≡ true) (increasing xs) c (filter_passes (λ c. list_any (nat_eq c) xs) (range_with_len 0 (above xs))) h)

pub increasing-all : (xs : List ℕ) → Within xs (increasing xs)
unfolding increasing
increasing-all xs c h =
    Contains-filter (λ c. list_any (nat_eq c) xs) (range_with_len 0 (above xs)) c
    (in_range (above xs) c (above-is xs c h))
    (list_any-from_Contains nat_eq_equiv c xs h)

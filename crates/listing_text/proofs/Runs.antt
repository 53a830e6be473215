-- The sides of some addresses and blocks: what a set of the blocks has, in ascending order.
use Rattle.std.proofs.Common.{◌≡◌, ◌≢◌, ◌==◌, ◌∙◌, ◌↔◌, ◌⊎◌, ◌++◌, ◌+◌, ◌-◌, ◌<◌, ◌≤◌, ◌∷◌, [], AllPairs, Bool, Contains, List, ap, arith, false, filter, get_or, inl, inr, map, not, refl, subst, sym, true, ℕ}
use Rattle.std.specs.List.{IsDistinct}
use Rattle.std.specs.List.Sorted.{IsNonDecreasingBy, IsPermutation, IsStrictlyIncreasing}
use Rattle.std.proofs.lemmas.Bool.{cases_lt, ne_eqb, false_from_ne_true, false≢true, leb-true}
use Rattle.std.proofs.lemmas.Bool.Decides.{nat_tests}
use Rattle.std.proofs.lemmas.List.Elements.{All-contains, All-contains_itself, Contains-append_cases, Contains-append_left, Contains-append_right}
use Rattle.std.proofs.lemmas.List.Kept.{AllPairs-from_increasing, IsStrictlyIncreasing-filter}
use Rattle.std.proofs.lemmas.List.Sorted.{Contains-permutation, IsPermutation-sym}
use Rattle.std.proofs.lemmas.Map.Keys.{IsDistinct-IsPermutation, IsDistinct-from_apart, apart_from_distinct}
use Rattle.vpc_base.proofs.Members.{AllByRecursion-at, Contains-cases, Contains-filter, Contains-map, Contains-none, filter-member, list_any-member, map-member, member-list_any}
use Rattle.vpc_base.proofs.Numbers.{eqb-comm}
use Rattle.vpc_base.proofs.Pairs.{AllPairs-joined, AllPairs-map}
use Rattle.address_sets.proofs.Stretches.{gap-between}
use Rattle.address_sets.specs.Runs.{AreApart, AreRuns, has_some, is_in, is_of}
use Rattle.address_sets.specs.declared.sets.Run.{Run}
use Rattle.prefix_text.specs.Block.{Block}
use Rattle.listing_text.specs.Sides.{AreSidesOf, IsLone, IsWholeRun, alone, is_held, side_of}

-- ---- runs that are apart

in_run : (b : ℕ) (r : Run) → r.first ≤ b → b ≤ r.last → is_of b r ≡ true
in_run b r from to = grind (arith, nat_tests)

from_first : (b : ℕ) (r : Run) → is_of b r ≡ true → r.first ≤ b
from_first b r of = grind (arith, nat_tests)

to_last : (b : ℕ) (r : Run) → is_of b r ≡ true → b ≤ r.last
to_last b r of = grind (arith, nat_tests)

-- two of them are one, or there is a gap between them
abbrev WithGap : Run → Run → Type 0
WithGap r s = (r.last + 1 < s.first) ⊎ (s.last + 1 < r.first)

gaps : (runs : List Run) (r s : Run) → AreApart runs → Contains runs r → Contains runs s → (r ≡ s) ⊎ WithGap r s
gaps [] r s apart in_r in_s = absurd (Contains-none r in_r)
gaps (x ∷ xs) r s apart in_r in_s = by (gaps xs r s apart.1) (Contains-cases x r xs in_r) (Contains-cases x s xs in_s)
  where
    after : (t : Run) → Contains xs t → x.last + 1 < t.first
    after t later = (AllByRecursion-at (λ u. (x.first ≤ u.first) × (x.last + 1 < u.first)) xs t apart.0 later).1

    by : (Contains xs r → Contains xs s → (r ≡ s) ⊎ WithGap r s) → (x ≡ r) ⊎ Contains xs r → (x ≡ s) ⊎ Contains xs s → (r ≡ s) ⊎ WithGap r s
    by rest (inl one) (inl other) = inl (sym one ∙ other)
    by rest (inl one) (inr later) = inr (inl (subst (λ (t : Run). t.last + 1 < s.first) one (after s later)))
    by rest (inr later) (inl other) = inr (inr (subst (λ (t : Run). t.last + 1 < r.first) other (after r later)))
    by rest (inr later) (inr also) = rest later also

module _ (runs : List Run) (are : AreRuns runs) where
  some_of : (r : Run) → Contains runs r → r.first ≤ r.last
  some_of r in_r = leb-true r.first r.last (All-contains (λ s. has_some s ≡ true) runs r are.some in_r)

  -- the addresses beside a run are in none
  outside : (r : Run) (b : ℕ) → Contains runs r → (b + 1 ≡ r.first) ⊎ (b ≡ r.last + 1) → is_in b runs ≡ false
  outside r b in_r beside = false_from_ne_true (is_in b runs) (λ is. let at = list_any-member (is_of b) runs is in by at.0 (at.2) beside (gaps runs r at.0 are.apart in_r at.1))
    where
      some : r.first ≤ r.last
      some = some_of r in_r

      by : (s : Run) → is_of b s ≡ true → (b + 1 ≡ r.first) ⊎ (b ≡ r.last + 1) → (r ≡ s) ⊎ WithGap r s → ⊥
      by s of (inl before) (inl same) = let from = subst (λ (t : Run). t.first ≤ b) (sym same) (from_first b s of) in omega (arith, from, before)
      by s of (inr after) (inl same) = let to = subst (λ (t : Run). b ≤ t.last) (sym same) (to_last b s of) in omega (arith, to, after)
      by s of (inl before) (inr (inl gap)) = let from = from_first b s of in omega (arith, from, before, gap, some)
      by s of (inl before) (inr (inr gap)) = let to = to_last b s of in omega (arith, to, before, gap)
      by s of (inr after) (inr (inl gap)) = let from = from_first b s of in omega (arith, from, after, gap)
      by s of (inr after) (inr (inr gap)) = let to = to_last b s of in omega (arith, to, after, gap, some)

-- ---- those of blocks

abbrev pair : ℕ → ℕ → ℕ × ℕ
pair a b = (a, b)

pair_is : (a b c d : ℕ) → a ≡ c → b ≡ d → pair a b ≡ pair c d
pair_is a b c d one other = ap (λ x. pair x b) one ∙ ap (pair c) other

module _ (blocks : List Block) (runs : List Run) (are : AreRuns runs) (same : (a : ℕ) → is_in a runs ≡ is_held blocks a) where
  held_in : (r : Run) (a : ℕ) → Contains runs r → r.first ≤ a → a ≤ r.last → is_held blocks a ≡ true
  held_in r a in_r from to = sym (same a) ∙ member-list_any (is_of a) runs r in_r (in_run a r from to)

  free_beside : (r : Run) (a : ℕ) → Contains runs r → (a + 1 ≡ r.first) ⊎ (a ≡ r.last + 1) → is_held blocks a ≡ false
  free_beside r a in_r beside = sym (same a) ∙ outside runs are r a in_r beside

  -- a run is whole
  run_is_whole : (r : Run) → Contains runs r → IsWholeRun blocks (side_of r)
  run_is_whole r in_r = record {
    some = some_of runs are r in_r;
    held = λ a from to. held_in r a in_r from to;
    before = λ a next. free_beside r a in_r (inl next);
    after = free_beside r (r.last + 1) in_r (inr refl);
  }

  -- and a whole run is one of them
  first_of : (s : ℕ × ℕ) (r : Run) → IsWholeRun blocks s → Contains runs r → r.first ≤ s.0 → s.0 ≤ r.last → r.first ≡ s.0
  first_of s r whole in_r from to = by (cases_lt r.first s.0)
    where
      by : (r.first < s.0) ⊎ (s.0 ≤ r.first) → r.first ≡ s.0
      by (inl lt) =
          let free = whole.before (s.0 - 1) (omega (arith, lt)) in
          absurd (false≢true (sym free ∙ held_in r (s.0 - 1) in_r (omega (arith, lt)) (omega (arith, to))))
      by (inr le) = omega (arith, le, from)

  last_of : (s : ℕ × ℕ) (r : Run) → IsWholeRun blocks s → Contains runs r → r.first ≤ s.0 → s.0 ≤ r.last → r.last ≡ s.1
  last_of s r whole in_r from to = by (cases_lt r.last s.1) (cases_lt s.1 r.last)
    where
      some : s.0 ≤ s.1
      some = whole.some

      by : (r.last < s.1) ⊎ (s.1 ≤ r.last) → (s.1 < r.last) ⊎ (r.last ≤ s.1) → r.last ≡ s.1
      by (inl lt) other =
          absurd (false≢true (sym (free_beside r (r.last + 1) in_r (inr refl)) ∙ whole.held (r.last + 1) (omega (arith, to)) (omega (arith, lt))))
      by (inr le) (inl lt) = absurd (false≢true (sym whole.after ∙ held_in r (s.1 + 1) in_r (omega (arith, from, some)) (omega (arith, lt))))
      by (inr le) (inr ge) = omega (arith, le, ge)

  whole_is_run : (s : ℕ × ℕ) → IsWholeRun blocks s → Contains (map side_of runs) s
  whole_is_run s whole =
      let at = list_any-member (is_of s.0) runs (same s.0 ∙ whole.held s.0 (omega arith) whole.some) in
      let from = from_first s.0 at.0 at.2 in
      let to = to_last s.0 at.0 at.2 in
      subst (Contains (map side_of runs))
      (pair_is at.0.first at.0.last s.0 s.1 (first_of s at.0 whole at.1 from to) (last_of s at.0 whole at.1 from to))
      (Contains-map side_of runs at.0 at.1)

-- ---- beside lone addresses

is_lacked : (b : Bool) → not b ≡ true → b ≡ false
is_lacked true is = sym is
is_lacked false is = refl

-- a side that begins before another ends before it
ends_before : (addresses : List ℕ) (blocks : List Block) (s t : ℕ × ℕ) → IsLone addresses blocks s ⊎ IsWholeRun blocks s
    → IsLone addresses blocks t ⊎ IsWholeRun blocks t → s.0 < t.0 → s.1 < t.0
ends_before addresses blocks s t (inl lone) other lt = let one = lone.one in omega (arith, one, lt)
ends_before addresses blocks s t (inr whole) other lt = by other (cases_lt s.1 t.0)
  where
    by : IsLone addresses blocks t ⊎ IsWholeRun blocks t → (s.1 < t.0) ⊎ (t.0 ≤ s.1) → s.1 < t.0
    by is (inl less) = less
    by (inl lone) (inr within) = absurd (false≢true (sym lone.free ∙ whole.held t.0 (omega (arith, lt)) within))
    by (inr also) (inr within) =
        absurd (false≢true (sym (also.before (t.0 - 1) (omega (arith, lt))) ∙ whole.held (t.0 - 1) (omega (arith, lt)) (omega (arith, within))))

module _ (addresses : List ℕ) (blocks : List Block) (order : List ℕ) (runs : List Run) (up : IsStrictlyIncreasing order)
    (once : (a : ℕ) → Contains order a ↔ Contains addresses a) (are : AreRuns runs) (same : (a : ℕ) → is_in a runs ≡ is_held blocks a) where
  abbrev free : List ℕ
  free = filter (λ a. not (is_in a runs)) order

  abbrev all : List (ℕ × ℕ)
  all = map alone free ++ map side_of runs

  abbrev IsOne : ℕ × ℕ → Type 0
  IsOne s = IsLone addresses blocks s ⊎ IsWholeRun blocks s

  free_is_lone : (s : ℕ × ℕ) → Contains (map alone free) s → IsLone addresses blocks s
  free_is_lone s in_s =
      let at = map-member alone free s in_s in
      let kept = filter-member (λ a. not (is_in a runs)) order at.0 at.1 in
      subst (IsLone addresses blocks) at.2 (record {
        among = (once at.0).0 kept.1;
        free = sym (same at.0) ∙ is_lacked (is_in at.0 runs) kept.0;
        one = refl;
      })

  lone_is_free : (s : ℕ × ℕ) → IsLone addresses blocks s → Contains (map alone free) s
  lone_is_free s lone =
      subst (Contains (map alone free)) (pair_is s.0 s.0 s.0 s.1 refl (sym lone.one))
      (Contains-map alone free s.0 (Contains-filter (λ a. not (is_in a runs)) order s.0 ((once s.0).1 lone.among) (ap not (same s.0 ∙ lone.free))))

  one_is : (s : ℕ × ℕ) → Contains all s → IsOne s
  one_is s in_all = by (Contains-append_cases (map alone free) (map side_of runs) s in_all)
    where
      by : Contains (map alone free) s ⊎ Contains (map side_of runs) s → IsOne s
      by (inl here) = inl (free_is_lone s here)
      by (inr there) = let at = map-member side_of runs s there in inr (subst (IsWholeRun blocks) at.2 (run_is_whole blocks runs are same at.0 at.1))

  is_one : (s : ℕ × ℕ) → IsOne s → Contains all s
  is_one s (inl lone) = Contains-append_left (map alone free) (map side_of runs) s (lone_is_free s lone)
  is_one s (inr whole) = Contains-append_right (map alone free) (map side_of runs) s (whole_is_run blocks runs are same s whole)

  -- no two begin at one address
  abbrev begin_together : ℕ × ℕ → ℕ × ℕ → Bool
  begin_together s t = s.0 == t.0

  differ : (s t : ℕ × ℕ) → s.0 ≢ t.0 → begin_together s t ≡ false
  differ s t other = ne_eqb s.0 t.0 other

  begin_apart : AllPairs (λ s t. begin_together s t ≡ false) all
  begin_apart =
      AllPairs-joined (λ s t. begin_together s t ≡ false) (map alone free) (map side_of runs)
      (AllPairs-map (λ s t. begin_together s t ≡ false) alone free
      (λ i j d lt inside.
      let rise = AllPairs-from_increasing free (IsStrictlyIncreasing-filter (λ a. not (is_in a runs)) order up) i j d lt inside in
      differ (alone (get_or free i d)) (alone (get_or free j d)) (λ is. omega (arith, rise, is))))
      (AllPairs-map (λ s t. begin_together s t ≡ false) side_of runs
      (λ i j d lt inside.
      let gap = gap-between runs i j d d are.apart lt inside in
      let some = leb-true (get_or runs i d).first (get_or runs i d).last (are.some i d (omega (arith, lt, inside))) in
      differ (side_of (get_or runs i d)) (side_of (get_or runs j d)) (λ is. omega (arith, gap, some, is))))
      (λ k d lt m e below.
      across (get_or (map alone free) k d) (get_or (map side_of runs) m e) (All-contains_itself (map alone free) k d lt) (All-contains_itself (map side_of runs) m e below))
    where
      across : (s t : ℕ × ℕ) → Contains (map alone free) s → Contains (map side_of runs) t → begin_together s t ≡ false
      across s t in_s in_t =
          let lone = free_is_lone s in_s in
          let at = map-member side_of runs t in_t in
          let whole = subst (IsWholeRun blocks) at.2 (run_is_whole blocks runs are same at.0 at.1) in
          differ s t (λ is. false≢true (sym lone.free ∙ whole.held s.0 (omega (arith, is)) (let some = whole.some in omega (arith, is, some))))

  pub are_sides : (sides : List (ℕ × ℕ)) → IsPermutation all sides → IsNonDecreasingBy (λ s. s.0) sides → AreSidesOf addresses blocks sides
  are_sides sides moved sorted = record {
    ascending = λ i j d lt inside.
        let differ = apart_from_distinct begin_together sides i j d still lt inside in
        let le = sorted i j d (omega (arith, lt)) inside in
        ends_before addresses blocks (get_or sides i d) (get_or sides j d)
        (from_sides (get_or sides i d) (All-contains_itself sides i d (omega (arith, lt, inside)))) (from_sides (get_or sides j d) (All-contains_itself sides j d inside))
        (less (get_or sides i d) (get_or sides j d) le differ);
    members = λ s. (from_sides s, (λ is. Contains-permutation all sides s moved (is_one s is)));
  }
    where
      still : IsDistinct begin_together sides
      still = IsDistinct-IsPermutation begin_together (λ s t. eqb-comm s.0 t.0) all sides moved (IsDistinct-from_apart begin_together all begin_apart)

      from_sides : (s : ℕ × ℕ) → Contains sides s → IsOne s
      from_sides s h = one_is s (Contains-permutation sides all s (IsPermutation-sym all sides moved) h)

      less : (s t : ℕ × ℕ) → s.0 ≤ t.0 → begin_together s t ≡ false → s.0 < t.0
      less s t le other = grind (arith, nat_tests)

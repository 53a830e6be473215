-- The last run that begins at or before an address tells whether the runs have it.
use Rattle.std.proofs.Common.{◌≡◌, ◌∙◌, ◌||◌, ◌+◌, ◌-◌, ◌<◌, ◌≤◌, ◌∷◌, [], ℕ, Bool, List, ap, arith, false, length, nat_le, nat_lt, refl, slice_index_or, subst, suc, sym, true, zero}
use Rattle.std.specs.List.{AllByRecursion}
use Rattle.std.specs.List.Sorted.{IsNonDecreasingBy, IsPartitionPoint}
use Rattle.std.proofs.lemmas.Bool.{and_left, and_right, le-leb, le-ltb, leb-false, leb-true, lt-leb, or_from}
use Rattle.std.proofs.lemmas.List.Elements.{All-from_recursion, recursion_from_All}
use Rattle.address_sets.specs.declared.sets.Run.{Run}
use Rattle.address_sets.specs.Runs.{AreApart, HaveBegun, is_in, is_of}

-- no run that begins later has the address
none-in : (a : ℕ) (runs : List Run) → AllByRecursion (λ r. a < r.first) runs → is_in a runs ≡ false
none-in a [] later = refl
none-in a (r ∷ rs) later = or_from (is_of a r) (is_in a rs) (and_left (nat_le r.first a) (nat_le a r.last) (lt-leb r.first a later.0)) (none-in a rs later.1)

last-in : (a : ℕ) (runs : List Run) (m : ℕ) (d : Run) → AreApart runs → m < length runs → (slice_index_or runs m d).first ≤ a
    → ((k : ℕ) (e : Run) → m < k → k < length runs → a < (slice_index_or runs k e).first)
    → is_in a runs ≡ nat_le a (slice_index_or runs m d).last
last-in a [] m d apart within begun later = absurd (omega arith)
last-in a (r ∷ rs) zero d apart within begun later =
    let rest = none-in a rs (recursion_from_All (λ s. a < s.first) rs (λ k e inside. later (suc k) e (omega arith) (omega arith))) in
    let here : nat_le r.first a ≡ true = le-leb r.first a begun in
    rw (rest, here) (or_false (nat_le a r.last))
  where
    or_false : (b : Bool) → (b || false) ≡ b
    or_false true = refl
    or_false false = refl
last-in a (r ∷ rs) (suc m) d apart within begun later =
    let after = All-from_recursion (λ s. (r.first ≤ s.first) × (r.last + 1 < s.first)) rs apart.0 m d (omega arith) in
    let ended : nat_le a r.last ≡ false = lt-leb a r.last (omega (arith, after.1)) in
    let gone : is_of a r ≡ false = and_right (nat_le r.first a) (nat_le a r.last) ended in
    rw gone (last-in a rs m d apart.1 (omega arith) begun (λ k e lt inside. later (suc k) e (omega arith) (omega arith)))

-- runs that are apart begin one after the other
pub firsts-ascend : (runs : List Run) → AreApart runs → IsNonDecreasingBy (λ r. r.first) runs
firsts-ascend [] apart i j d le within = absurd (omega arith)
firsts-ascend (r ∷ rs) apart zero zero d le within = omega arith
firsts-ascend (r ∷ rs) apart zero (suc j) d le within = (All-from_recursion (λ s. (r.first ≤ s.first) × (r.last + 1 < s.first)) rs apart.0 j d (omega arith)).0
firsts-ascend (r ∷ rs) apart (suc i) zero d le within = absurd (omega arith)
firsts-ascend (r ∷ rs) apart (suc i) (suc j) d le within = firsts-ascend rs apart.1 i j d (omega arith) (omega arith)

-- the runs that have begun, by their firsts
pub have_begun : (a : ℕ) (runs seen set : List Run) (n : ℕ) → seen ≡ runs → runs ≡ set → n ≤ length seen
    → IsPartitionPoint (λ s. nat_le s.first a ≡ true) (λ s. nat_le s.first a ≡ false) seen n → HaveBegun a set n
have_begun a runs seen set n same is bound point =
    let at = subst (λ xs. IsPartitionPoint (λ s. nat_le s.first a ≡ true) (λ s. nat_le s.first a ≡ false) xs n) (same ∙ is) point in
    let within : n ≤ length set = subst (λ (xs : List Run). n ≤ length xs) (same ∙ is) bound in
    record {
      count = within;
      begun = λ k d lt. leb-true (slice_index_or set k d).first a (at.0 k d (omega arith) lt);
      later = λ k d le inside. leb-false (slice_index_or set k d).first a (at.1 k d le inside);
    }

-- the last run that has begun tells
pub has-some : (a : ℕ) (runs set : List Run) (n : ℕ) (r : Run) → AreApart runs → runs ≡ set → HaveBegun a set n → 0 < n → r ≡ slice_index_or runs (n - 1) r
    → nat_le a r.last ≡ is_in a set
has-some a runs set n r apart is h some at =
    let b : HaveBegun a runs n = subst (λ xs. HaveBegun a xs n) (sym is) h in
    let count = b.count in
    let last = last-in a runs (n - 1) r apart (omega arith) (b.begun (n - 1) r (omega arith)) (λ k e lt inside. b.later k e (omega arith) inside) in
    ap (λ (s : Run). nat_le a s.last) at ∙ sym last ∙ ap (is_in a) is

pub has-none : (a : ℕ) (set : List Run) (n : ℕ) → n ≤ 0 → HaveBegun a set n → nat_lt 0 n ≡ is_in a set
has-none a set n none h =
    le-ltb 0 n none ∙ sym (none-in a set (recursion_from_All (λ r. a < r.first) set (λ k e inside. h.later k e (omega arith) inside)))

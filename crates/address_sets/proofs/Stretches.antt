-- How far the addresses from one on are alike.
use Rattle.std.proofs.Common.{◌≡◌, ◌∙◌, ◌+◌, ◌-◌, ◌<◌, ◌≤◌, ◌⊎◌, ◌∷◌, [], ℕ, List, ap, arith, false, inl, inr, length, nat_le, refl, slice_index_or, subst, suc, sym, true, zero}
use Rattle.std.proofs.lemmas.Bool.{cases_lt, leb-true}
use Rattle.std.proofs.lemmas.Bool.Decides.{nat_tests}
use Rattle.std.proofs.lemmas.List.{get_or_default}
use Rattle.std.proofs.lemmas.List.Elements.{All-from_recursion}
use Rattle.std.proofs.lemmas.List.Folds.{list_any_at, list_any_none}
use Rattle.address_sets.specs.declared.sets.Run.{Run}
use Rattle.address_sets.specs.Runs.{AreApart, AreRuns, HaveBegun, IsStretch, is_in, is_of}
use Rattle.address_sets.proofs.Searching.{firsts-ascend}

-- an earlier run ends before a later one begins, with a gap between them
pub gap-between : (runs : List Run) (i j : ℕ) (d e : Run) → AreApart runs → i < j → j < length runs → (slice_index_or runs i d).last + 1 < (slice_index_or runs j e).first
gap-between [] i j d e apart lt within = absurd (omega arith)
gap-between (r ∷ rs) zero zero d e apart lt within = absurd (omega arith)
gap-between (r ∷ rs) zero (suc j) d e apart lt within = (All-from_recursion (λ s. (r.first ≤ s.first) × (r.last + 1 < s.first)) rs apart.0 j e (omega arith)).1
gap-between (r ∷ rs) (suc i) zero d e apart lt within = absurd (omega arith)
gap-between (r ∷ rs) (suc i) (suc j) d e apart lt within = gap-between rs i j d e apart.1 (omega arith) (omega arith)

has-between : (b : ℕ) (r : Run) → r.first ≤ b → b ≤ r.last → is_of b r ≡ true
has-between b r from to = grind (arith, nat_tests)

has-not : (b : ℕ) (r : Run) → (r.last < b) ⊎ (b < r.first) → is_of b r ≡ false
has-not b r (inl after) = grind (arith, nat_tests)
has-not b r (inr before) = grind (arith, nat_tests)

-- each run ends before the address or begins after it
in-none : (b : ℕ) (runs : List Run) → ((k : ℕ) (d : Run) → k < length runs → ((slice_index_or runs k d).last < b) ⊎ (b < (slice_index_or runs k d).first))
    → is_in b runs ≡ false
in-none b runs past = list_any_none (is_of b) runs (λ k d within. has-not b (slice_index_or runs k d) (past k d within))

-- the last run that has begun has the address
pub stretch-in : (a : ℕ) (runs : List Run) (n : ℕ) (r : Run) → AreRuns runs → HaveBegun a runs n → 0 < n → r ≡ slice_index_or runs (n - 1) r → a ≤ r.last
    → IsStretch runs a (r.last, true)
stretch-in a runs n r are h some at within =
    let count = h.count in
    let first : r.first ≤ a = subst (λ (s : Run). s.first ≤ a) (sym at) (h.begun (n - 1) r (omega arith)) in
    record {
      from = within;
      alike = λ b from to. list_any_at (is_of b) runs (n - 1) r (omega arith) (subst (λ (s : Run). is_of b s ≡ true) at (has-between b r (omega arith) to));
      turns = inr (in-none (r.last + 1) runs (λ k d inside. past first k d inside (cases_lt k (n - 1)) (cases_lt (n - 1) k)));
    }
  where
    past : r.first ≤ a → (k : ℕ) (d : Run) → k < length runs → (k < n - 1) ⊎ (n - 1 ≤ k) → (n - 1 < k) ⊎ (k ≤ n - 1)
        → ((slice_index_or runs k d).last < r.last + 1) ⊎ (r.last + 1 < (slice_index_or runs k d).first)
    past first k d inside (inl before) other =
        let count = h.count in
        let gap : (slice_index_or runs k d).last + 1 < r.first = subst (λ (s : Run). (slice_index_or runs k d).last + 1 < s.first) (sym at) (gap-between runs k (n - 1) d r are.apart before (omega arith)) in
        inl (omega arith)
    past first k d inside (inr le) (inl after) = inr (subst (λ (s : Run). s.last + 1 < (slice_index_or runs k d).first) (sym at) (gap-between runs (n - 1) k r d are.apart after inside))
    past first k d inside (inr le) (inr ge) =
        let here : slice_index_or runs k d ≡ slice_index_or runs k r = get_or_default runs k d r inside in
        let same : slice_index_or runs k r ≡ slice_index_or runs (n - 1) r = ap (λ i. slice_index_or runs i r) (omega arith) in
        let last : (slice_index_or runs k d).last ≡ r.last = ap (λ (s : Run). s.last) (here ∙ same ∙ sym at) in
        inl (omega arith)

-- ---- no run has the address

-- those that have begun have ended
abbrev pub HaveEnded : ℕ → List Run → ℕ → Type 0
HaveEnded a runs n = (k : ℕ) (d : Run) → k < n → (slice_index_or runs k d).last < a

pub ended-last : (a : ℕ) (runs : List Run) (n : ℕ) (r : Run) → AreRuns runs → HaveBegun a runs n → 0 < n → r ≡ slice_index_or runs (n - 1) r → r.last < a → HaveEnded a runs n
ended-last a runs n r are h some at past = λ k d lt. by k d lt (cases_lt k (n - 1))
  where
    by : (k : ℕ) (d : Run) → k < n → (k < n - 1) ⊎ (n - 1 ≤ k) → (slice_index_or runs k d).last < a
    by k d lt (inl before) =
        let count = h.count in
        let gap = gap-between runs k (n - 1) d r are.apart before (omega arith) in
        let first = h.begun (n - 1) r (omega arith) in
        omega arith
    by k d lt (inr le) =
        let count = h.count in
        let here : slice_index_or runs k d ≡ slice_index_or runs k r = get_or_default runs k d r (omega arith) in
        let same : slice_index_or runs k r ≡ slice_index_or runs (n - 1) r = ap (λ i. slice_index_or runs i r) (omega arith) in
        let last : (slice_index_or runs k d).last ≡ r.last = ap (λ (s : Run). s.last) (here ∙ same ∙ sym at) in
        omega arith

pub ended-none : (a : ℕ) (runs : List Run) (n : ℕ) → n ≤ 0 → HaveEnded a runs n
ended-none a runs n none = λ k d lt. absurd (omega arith)

-- up to the next run
pub stretch-before : (a : ℕ) (runs : List Run) (n : ℕ) (r : Run) → AreRuns runs → HaveBegun a runs n → HaveEnded a runs n → n < length runs → r ≡ slice_index_or runs n r
    → IsStretch runs a (r.first - 1, false)
stretch-before a runs n r are h ended more at =
    let first : a < r.first = subst (λ (s : Run). a < s.first) (sym at) (h.later n r (omega arith) more) in
    let some : r.first ≤ r.last = leb-true r.first r.last (subst (λ (s : Run). nat_le s.first s.last ≡ true) (sym at) (are.some n r more)) in
    record {
      from = omega arith;
      alike = λ b from to. in-none b runs (λ k d inside. past b from (omega arith) k d inside (cases_lt k n));
      turns = inr (list_any_at (is_of (r.first - 1 + 1)) runs n r more (subst (λ (s : Run). is_of (r.first - 1 + 1) s ≡ true) at (has-between (r.first - 1 + 1) r (omega arith) (omega arith))));
    }
  where
    past : (b : ℕ) → a ≤ b → b < r.first → (k : ℕ) (d : Run) → k < length runs → (k < n) ⊎ (n ≤ k) → ((slice_index_or runs k d).last < b) ⊎ (b < (slice_index_or runs k d).first)
    past b from to k d inside (inl before) = let over = ended k d before in inl (omega arith)
    past b from to k d inside (inr after) =
        let up : (slice_index_or runs n r).first ≤ (slice_index_or runs k r).first = firsts-ascend runs are.apart n k r after inside in
        let here : (slice_index_or runs k d).first ≡ (slice_index_or runs k r).first = ap (λ (s : Run). s.first) (get_or_default runs k d r inside) in
        let begins : r.first ≡ (slice_index_or runs n r).first = ap (λ (s : Run). s.first) at in
        inr (omega arith)

-- up to the last address
pub stretch-rest : (a : ℕ) (runs : List Run) (n : ℕ) → a ≤ 4294967295 → HaveBegun a runs n → HaveEnded a runs n → length runs ≤ n → IsStretch runs a (4294967295, false)
stretch-rest a runs n fits h ended none = record {
  from = fits;
  alike = λ b from to. in-none b runs (λ k d inside. let over = ended k d (omega arith) in inl (omega arith));
  turns = inl refl;
}

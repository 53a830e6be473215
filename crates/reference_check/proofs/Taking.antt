-- Numbers that are taken, in runs that lie apart.
use Rattle.std.proofs.Common.{◌≡◌, ◌∙◌, ◌<◌, ◌≤◌, ◌⊎◌, ◌∷◌, [], ℕ, List, None, Option, Some, ap, arith, cond, false, inl, inr, refl, subst, sym, true}
use Rattle.std.specs.BTreeMap.{BTreeMap}
use Rattle.std.specs.BTreeMap.Range.{IsRangeOf}
use Rattle.std.specs.Option.{is_some}
use Rattle.std.specs.Ordering.{is_eq, is_gt, nat_cmp}
use Rattle.std.specs.declared.ops.Bound.TheVariants.{Included, Unbounded}
use Rattle.std.proofs.lemmas.Bool.{cases_eq, cases_lt}
use Rattle.std.proofs.lemmas.Map.Keys.{le_from_not_gt}
use Rattle.reference_check.specs.Taken.{IsNextRun, IsTaken, LieApart, Takes, first_at}

-- ---- the next run

below-gt : (a b : ℕ) → a ≤ b → is_gt (nat_cmp a b) ≡ false
below-gt a b le = grind arith

pub range-next : (m : BTreeMap ℕ ℕ) (runs : List (ℕ × ℕ)) (k : ℕ) (r rest : List (ℕ × ℕ)) (last first : ℕ) → m.entries ≡ runs
    → IsRangeOf nat_cmp (Included k) Unbounded m r → r ≡ (last, first) ∷ rest → IsNextRun runs k (Some (last, first))
range-next m runs k r rest last first same range is =
    subst (λ rs. IsNextRun rs k (Some (last, first))) same
    (le_from_not_gt k last at.1.0.0, at.1.1, λ end begin le there. le_from_not_gt last end (at.2 end (below-gt k end le, tt) (ap is_some there)))
  where
    at : IsRangeOf nat_cmp (Included k) Unbounded m ((last, first) ∷ rest)
    at = subst (IsRangeOf nat_cmp (Included k) Unbounded m) is range

pub range-none : (m : BTreeMap ℕ ℕ) (runs : List (ℕ × ℕ)) (k : ℕ) (r : List (ℕ × ℕ)) → m.entries ≡ runs → IsRangeOf nat_cmp (Included k) Unbounded m r → r ≡ [] → IsNextRun runs k None
range-none m runs k r same range none = subst (λ rs. IsNextRun rs k None) same (λ last le. range.5 none last (below-gt k last le, tt))

same-some : (o : Option ℕ) (a b : ℕ) → o ≡ Some a → o ≡ Some b → a ≡ b
same-some o a b e f = cc

-- ---- a run that is taken

-- what a run that is new stands at, and the others
abbrev pub IsAdded : List (ℕ × ℕ) → ℕ → ℕ → List (ℕ × ℕ) → Type 0
IsAdded old first last new = (k : ℕ) → first_at new k ≡ cond (is_eq (nat_cmp last k)) (Some first) (first_at old k)

at-same : (last k : ℕ) → last ≡ k → is_eq (nat_cmp last k) ≡ true
at-same last k same = grind arith

at-other : (last k : ℕ) → (last ≡ k → ⊥) → is_eq (nat_cmp last k) ≡ false
at-other last k other = grind arith

record IsNew (old : List (ℕ × ℕ)) (first last : ℕ) (new : List (ℕ × ℕ)) : Type 0 where
  pub some : first ≤ last
  pub free : (k : ℕ) → first ≤ k → k ≤ last → IsTaken old k → ⊥
  pub here : first_at new last ≡ Some first
  pub others : (k : ℕ) → (last ≡ k → ⊥) → first_at new k ≡ first_at old k

are-new : (old : List (ℕ × ℕ)) (first last : ℕ) (new : List (ℕ × ℕ)) → first ≤ last → ((k : ℕ) → first ≤ k → k ≤ last → IsTaken old k → ⊥) → IsAdded old first last new → IsNew old first last new
are-new old first last new some free added = record {
  some = some;
  free = free;
  here = added last ∙ ap (λ b. cond b (Some first) (first_at old last)) (at-same last last refl);
  others = λ k other. added k ∙ ap (λ b. cond b (Some first) (first_at old k)) (at-other last k other);
}

-- a run of the old ones
old-run : (old : List (ℕ × ℕ)) (first last : ℕ) (new : List (ℕ × ℕ)) → IsNew old first last new → (k f : ℕ) → (last ≡ k → ⊥) → first_at new k ≡ Some f → first_at old k ≡ Some f
old-run old first last new is k f other at = sym (is.others k other) ∙ at

apart-new : (old : List (ℕ × ℕ)) (first last : ℕ) (new : List (ℕ × ℕ)) → LieApart old → IsNew old first last new → LieApart new
apart-new old first last new apart is = record {
  some = λ k f at. some k f at (cases_eq last k);
  apart = λ k f later begin at next lt. lies k f later begin at next lt (cases_eq last k) (cases_eq last later);
}
  where
    some : (k f : ℕ) → first_at new k ≡ Some f → (last ≡ k) ⊎ (last ≡ k → ⊥) → f ≤ k
    some k f at (inl same) =
        let is_first = same-some (first_at new k) f first at (subst (λ n. first_at new n ≡ Some first) same is.here) in
        let nonempty = is.some in
        omega arith
    some k f at (inr other) = apart.some k f (old-run old first last new is k f other at)

    lies : (k f later begin : ℕ) → first_at new k ≡ Some f → first_at new later ≡ Some begin → k < later → (last ≡ k) ⊎ (last ≡ k → ⊥) → (last ≡ later) ⊎ (last ≡ later → ⊥) → k < begin
    lies k f later begin at next lt (inl same) (inl too) = absurd (omega arith)
    lies k f later begin at next lt (inl same) (inr other) =
        let there = old-run old first last new is later begin other next in
        elim (cases_lt last begin) [
          | inl after ↦ omega arith
          | inr before ↦ absurd (is.free last is.some (omega arith) (later, begin, there, before, omega arith))
        ]
    lies k f later begin at next lt (inr other) (inl same) =
        let there = old-run old first last new is k f other at in
        let is_first = same-some (first_at new later) begin first next (subst (λ n. first_at new n ≡ Some first) same is.here) in
        let nonempty = apart.some k f there in
        elim (cases_lt k first) [
          | inl before ↦ omega arith
          | inr after ↦ absurd (is.free k after (omega arith) (k, f, there, nonempty, omega arith))
        ]
    lies k f later begin at next lt (inr other) (inr another) =
        apart.apart k f later begin (old-run old first last new is k f other at) (old-run old first last new is later begin another next) lt

takes-new : (old : List (ℕ × ℕ)) (first last : ℕ) (new : List (ℕ × ℕ)) → LieApart old → IsNew old first last new → Takes old first last new
takes-new old first last new apart is k = (λ taken. back taken, λ from. forth from)
  where
    back : IsTaken new k → IsTaken old k ⊎ ((first ≤ k) × (k ≤ last))
    back (end, begin, at, from, to) =
        elim (cases_eq last end) [
          | inl same ↦
              let is_first = same-some (first_at new end) begin first at (subst (λ n. first_at new n ≡ Some first) same is.here) in
              inr (omega arith, omega arith)
          | inr other ↦ inl (end, begin, old-run old first last new is end begin other at, from, to)
        ]

    forth : IsTaken old k ⊎ ((first ≤ k) × (k ≤ last)) → IsTaken new k
    forth (inl (end, begin, at, from, to)) =
        elim (cases_eq last end) [
          | inl same ↦
              let begins = apart.some end begin at in
              absurd (is.free last is.some (omega arith) (end, begin, at, omega arith, omega arith))
          | inr other ↦ (end, begin, is.others end other ∙ at, from, to)
        ]
    forth (inr (from, to)) = (last, first, is.here, from, to)

pub apart-added : (old : List (ℕ × ℕ)) (first last : ℕ) (new : List (ℕ × ℕ)) → LieApart old → first ≤ last → ((k : ℕ) → first ≤ k → k ≤ last → IsTaken old k → ⊥) → IsAdded old first last new → LieApart new
apart-added old first last new apart some free added = apart-new old first last new apart (are-new old first last new some free added)

pub takes-added : (old : List (ℕ × ℕ)) (first last : ℕ) (new : List (ℕ × ℕ)) → LieApart old → first ≤ last → ((k : ℕ) → first ≤ k → k ≤ last → IsTaken old k → ⊥) → IsAdded old first last new → Takes old first last new
takes-added old first last new apart some free added = takes-new old first last new apart (are-new old first last new some free added)

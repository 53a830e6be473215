-- The least number of a rule that passes a test.
use Rattle.std.proofs.Common.{◌≡◌, ◌∙◌, ◌&&◌, ◌++◌, ◌+◌, ◌<◌, ◌≤◌, ◌||◌, ◌∷◌, [], ℕ, Bool, IsPermutation, List, None, Option, Some, ap, arith, cond, false, find, get_or, inl, inr, length, nat_le, option_map, refl, sym, take, true}
use Rattle.std.specs.List.{All, list_any}
use Rattle.std.proofs.lemmas.Bool.{both_ways, cases_Bool, cases_lt, le-leb, le-ltb, leb-true, lt-leb, lt-ltb}
use Rattle.std.proofs.lemmas.List.Elements.{All-head, All-tail}
use Rattle.std.proofs.lemmas.List.Folds.{list_any-append}
use Rattle.std.proofs.lemmas.List.Sorted.{list_any-IsPermutation}
use Rattle.std.proofs.Math.Bool.{or-false}
use Rattle.vpc_base.specs.declared.headers.Dir.{Dir}
use Rattle.vpc_model.specs.declared.rows.Description.{Description}
use Rattle.vpc_model.specs.declared.rows.Permission.{Permission}
use Rattle.security_groups.specs.declared.rules.Rule.{Rule}
use Rattle.security_groups.specs.Asking.{least, lesser}
use Rattle.security_groups.specs.Resolved.{AreRulesOf}
use Rattle.security_groups.proofs.Steps.{take_next}

-- ---- the lesser of two numbers

-- no number changes nothing
pub lesser-none : (o : Option ℕ) → lesser o None ≡ o
lesser-none None = refl
lesser-none (Some n) = refl

-- a number is told that is at most this one
abbrev reaches : Option ℕ → ℕ → Bool
reaches None k = false
reaches (Some n) k = nat_le n k

-- the lesser of two is at most this where one of them is
reaches-lesser : (a b : Option ℕ) (k : ℕ) → reaches (lesser a b) k ≡ (reaches a k || reaches b k)
reaches-lesser None b k = refl
reaches-lesser (Some m) None k = sym (or-false (nat_le m k))
reaches-lesser (Some m) (Some n) k =
    elim (cases_lt n m) [
      | inl less ↦ rw (lt-ltb n m less) (smaller less (nat_le m k) refl)
      | inr more ↦ rw (le-ltb n m more) (greater more (nat_le n k) refl)
    ]
  where
    smaller : n < m → (b : Bool) → nat_le m k ≡ b → nat_le n k ≡ (nat_le m k || nat_le n k)
    smaller less true e =
        let below = leb-true m k e in
        rw e (le-leb n k (omega arith))
    smaller less false e = rw e refl

    greater : m ≤ n → (b : Bool) → nat_le n k ≡ b → nat_le m k ≡ (nat_le m k || nat_le n k)
    greater more true e =
        let below = leb-true n k e in
        rw (le-leb m k (omega arith)) refl
    greater more false e = rw e (sym (or-false (nat_le m k)))

-- numbers that are at most the same ones are the same
same_reach : (a b : Option ℕ) → ((k : ℕ) → reaches a k ≡ reaches b k) → a ≡ b
same_reach None None same = refl
same_reach None (Some n) same = absurd (both_ways (nat_le n n) (sym (same n)) (le-leb n n (omega arith)))
same_reach (Some m) None same = absurd (both_ways (nat_le m m) (same m) (le-leb m m (omega arith)))
same_reach (Some m) (Some n) same =
    let above = leb-true n m (sym (same m) ∙ le-leb m m (omega arith)) in
    let below = leb-true m n (same n ∙ le-leb n n (omega arith)) in
    ap Some (omega arith)

-- ---- the least of a list

-- the least is at most this where a rule that passes is
reaches-least : (p : Rule → Bool) (k : ℕ) (rs : List Rule) → reaches (least p rs) k ≡ list_any (λ r. p r && nat_le r.number k) rs
reaches-least p k [] = refl
reaches-least p k (r ∷ rs) =
    reaches-lesser (cond (p r) (Some r.number) None) (least p rs) k
    ∙ ap (λ (b : Bool). b || reaches (least p rs) k) (one (p r) refl)
    ∙ ap (λ (b : Bool). (p r && nat_le r.number k) || b) (reaches-least p k rs)
  where
    one : (b : Bool) → p r ≡ b → reaches (cond (p r) (Some r.number) None) k ≡ (p r && nat_le r.number k)
    one true e = rw e refl
    one false e = rw e refl

-- the least doesn't depend on the order
pub least-IsPermutation : (p : Rule → Bool) (xs ys : List Rule) → IsPermutation xs ys → least p xs ≡ least p ys
least-IsPermutation p xs ys moved = same_reach (least p xs) (least p ys) (λ k. reaches-least p k xs ∙ list_any-IsPermutation (λ r. p r && nat_le r.number k) xs ys moved ∙ sym (reaches-least p k ys))

-- the least of two lists
pub least-append : (p : Rule → Bool) (xs ys : List Rule) → least p (xs ++ ys) ≡ lesser (least p xs) (least p ys)
least-append p xs ys =
    same_reach (least p (xs ++ ys)) (lesser (least p xs) (least p ys))
    (λ k.
    reaches-least p k (xs ++ ys)
    ∙ list_any-append (λ r. p r && nat_le r.number k) xs ys
    ∙ ap (λ (b : Bool). b || list_any (λ r. p r && nat_le r.number k) ys) (sym (reaches-least p k xs))
    ∙ ap (λ (b : Bool). reaches (least p xs) k || b) (sym (reaches-least p k ys))
    ∙ sym (reaches-lesser (least p xs) (least p ys) k))

-- rules of which none passes have no least
pub least-none : (p : Rule → Bool) (xs : List Rule) → All (λ r. p r ≡ false) xs → least p xs ≡ None
least-none p [] none = refl
least-none p (r ∷ rs) none = rw (All-head (λ x. p x ≡ false) r rs none) (least-none p rs (All-tail (λ x. p x ≡ false) r rs none))

-- ---- rules in their order

-- no number is below the first
numbers-from : (d : Description) (dir : Dir) (vpc : List ℕ) (p : Rule → Bool) (n k : ℕ) (ps : List Permission) (rs : List Rule) → AreRulesOf d dir vpc n ps rs → k < n → list_any (λ r. p r && nat_le r.number k) rs ≡ false
numbers-from d dir vpc p n k [] [] are below = refl
numbers-from d dir vpc p n k [] (r ∷ rs) are below = absurd are
numbers-from d dir vpc p n k (q ∷ qs) [] are below = absurd are
numbers-from d dir vpc p n k (q ∷ qs) (r ∷ rs) are below =
    let number = are.0.number in
    let above : nat_le r.number k ≡ false = lt-leb r.number k (omega arith) in
    let rest = numbers-from d dir vpc p (n + 1) k qs rs are.1 (omega arith) in
    rw (above, rest) (and_false (p r))
  where
    and_false : (b : Bool) → ((b && false) || false) ≡ false
    and_false true = refl
    and_false false = refl

-- so the first that passes has the least number
pub least-find : (d : Description) (dir : Dir) (vpc : List ℕ) (p : Rule → Bool) (n : ℕ) (ps : List Permission) (rs : List Rule) → AreRulesOf d dir vpc n ps rs → least p rs ≡ option_map (λ r. r.number) (find p rs)
least-find d dir vpc p n [] [] are = refl
least-find d dir vpc p n [] (r ∷ rs) are = absurd are
least-find d dir vpc p n (q ∷ qs) [] are = absurd are
least-find d dir vpc p n (q ∷ qs) (r ∷ rs) are =
    elim (cases_Bool (p r)) [
      | inl passes ↦ rw passes (first (least p rs) refl)
      | inr fails ↦ rw fails (least-find d dir vpc p (n + 1) qs rs are.1)
    ]
  where
    first : (o : Option ℕ) → least p rs ≡ o → lesser (Some r.number) o ≡ Some r.number
    first None e = refl
    first (Some m) e =
        elim (cases_lt m r.number) [
          | inl less ↦
              let number = are.0.number in
              let none = numbers-from d dir vpc p (n + 1) m qs rs are.1 (omega arith) in
              let reached : reaches (least p rs) m ≡ true = ap (λ (o : Option ℕ). reaches o m) e ∙ le-leb m m (omega arith) in
              absurd (both_ways (reaches (least p rs) m) (reaches-least p m rs ∙ none) reached)
          | inr more ↦ rw (le-ltb m r.number more) refl
        ]

-- one more rule
pub least-next : (p : Rule → Bool) (rules : List Rule) (i : ℕ) (r : Rule) (now next : Option ℕ) → i < length rules → r ≡ get_or rules i r → now ≡ least p (take i rules) → next ≡ lesser now (cond (p r) (Some r.number) None)
    → next ≡ least p (take (i + 1) rules)
least-next p rules i r now next within is so_far told =
    told
    ∙ ap (λ (o : Option ℕ). lesser o (cond (p r) (Some r.number) None)) so_far
    ∙ ap (lesser (least p (take i rules))) (sym (lesser-none (cond (p r) (Some r.number) None)))
    ∙ sym (least-append p (take i rules) (r ∷ []))
    ∙ ap (least p) (sym (take_next rules i r within is))

-- Lists of numbers that are written out: one is among another, and one ascends, where a test says so.
use Rattle.std.proofs.Common.{◌&&◌, ◌≡◌, [], ◌∷◌, Bool, List, arith, subst, suc, true, zero, ℕ}
use native.Mathlib.Numerals.{unary_clauses}
use Rattle.std.specs.Cmp.{first_so, second_so}
use Rattle.std.specs.List.{Contains, list_all}
use Rattle.std.specs.List.Sorted.{IsStrictlyIncreasing}
use Rattle.std.specs.Prelude.{nat_lt}
use Rattle.std.proofs.lemmas.Bool.Decides.{nat_tests}
use Rattle.std.proofs.lemmas.Map.Views.{Contains-from_any, exact_unsigned_eq}
use Rattle.vpc_base.specs.Cuts.{AreAmong, CutLists}
use Rattle.header_boxes.specs.Cells.{AreAscending}
use Rattle.vpc_examples.specs.CutRows.{are_exactly, have_same, is_in}

-- each number of the first list is one of the second
within : (xs ys : List ℕ) → list_all (is_in ys) xs ≡ true → (c : ℕ) → Contains xs c → Contains ys c
within [] ys e c (k, below, at) = absurd (omega arith)
within (x ∷ xs) ys e c (zero, below, at) = subst (Contains ys) at (Contains-from_any exact_unsigned_eq x ys (first_so (is_in ys x) (list_all (is_in ys) xs) e))
within (x ∷ xs) ys e c (suc k, below, at) = within xs ys (second_so (is_in ys x) (list_all (is_in ys) xs) e) c (k, omega arith, at)

-- cuts that are exactly others are among them
pub among : (a b : CutLists) → are_exactly a b ≡ true → AreAmong a b
among a b e =
    let addr = second_so (have_same a.proto b.proto) _ e in
    let p = second_so (have_same a.addr b.addr) _ addr in
    record {
      proto = within a.proto b.proto (first_so (list_all (is_in b.proto) a.proto) _ (first_so (have_same a.proto b.proto) _ e));
      addr = within a.addr b.addr (first_so (list_all (is_in b.addr) a.addr) _ (first_so (have_same a.addr b.addr) _ addr));
      p = within a.p b.p (first_so (list_all (is_in b.p) a.p) _ (first_so (have_same a.p b.p) _ p));
      q = within a.q b.q (first_so (list_all (is_in b.q) a.q) _ (second_so (have_same a.p b.p) _ p));
    }

-- each number is less than the next
abbrev pub ascends : List ℕ → Bool
ascends [] = true
ascends (x ∷ []) = true
ascends (x ∷ y ∷ ys) = nat_lt x y && ascends (y ∷ ys)

pub increasing : (xs : List ℕ) → ascends xs ≡ true → IsStrictlyIncreasing xs
increasing [] e k below = absurd (omega arith)
increasing (x ∷ []) e k below = absurd (omega arith)
increasing (x ∷ y ∷ ys) e zero below = let first = first_so (nat_lt x y) (ascends (y ∷ ys)) e in grind (arith, nat_tests)
increasing (x ∷ y ∷ ys) e (suc k) below =
    let later = simp unary_clauses at (increasing (y ∷ ys) (second_so (nat_lt x y) (ascends (y ∷ ys)) e) k (omega arith)) in
    simp unary_clauses later

pub ascending : (c : CutLists) → ascends c.proto ≡ true → ascends c.addr ≡ true → ascends c.p ≡ true → ascends c.q ≡ true → AreAscending c
ascending c proto addr p q = record { proto = increasing c.proto proto; addr = increasing c.addr addr; p = increasing c.p p; q = increasing c.q q }

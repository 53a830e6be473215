-- Numbers that ascend, from one on or up to one.
use Rattle.std.proofs.Common.{◌==◌, ◌||◌, ◌+◌, ◌-◌, ◌≡◌, ◌∙◌, ◌<◌, ◌≤◌, List, ap, arith, drop, false, get_or, leb, length, nat_lt, subst, sym, take, true, ℕ}
use Rattle.std.specs.List.{list_any}
use Rattle.std.specs.List.Sorted.{IsPartitionPoint}
use Rattle.std.proofs.lemmas.Bool.{leb-false, ltb-true, ne_eqb}
use Rattle.std.proofs.lemmas.List.{get_or-drop, get_or-take, length-drop, length-take-le, take-append-drop}
use Rattle.std.proofs.lemmas.List.Folds.{list_any-append, list_any_none}
use Rattle.std.proofs.Math.Bool.{or-false}
use Rattle.std.proofs.Math.Seq.{take-length}

parts : (k n : ℕ) (xs : List ℕ) → list_any (λ m. m == k) xs ≡ (list_any (λ m. m == k) (take n xs) || list_any (λ m. m == k) (drop n xs))
parts k n xs = ap (list_any (λ m. m == k)) (sym (take-append-drop n xs)) ∙ list_any-append (λ m. m == k) (take n xs) (drop n xs)

-- a number that isn't below x is none of those before the first that isn't
pub any-from : (x : ℕ) (xs seen : List ℕ) (n : ℕ) → seen ≡ xs → n ≤ length xs → IsPartitionPoint (λ y. nat_lt y x ≡ true) (λ y. nat_lt y x ≡ false) seen n
    → (k : ℕ) → x ≤ k → list_any (λ m. m == k) (drop n xs) ≡ list_any (λ m. m == k) xs
any-from x xs seen n same bound point k least =
    sym (parts k n xs ∙ ap (λ b. b || list_any (λ m. m == k) (drop n xs)) (list_any_none (λ m. m == k) (take n xs) below))
  where
    split : IsPartitionPoint (λ y. nat_lt y x ≡ true) (λ y. nat_lt y x ≡ false) xs n
    split = subst (λ ys. IsPartitionPoint (λ y. nat_lt y x ≡ true) (λ y. nat_lt y x ≡ false) ys n) same point

    below : (i d : ℕ) → i < length (take n xs) → (get_or (take n xs) i d == k) ≡ false
    below i d within =
        let long = length-take-le n xs bound in
        let before : i < n = omega arith in
        let less = ltb-true (get_or xs i d) x (split.0 i d (omega arith) before) in
        let there = get_or-take n xs i d before in
        ne_eqb (get_or (take n xs) i d) k (λ is. absurd (omega arith))

-- a number that isn't above x is none of those from the first that is
pub any-until : (x : ℕ) (xs seen : List ℕ) (n : ℕ) → seen ≡ xs → n ≤ length xs → IsPartitionPoint (λ y. leb y x ≡ true) (λ y. leb y x ≡ false) seen n
    → (k : ℕ) → k ≤ x → list_any (λ m. m == k) (take n xs) ≡ list_any (λ m. m == k) xs
any-until x xs seen n same bound point k most =
    sym (parts k n xs ∙ ap (λ b. list_any (λ m. m == k) (take n xs) || b) (list_any_none (λ m. m == k) (drop n xs) above) ∙ or-false (list_any (λ m. m == k) (take n xs)))
  where
    split : IsPartitionPoint (λ y. leb y x ≡ true) (λ y. leb y x ≡ false) xs n
    split = subst (λ ys. IsPartitionPoint (λ y. leb y x ≡ true) (λ y. leb y x ≡ false) ys n) same point

    above : (i d : ℕ) → i < length (drop n xs) → (get_or (drop n xs) i d == k) ≡ false
    above i d within =
        let long = length-drop n xs in
        let more = leb-false (get_or xs (n + i) d) x (split.1 (n + i) d (omega arith) (omega arith)) in
        let there = get_or-drop n xs i d in
        ne_eqb (get_or (drop n xs) i d) k (λ is. absurd (omega arith))

-- what stands after the first n
pub rest-is : (n : ℕ) (xs seen : List ℕ) → seen ≡ xs → take (length seen - n) (drop n seen) ≡ drop n xs
rest-is n xs seen same = ap (λ ys. take (length ys - n) (drop n ys)) same ∙ (ap (λ m. take m (drop n xs)) (sym (length-drop n xs)) ∙ take-length (drop n xs))

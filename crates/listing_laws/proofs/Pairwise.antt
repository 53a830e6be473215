-- What holds of each two of a list.
use Rattle.std.proofs.Common.{◌≡◌, ◌≢◌, ◌∷◌, [], Bool, List, arith, get_or, map, subst, sym, true, ℕ}
use Rattle.std.specs.List.{AllPairs, IsDistinct}
use Rattle.std.specs.List.Sorted.{IsPermutation}
use Rattle.std.specs.Str.{bytes_eq}
use Rattle.std.proofs.lemmas.Bool.{both_ways, false_from_ne_true}
use Rattle.std.proofs.lemmas.Cmp.{nat_list_eq_equiv}
use Rattle.std.proofs.lemmas.List.{get_or-map, length-map}
use Rattle.std.proofs.lemmas.Map.Keys.{IsDistinct-IsPermutation, IsDistinct-from_apart, apart_from_distinct}
use Rattle.vpc_base.proofs.Bytes.{bytes_self, same_bytes}

-- of what a list is made of
pub pairs_unmap : {X Y : Type 0} (R : Y → Y → Type 0) (f : X → Y) (xs : List X) → AllPairs R (map f xs) → AllPairs (λ x y. R (f x) (f y)) xs
pairs_unmap {Y = Y} R f xs pairs = λ i j d before inside.
    let size = length-map xs f in
    let first = subst (λ (y : Y). R y (get_or (map f xs) j (f d))) (get_or-map f xs i d (f d) (omega (arith, before, inside)))
    (pairs i j (f d) before (omega (arith, inside, size))) in
    subst (λ (y : Y). R (f (get_or xs i d)) y) (get_or-map f xs j d (f d) inside) first

-- of a list of one
pub one_pairs : {X : Type 0} (R : X → X → Type 0) (x : X) (xs : List X) → xs ≡ x ∷ [] → AllPairs R xs
one_pairs R x xs are = subst (AllPairs R) (sym are) (λ i j k before inside. absurd (omega (arith, before, inside)))

-- ids that differ do so in any order
pub apart_in_any_order : {X : Type 0} (id : X → List ℕ) (xs ys : List X) → IsPermutation xs ys → AllPairs (λ a b. id a ≢ id b) xs
    → AllPairs (λ a b. id a ≢ id b) ys
apart_in_any_order {X = X} id xs ys moved apart = λ i j d before inside same.
    both_ways (same_id (get_or ys i d) (get_or ys j d)) (apart_from_distinct same_id ys i j d still before inside)
    (subst (λ (w : List ℕ). bytes_eq (id (get_or ys i d)) w ≡ true) same (bytes_self (id (get_or ys i d))))
  where
    same_id : X → X → Bool
    same_id a b = bytes_eq (id a) (id b)

    still : IsDistinct same_id ys
    still =
        IsDistinct-IsPermutation same_id (λ a b. nat_list_eq_equiv.symm (id a) (id b)) xs ys moved
        (IsDistinct-from_apart same_id xs (λ i j d before inside. false_from_ne_true _
        (λ same. apart i j d before inside (same_bytes _ _ same))))

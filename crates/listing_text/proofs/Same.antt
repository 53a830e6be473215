-- Lists that are in one order and have the same members are the same.
use Rattle.std.proofs.Common.{◌≡◌, ◌∙◌, ◌∷◌, ◌⊎◌, [], AllPairs, Contains, List, ap, arith, inl, inr, refl, subst, suc, sym, ℕ}
use Rattle.std.specs.Cmp.Lexicographic.{slice_cmp}
use Rattle.std.specs.List.Sorted.{IsPermutation}
use Rattle.std.specs.Ordering.{nat_cmp, ordering_reverse}
use Rattle.std.specs.declared.cmp.Ordering.TheVariants.{Greater, Less}
use Rattle.std.proofs.lemmas.Cmp.{nat_list_cmp_total}
use Rattle.std.proofs.lemmas.List.Sorted.{Contains-permutation, IsPermutation-sym}
use Rattle.vpc_base.proofs.Members.{Contains-cases, Contains-later, Contains-none}
use Rattle.vpc_base.proofs.Pairs.{AllPairs-tail}

first_before_later : {X : Type 0} (R : X → X → Type 0) (x z : X) (xs : List X) → AllPairs R (x ∷ xs) → Contains xs z → R x z
first_before_later R x z xs order (k, below, is) = subst (R x) is (order 0 (suc k) z (omega arith) (omega arith))

module _ {X : Type 0} (R : X → X → Type 0) (one_way : (a b : X) → R a b → R b a → ⊥) where
  -- each first member is the other's
  same_first : (x y : X) (xs ys : List X) → AllPairs R (x ∷ xs) → AllPairs R (y ∷ ys) → Contains (y ∷ ys) x → Contains (x ∷ xs) y → x ≡ y
  same_first x y xs ys up_x up_y in_y in_x = by (Contains-cases y x ys in_y) (Contains-cases x y xs in_x)
    where
      by : (y ≡ x) ⊎ Contains ys x → (x ≡ y) ⊎ Contains xs y → x ≡ y
      by (inl is) other = sym is
      by (inr later) (inl is) = is
      by (inr later) (inr other) = absurd (one_way x y (first_before_later R x y xs up_x other) (first_before_later R y x ys up_y later))

  -- a member that comes after the first one
  still_later : (x y z : X) (xs ys : List X) → x ≡ y → AllPairs R (x ∷ xs) → Contains xs z → (y ≡ z) ⊎ Contains ys z → Contains ys z
  still_later x y z xs ys first up later (inr in_y) = in_y
  still_later x y z xs ys first up later (inl is) =
      let itself : R x x = subst (R x) (sym (first ∙ is)) (first_before_later R x z xs up later) in
      absurd (one_way x x itself itself)

  pub same_in_order : (xs ys : List X) → AllPairs R xs → AllPairs R ys → ((z : X) → Contains xs z → Contains ys z) → ((z : X) → Contains ys z → Contains xs z) → xs ≡ ys
  same_in_order [] [] up_x up_y there back = refl
  same_in_order [] (y ∷ ys) up_x up_y there back = absurd (Contains-none y (back y (0, omega arith, refl)))
  same_in_order (x ∷ xs) [] up_x up_y there back = absurd (Contains-none x (there x (0, omega arith, refl)))
  same_in_order (x ∷ xs) (y ∷ ys) up_x up_y there back =
      let first : x ≡ y = same_first x y xs ys up_x up_y (there x (0, omega arith, refl)) (back y (0, omega arith, refl)) in
      let rest : xs ≡ ys =
      same_in_order xs ys (AllPairs-tail R x xs up_x) (AllPairs-tail R y ys up_y)
      (λ z later. still_later x y z xs ys first up_x later (Contains-cases y z ys (there z (Contains-later x xs z later))))
      (λ z later. still_later y x z ys xs (sym first) up_y later (Contains-cases x z xs (back z (Contains-later y ys z later))))
      in
      ap (λ (l : List X). x ∷ l) rest ∙ ap (λ (z : X). z ∷ ys) first

-- ---- in the order of their ids

comes_one_way : (x y : List ℕ) → slice_cmp nat_cmp x y ≡ Less → slice_cmp nat_cmp y x ≡ Less → ⊥
comes_one_way x y first second =
    let other = nat_list_cmp_total.antisymm y x in
    let wrong : Less ≡ Greater = sym second ∙ (other ∙ ap ordering_reverse first) in
    cc

among_both : {X : Type 0} (all xs ys : List X) → IsPermutation all xs → IsPermutation all ys → (z : X) → Contains xs z → Contains ys z
among_both all xs ys a b z h = Contains-permutation all ys z b (Contains-permutation xs all z (IsPermutation-sym all xs a) h)

pub same_by_id : {X : Type 0} (id : X → List ℕ) (all xs ys : List X) → IsPermutation all xs → IsPermutation all ys → AllPairs (λ x y. slice_cmp nat_cmp (id x) (id y) ≡ Less) xs
    → AllPairs (λ x y. slice_cmp nat_cmp (id x) (id y) ≡ Less) ys → xs ≡ ys
same_by_id {X = X} id all xs ys a b up_x up_y =
    same_in_order (λ (x y : X). slice_cmp nat_cmp (id x) (id y) ≡ Less) (λ (x y : X). comes_one_way (id x) (id y)) xs ys up_x up_y (among_both all xs ys a b) (among_both all ys xs b a)

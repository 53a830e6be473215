-- Starts that are asked in another order.
use Rattle.std.proofs.Common.{◌≡◌, ◌∙◌, ◌+◌, ◌++◌, ◌∷◌, [], Bool, Contains, List, ap, ap₂, arith, cond, false, filter, map, refl, subst, sum_by, sym, true, ℕ, ⊎_elim}
use Rattle.std.proofs.lemmas.List.Elements.{Contains-append_cases, Contains-append_left, Contains-append_right}
use Rattle.std.proofs.lemmas.List.Sorted.{Contains-permutation, IsPermutation-sym, sum_by-IsPermutation}
use Rattle.std.proofs.lemmas.List.Sums.{sum_by-append, sum_by-cons}
use Rattle.std.specs.List.Sorted.{IsPermutation}
use Rattle.vpc_base.proofs.Members.{Contains-filter, Contains-map, filter-member, map-member}
use Rattle.header_boxes.proofs.Ranges.{sum_by-map}

-- whatever is added up over them is one number, and what is among the one is among the other
pub record AreAlike {X : Type 0} (xs ys : List X) : Type 0 where
  pub sums : (f : X → ℕ) → sum_by f xs ≡ sum_by f ys
  pub members : (x : X) → Contains xs x → Contains ys x

pub alike-same : {X : Type 0} (xs ys : List X) → xs ≡ ys → AreAlike xs ys
alike-same xs ys same = record { sums = λ f. ap (sum_by f) same; members = λ x. subst (λ l. Contains l x) same }

pub alike-orders : {X : Type 0} (all xs ys : List X) → IsPermutation all xs → IsPermutation all ys → AreAlike xs ys
alike-orders all xs ys a b = record {
  sums = λ f. sum_by-IsPermutation f all xs a ∙ sym (sum_by-IsPermutation f all ys b);
  members = λ x h. Contains-permutation all ys x b (Contains-permutation xs all x (IsPermutation-sym all xs a) h);
}

pub alike-joined : {X : Type 0} (xs ys us vs : List X) → AreAlike xs ys → AreAlike us vs → AreAlike (xs ++ us) (ys ++ vs)
alike-joined xs ys us vs a b = record {
  sums = λ f. sum_by-append f xs us ∙ (ap₂ (λ (m n : ℕ). m + n) (a.sums f) (b.sums f) ∙ sym (sum_by-append f ys vs));
  members = λ x h.
      ⊎_elim (λ (here : Contains xs x). Contains-append_left ys vs x (a.members x here))
      (λ (there : Contains us x). Contains-append_right ys vs x (b.members x there)) (Contains-append_cases xs us x h);
}

-- ---- those that a test keeps

one_kept : {X : Type 0} (b : Bool) (x : X) (rest : List X) (f : X → ℕ) → sum_by f (cond b (x ∷ rest) rest) ≡ cond b (f x) 0 + sum_by f rest
one_kept true x rest f = sum_by-cons f x rest
one_kept false x rest f = omega arith

sum_kept : {X : Type 0} (p : X → Bool) (f : X → ℕ) (xs : List X) → sum_by f (filter p xs) ≡ sum_by (λ x. cond (p x) (f x) 0) xs
sum_kept p f [] = refl
sum_kept p f (x ∷ xs) =
    one_kept (p x) x (filter p xs) f
    ∙ (ap (λ (n : ℕ). cond (p x) (f x) 0 + n) (sum_kept p f xs) ∙ sym (sum_by-cons (λ y. cond (p y) (f y) 0) x xs))

pub alike-kept : {X : Type 0} (p : X → Bool) (xs ys : List X) → AreAlike xs ys → AreAlike (filter p xs) (filter p ys)
alike-kept p xs ys a = record {
  sums = λ f. sum_kept p f xs ∙ (a.sums (λ x. cond (p x) (f x) 0) ∙ sym (sum_kept p f ys));
  members = λ x h. let r = filter-member p xs x h in Contains-filter p ys x (a.members x r.1) r.0;
}

-- ---- what is made of each

pub alike-mapped : {X Y : Type 0} (g : X → Y) (xs ys : List X) → AreAlike xs ys → AreAlike (map g xs) (map g ys)
alike-mapped g xs ys a = record {
  sums = λ f. sum_by-map g f xs ∙ (a.sums (λ x. f (g x)) ∙ sym (sum_by-map g f ys));
  members = λ y h. let r = map-member g xs y h in subst (λ z. Contains (map g ys) z) r.2 (Contains-map g ys r.0 (a.members r.0 r.1));
}

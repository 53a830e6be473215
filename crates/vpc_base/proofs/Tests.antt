-- What tests find in lists: whether an item passes, the first that does, how many do.
use Rattle.std.proofs.Common.{◌≡◌, ◌∙◌, ◌||◌, ◌+◌, ◌++◌, ◌∷◌, [], Bool, List, None, ap, arith, cond, count_by, drop, false, filter, find, inl, inr, map, refl, sym, take, true, ℕ}
use Rattle.std.specs.List.{list_any}
use Rattle.std.proofs.Math.Path.{fun_ext}
use Rattle.std.proofs.lemmas.Bool.{both_ways, cases_Bool, false_from_ne_true, or_parts}
use Rattle.std.proofs.lemmas.List.{take-append-drop}
use Rattle.std.proofs.lemmas.List.Folds.{list_any-append}
use Rattle.std.proofs.lemmas.List.Sums.{sum_by-cons}

-- ---- whether an item passes

-- tests that agree on each item
pub list_any-agree : {X : Type 0} (p q : X → Bool) → ((x : X) → p x ≡ q x) → (xs : List X) → list_any p xs ≡ list_any q xs
list_any-agree p q same xs = ap (λ test. list_any test xs) (fun_ext same)

pub list_any-map : {X Y : Type 0} (p : Y → Bool) (f : X → Y) (xs : List X) → list_any p (map f xs) ≡ list_any (λ x. p (f x)) xs
list_any-map p f [] = refl
list_any-map p f (x ∷ xs) = ap (λ b. p (f x) || b) (list_any-map p f xs)

-- a test of a list is the test of its first k items, or that of the rest
pub list_any-take-drop : {X : Type 0} (p : X → Bool) (k : ℕ) (xs : List X) → list_any p xs ≡ (list_any p (take k xs) || list_any p (drop k xs))
list_any-take-drop p k xs = ap (list_any p) (sym (take-append-drop k xs)) ∙ list_any-append p (take k xs) (drop k xs)

-- a test of what is mapped, and one of the items that says the same
pub list_any_map : {X Y : Type 0} (f : X → Y) (p : Y → Bool) (q : X → Bool) → ((x : X) → p (f x) ≡ q x) → (xs : List X) → list_any p (map f xs) ≡ list_any q xs
list_any_map f p q same [] = refl
list_any_map f p q same (x ∷ xs) = rw (same x, list_any_map f p q same xs)

-- ---- the first that passes

-- none that passes is dropped
pub find-kept : {X : Type 0} (p d : X → Bool) → ((x : X) → p x ≡ true → d x ≡ true) → (xs : List X) → find p (filter d xs) ≡ find p xs
find-kept p d implies [] = refl
find-kept p d implies (x ∷ xs) =
    elim (cases_Bool (d x)) [
      | inl kept ↦ elim (cases_Bool (p x)) [ inl passes ↦ rw (kept, passes) refl | inr fails ↦ rw (kept, fails) (find-kept p d implies xs) ]
      | inr dropped ↦
          let fails : p x ≡ false = false_from_ne_true (p x) (λ passes. both_ways (d x) dropped (implies x passes)) in
          rw (dropped, fails) (find-kept p d implies xs)
    ]

pub find-nowhere : {X : Type 0} (p : X → Bool) (xs : List X) → list_any p xs ≡ false → find p xs ≡ None
find-nowhere p [] none = refl
find-nowhere p (x ∷ xs) none = let parts = or_parts (p x) (list_any p xs) none in rw parts.0 (find-nowhere p xs parts.1)

-- ---- how many pass

pub count_by-cons : {X : Type 0} (p : X → Bool) (x : X) (xs : List X) → count_by p (x ∷ xs) ≡ cond (p x) 1 0 + count_by p xs
count_by-cons p x xs = sum_by-cons (λ y. cond (p y) 1 0) x xs

pub count_by-push : {X : Type 0} (p : X → Bool) (xs : List X) (x : X) → count_by p (xs ++ x ∷ []) ≡ count_by p xs + cond (p x) 1 0
count_by-push p [] x = let e = sum_by-cons (λ y. cond (p y) 1 0) x [] in omega arith
count_by-push p (y ∷ ys) x =
    let long = sum_by-cons (λ z. cond (p z) 1 0) y (ys ++ x ∷ []) in
    let short = sum_by-cons (λ z. cond (p z) 1 0) y ys in
    let rest = count_by-push p ys x in
    omega arith

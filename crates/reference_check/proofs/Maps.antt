-- Tests and numbers over mapped lists.
use Rattle.std.proofs.Common.{[], ◌&&◌, ◌<◌, ◌||◌, ◌≡◌, ◌∙◌, ◌∷◌, Bool, List, None, Some, ap, arith, cond, false, get_or, length, map, nat_lt, position, refl, sym, true, ℕ}
use Rattle.std.specs.List.{find, list_any, position_or_len, slice_get}
use Rattle.std.specs.Prelude.{bytes_eq}
use Rattle.std.proofs.lemmas.Bool.Decides.{nat_tests}
use Rattle.std.proofs.lemmas.List.Folds.{find_at}
use Rattle.std.proofs.lemmas.Option.{slice_get-get_or}
use Rattle.vpc_base.proofs.Positions.{list_any-position, missing_number, position_map}
use Rattle.vpc_base.proofs.Tests.{list_any_map}
use Rattle.vpc_model.specs.Lookup.{is_listed}

-- what a number that was found says
pub record IsFound {X : Type 0} (p : X → Bool) (xs : List X) (k : ℕ) : Type 0 where
  pub there : list_any p xs ≡ true
  pub number : position_or_len p xs ≡ k
  pub within : k < length xs

pub found_number : {X : Type 0} (p : X → Bool) (xs : List X) (k : ℕ) → position p xs ≡ Some k → IsFound p xs k
found_number p xs k h = by (nat_lt (position_or_len p xs) (length xs)) refl h
  where
    by : (b : Bool) → nat_lt (position_or_len p xs) (length xs) ≡ b → cond b (Some (position_or_len p xs)) None ≡ Some k → IsFound p xs k
    by true e i =
        let same : position_or_len p xs ≡ k = cc in
        record { there = list_any-position p xs ∙ e; number = same; within = grind (arith, nat_tests) }
    by false e i = absurd (cc)

-- a row that is found by its id
pub found_row : {X : Type 0} (f : X → List ℕ) (id : List ℕ) (ids : List (List ℕ)) (xs : List X) (k : ℕ) → ids ≡ map f xs → position (λ i. bytes_eq i id) ids ≡ Some k → IsFound (λ x. bytes_eq (f x) id) xs k
found_row f id ids xs k same h =
    found_number (λ x. bytes_eq (f x) id) xs k (sym (position_map f (λ i. bytes_eq i id) (λ x. bytes_eq (f x) id) (λ x. refl) xs) ∙ (rw same at h))

pub missing_row : {X : Type 0} (f : X → List ℕ) (id : List ℕ) (ids : List (List ℕ)) (xs : List X) → ids ≡ map f xs → position (λ i. bytes_eq i id) ids ≡ None → list_any (λ x. bytes_eq (f x) id) xs ≡ false
missing_row f id ids xs same h =
    missing_number (λ x. bytes_eq (f x) id) xs (sym (position_map f (λ i. bytes_eq i id) (λ x. bytes_eq (f x) id) (λ x. refl) xs) ∙ (rw same at h))

-- whether a row is there, by the ids
pub listed_row : {X : Type 0} (f : X → List ℕ) (id : List ℕ) (ids : List (List ℕ)) (xs : List X) → ids ≡ map f xs → is_listed id ids ≡ list_any (λ x. bytes_eq (f x) id) xs
listed_row f id ids xs same = rw same (list_any_map f (λ i. bytes_eq i id) (λ x. bytes_eq (f x) id) (λ x. refl) xs)

-- the number of a row, by the ids
pub position_row : {X : Type 0} (f : X → List ℕ) (id : List ℕ) (ids : List (List ℕ)) (xs : List X) → ids ≡ map f xs → position (λ i. bytes_eq i id) ids ≡ position (λ x. bytes_eq (f x) id) xs
position_row f id ids xs same = rw same (position_map f (λ i. bytes_eq i id) (λ x. bytes_eq (f x) id) (λ x. refl) xs)

-- the row with a number that was found
pub read_row : {X : Type 0} (p : X → Bool) (xs : List X) (k : ℕ) (x : X) → IsFound p xs k → x ≡ get_or xs k x → Some x ≡ find p xs
read_row p xs k x found at =
    sym (find_at p xs ∙ ap (slice_get xs) found.number ∙ slice_get-get_or xs k x found.within ∙ ap Some (sym at))

-- a test beside one that is the same of each item
pub and-any : {X : Type 0} (b : Bool) (f : X → Bool) (xs : List X) → list_any (λ x. b && f x) xs ≡ (list_any f xs && b)
and-any b f [] = refl
and-any b f (x ∷ xs) = ap (λ r. (b && f x) || r) (and-any b f xs) ∙ by b (f x) (list_any f xs)
  where
    by : (a c e : Bool) → ((a && c) || (e && a)) ≡ ((c || e) && a)
    by true true e = refl
    by true false true = refl
    by true false false = refl
    by false true true = refl
    by false true false = refl
    by false false true = refl
    by false false false = refl

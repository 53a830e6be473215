-- Lists of which some items were taken out.
use Rattle.std.proofs.Common.{◌≡◌, ◌≤◌, ◌++◌, ◌∷◌, [], Bool, List, ap₂, arith, drop, false, length, refl, subst, suc, take, zero, ℕ}
use Rattle.std.specs.List.{flat_map, list_any, remove, remove_range}
use Rattle.std.proofs.lemmas.Bool.{or_from, or_parts}
use Rattle.std.proofs.lemmas.List.{take-append-drop}
use Rattle.vpc_base.proofs.Members.{append-nothing}

-- the second has some of the items of the first, in their order
pub data IsPart {X : Type 0} : List X → List X → Type 0 where
  none : IsPart [] []
  kept : {x : X} {xs ys : List X} → IsPart xs ys → IsPart (x ∷ xs) (x ∷ ys)
  gone : {x : X} {xs ys : List X} → IsPart xs ys → IsPart (x ∷ xs) ys

-- ---- what is the same of a part

pub length-part : {X : Type 0} {xs ys : List X} → IsPart xs ys → length ys ≤ length xs
length-part none = omega arith
length-part (kept part) = let rest = length-part part in omega arith
length-part (gone part) = let rest = length-part part in omega arith

-- what no item passes, none of the part does
pub none-part : {X : Type 0} {xs ys : List X} (p : X → Bool) → IsPart xs ys → list_any p xs ≡ false → list_any p ys ≡ false
none-part p none e = refl
none-part p (kept {x} {xs} {ys} part) e =
    let parts = or_parts (p x) (list_any p xs) e in or_from (p x) (list_any p ys) parts.0 (none-part p part parts.1)
none-part p (gone {x} {xs} {ys} part) e = let parts = or_parts (p x) (list_any p xs) e in none-part p part parts.1

pub nothing-part : {X Y : Type 0} {xs ys : List X} (f : X → List Y) → IsPart xs ys → flat_map f xs ≡ [] → flat_map f ys ≡ []
nothing-part f none e = refl
nothing-part f (kept {x} {xs} {ys} part) e =
    let parts = append-nothing (f x) (flat_map f xs) e in
    ap₂ (λ a rest. a ++ rest) parts.0 (nothing-part f part parts.1)
nothing-part f (gone {x} {xs} {ys} part) e = let parts = append-nothing (f x) (flat_map f xs) e in nothing-part f part parts.1

-- ---- parts

pub part-itself : {X : Type 0} (xs : List X) → IsPart xs xs
part-itself [] = none
part-itself (x ∷ xs) = kept (part-itself xs)

nothing-is-part : {X : Type 0} (xs : List X) → IsPart xs []
nothing-is-part [] = none
nothing-is-part (x ∷ xs) = gone (nothing-is-part xs)

both-parts : {X : Type 0} {xs ys vs ws : List X} → IsPart xs ys → IsPart vs ws → IsPart (xs ++ vs) (ys ++ ws)
both-parts none second = second
both-parts (kept first) second = kept (both-parts first second)
both-parts (gone first) second = gone (both-parts first second)

drop-is-part : {X : Type 0} (n : ℕ) (xs : List X) → IsPart xs (drop n xs)
drop-is-part zero xs = part-itself xs
drop-is-part (suc n) [] = none
drop-is-part (suc n) (x ∷ xs) = gone (drop-is-part n xs)

drop-part : {X : Type 0} (j k : ℕ) (xs : List X) → j ≤ k → IsPart (drop j xs) (drop k xs)
drop-part zero k xs less = drop-is-part k xs
drop-part (suc j) zero xs less = absurd (omega arith)
drop-part (suc j) (suc k) [] less = none
drop-part (suc j) (suc k) (x ∷ xs) less = drop-part j k xs (omega arith)

take-part : {X : Type 0} (j k : ℕ) (xs : List X) → j ≤ k → IsPart (take k xs) (take j xs)
take-part zero k xs less = nothing-is-part (take k xs)
take-part (suc j) zero xs less = absurd (omega arith)
take-part (suc j) (suc k) [] less = none
take-part (suc j) (suc k) (x ∷ xs) less = kept (take-part j k xs (omega arith))

-- a range is taken out
pub range-part : {X : Type 0} (xs : List X) (first end : ℕ) → first ≤ end → IsPart xs (remove_range xs first end)
range-part {X} xs first end less =
    subst (λ (ys : List X). IsPart ys (remove_range xs first end)) (take-append-drop first xs)
    (both-parts (part-itself (take first xs)) (drop-part first end xs less))

-- one is taken out
pub one-part : {X : Type 0} (xs : List X) (k : ℕ) → IsPart xs (remove xs k)
one-part xs k = range-part xs k (suc k) (omega arith)

-- a range, or one of it alone
pub range-part_of_one : {X : Type 0} (xs : List X) (k first end : ℕ) → first ≤ k → suc k ≤ end
    → IsPart (remove xs k) (remove_range xs first end)
range-part_of_one xs k first end from to = both-parts (take-part first k xs from) (drop-part (suc k) end xs to)

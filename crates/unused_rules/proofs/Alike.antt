-- Lists that are alike item by item.
use Rattle.std.proofs.Common.{◌≡◌, ◌+◌, ◌∙◌, ◌||◌, ◌++◌, ◌∷◌, [], Bool, List, None, Some, ap, ap₂, cond, false, get_or, length, map, not, refl, slice_set, suc, sym, zero, ℕ}
use Rattle.std.specs.List.{count_by, flat_map, list_any, position, position_or_len}
use Rattle.std.specs.Prelude.{nat_lt}
use Rattle.std.proofs.lemmas.Bool.{or_from, or_parts}
use Rattle.vpc_base.proofs.Members.{append-nothing}
use Rattle.vpc_base.proofs.Tests.{count_by-cons}

-- ---- alike

-- as long, and each two items in one place are in the relation
abbrev pub Alike : {X : Type 0} → (X → X → Type 0) → List X → List X → Type 0
Alike R [] [] = Unit {0}
Alike R (x ∷ xs) (y ∷ ys) = R x y × Alike R xs ys
Alike R _ _ = ⊥

pub alike_itself : {X : Type 0} (R : X → X → Type 0) → ((x : X) → R x x) → (xs : List X) → Alike R xs xs
alike_itself R itself [] = tt
alike_itself R itself (x ∷ xs) = (itself x, alike_itself R itself xs)

-- both replace one item
pub alike_both_set : {X : Type 0} (R : X → X → Type 0) → ((x : X) → R x x) → (xs : List X) (k : ℕ) (x y : X) → R x y → Alike R (slice_set xs k x) (slice_set xs k y)
alike_both_set R itself [] k x y one = tt
alike_both_set R itself (z ∷ zs) zero x y one = (one, alike_itself R itself zs)
alike_both_set R itself (z ∷ zs) (suc k) x y one = (itself z, alike_both_set R itself zs k x y one)

-- one item is replaced
pub alike_set : {X : Type 0} (R : X → X → Type 0) → ((x : X) → R x x) → (xs : List X) (k : ℕ) (none y : X) → R (get_or xs k none) y → Alike R xs (slice_set xs k y)
alike_set R itself [] k none y one = tt
alike_set R itself (x ∷ xs) zero none y one = (one, alike_itself R itself xs)
alike_set R itself (x ∷ xs) (suc k) none y one = (itself x, alike_set R itself xs k none y one)

-- ---- what is the same of lists that are alike

pub length-alike : {X : Type 0} (R : X → X → Type 0) (xs ys : List X) → Alike R xs ys → length xs ≡ length ys
length-alike R [] [] alike = refl
length-alike R (x ∷ xs) (y ∷ ys) alike = ap suc (length-alike R xs ys alike.1)
length-alike R [] (y ∷ ys) alike = absurd alike
length-alike R (x ∷ xs) [] alike = absurd alike

pub map-alike : {X Y : Type 0} (R : X → X → Type 0) (f : X → Y) → ((x y : X) → R x y → f x ≡ f y) → (xs ys : List X) → Alike R xs ys → map f xs ≡ map f ys
map-alike R f same [] [] alike = refl
map-alike R f same (x ∷ xs) (y ∷ ys) alike = ap₂ (λ a rest. a ∷ rest) (same x y alike.0) (map-alike R f same xs ys alike.1)
map-alike R f same [] (y ∷ ys) alike = absurd alike
map-alike R f same (x ∷ xs) [] alike = absurd alike

pub flat_map-alike : {X Y : Type 0} (R : X → X → Type 0) (f : X → List Y) → ((x y : X) → R x y → f x ≡ f y) → (xs ys : List X) → Alike R xs ys → flat_map f xs ≡ flat_map f ys
flat_map-alike R f same [] [] alike = refl
flat_map-alike R f same (x ∷ xs) (y ∷ ys) alike = ap₂ (λ a rest. a ++ rest) (same x y alike.0) (flat_map-alike R f same xs ys alike.1)
flat_map-alike R f same [] (y ∷ ys) alike = absurd alike
flat_map-alike R f same (x ∷ xs) [] alike = absurd alike

pub list_any-alike : {X : Type 0} (R : X → X → Type 0) (p : X → Bool) → ((x y : X) → R x y → p x ≡ p y) → (xs ys : List X) → Alike R xs ys → list_any p xs ≡ list_any p ys
list_any-alike R p same [] [] alike = refl
list_any-alike R p same (x ∷ xs) (y ∷ ys) alike = ap₂ (λ a b. a || b) (same x y alike.0) (list_any-alike R p same xs ys alike.1)
list_any-alike R p same [] (y ∷ ys) alike = absurd alike
list_any-alike R p same (x ∷ xs) [] alike = absurd alike

pub count-alike : {X : Type 0} (R : X → X → Type 0) (p : X → Bool) → ((x y : X) → R x y → p x ≡ p y) → (xs ys : List X) → Alike R xs ys → count_by p xs ≡ count_by p ys
count-alike R p same [] [] alike = refl
count-alike R p same (x ∷ xs) (y ∷ ys) alike =
    count_by-cons p x xs ∙ (ap₂ (λ b n. cond b 1 0 + n) (same x y alike.0) (count-alike R p same xs ys alike.1) ∙ sym (count_by-cons p y ys))
count-alike R p same [] (y ∷ ys) alike = absurd alike
count-alike R p same (x ∷ xs) [] alike = absurd alike

-- the items in one place
pub get_or-alike : {X : Type 0} (R : X → X → Type 0) (none : X) → R none none → (xs ys : List X) (k : ℕ) → Alike R xs ys → R (get_or xs k none) (get_or ys k none)
get_or-alike R none itself [] [] k alike = itself
get_or-alike R none itself (x ∷ xs) (y ∷ ys) zero alike = alike.0
get_or-alike R none itself (x ∷ xs) (y ∷ ys) (suc k) alike = get_or-alike R none itself xs ys k alike.1
get_or-alike R none itself [] (y ∷ ys) k alike = absurd alike
get_or-alike R none itself (x ∷ xs) [] k alike = absurd alike

pub first-alike : {X : Type 0} (R : X → X → Type 0) (p : X → Bool) → ((x y : X) → R x y → p x ≡ p y) → (xs ys : List X) → Alike R xs ys → position_or_len p xs ≡ position_or_len p ys
first-alike R p same [] [] alike = refl
first-alike R p same (x ∷ xs) (y ∷ ys) alike = ap₂ (λ b n. cond (not b) (1 + n) 0) (same x y alike.0) (first-alike R p same xs ys alike.1)
first-alike R p same [] (y ∷ ys) alike = absurd alike
first-alike R p same (x ∷ xs) [] alike = absurd alike

pub position-alike : {X : Type 0} (R : X → X → Type 0) (p : X → Bool) → ((x y : X) → R x y → p x ≡ p y) → (xs ys : List X) → Alike R xs ys → position p xs ≡ position p ys
position-alike R p same xs ys alike = ap₂ (λ k n. cond (nat_lt k n) (Some k) None) (first-alike R p same xs ys alike) (length-alike R xs ys alike)

-- where nothing is made of the items of one, nothing is made of those of the other
pub nothing-alike : {X Y : Type 0} (R : X → X → Type 0) (f : X → List Y) → ((x y : X) → R x y → f x ≡ [] → f y ≡ []) → (xs ys : List X) → Alike R xs ys → flat_map f xs ≡ [] → flat_map f ys ≡ []
nothing-alike R f less [] [] alike none = refl
nothing-alike R f less (x ∷ xs) (y ∷ ys) alike none =
    let parts = append-nothing (f x) (flat_map f xs) none in
    both-nothing (f y) (flat_map f ys) (less x y alike.0 parts.0) (nothing-alike R f less xs ys alike.1 parts.1)
  where
    both-nothing : {Z : Type 0} (cs ds : List Z) → cs ≡ [] → ds ≡ [] → cs ++ ds ≡ []
    both-nothing cs ds a b = ap₂ (λ c d. c ++ d) a b
nothing-alike R f less [] (y ∷ ys) alike none = absurd alike
nothing-alike R f less (x ∷ xs) [] alike none = absurd alike

-- where none of the items of one passes, none of the other does
pub none-alike : {X : Type 0} (R : X → X → Type 0) (p : X → Bool) → ((x y : X) → R x y → p x ≡ false → p y ≡ false) → (xs ys : List X) → Alike R xs ys → list_any p xs ≡ false → list_any p ys ≡ false
none-alike R p less [] [] alike none = refl
none-alike R p less (x ∷ xs) (y ∷ ys) alike none =
    let parts = or_parts (p x) (list_any p xs) none in
    or_from (p y) (list_any p ys) (less x y alike.0 parts.0) (none-alike R p less xs ys alike.1 parts.1)
none-alike R p less [] (y ∷ ys) alike none = absurd alike
none-alike R p less (x ∷ xs) [] alike none = absurd alike

-- ---- functions that agree

pub flat_map-same : {X Y : Type 0} (f g : X → List Y) → ((x : X) → f x ≡ g x) → (xs : List X) → flat_map f xs ≡ flat_map g xs
flat_map-same f g same [] = refl
flat_map-same f g same (x ∷ xs) = ap₂ (λ a rest. a ++ rest) (same x) (flat_map-same f g same xs)

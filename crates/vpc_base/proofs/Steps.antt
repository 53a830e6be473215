-- One more item of a loop.
use Rattle.std.proofs.Common.{◌≡◌, ◌∙◌, ◌++◌, ◌+◌, ◌<◌, ◌≤◌, ◌∷◌, [], All, List, ap, append-nil, append_assoc, drop, flat_map, get_or, length, map, subst, sym, take, ℕ}
use Rattle.std.proofs.lemmas.Grind.{flat_map-append}
use Rattle.std.proofs.lemmas.List.{drop_more, map_more, take_all}
use Rattle.std.proofs.lemmas.List.Elements.{All-more}

-- the item of this number and those after it
pub drop-next : {X : Type 0} (xs : List X) (i : ℕ) (x : X) → i < length xs → x ≡ get_or xs i x → drop i xs ≡ x ∷ drop (i + 1) xs
drop-next xs i x within is = drop_more xs i x within ∙ ap (λ y. y ∷ drop (i + 1) xs) (sym is)

-- ---- what holds of all

pub All-one_more : {X : Type 0} (P : X → Type 0) (xs : List X) (i : ℕ) (x : X) → i < length xs → x ≡ get_or xs i x → All P (take i xs) → P x → All P (take (i + 1) xs)
All-one_more P xs i x within is all one = All-more P xs i x within all (subst P is one)

pub All-whole : {X : Type 0} (P : X → Type 0) (xs : List X) (i : ℕ) → length xs ≤ i → All P (take i xs) → All P xs
All-whole P xs i past all = subst (All P) (take_all i xs past) all

-- ---- what is made of each

-- one more item that is mapped
pub pushed-map : {X Y : Type 0} (f : X → Y) (start : List Y) (xs : List X) (i : ℕ) (x : X) (old new : List Y) → i < length xs → x ≡ get_or xs i x → old ≡ start ++ map f (take i xs) → new ≡ old ++ f x ∷ [] → new ≡ start ++ map f (take (i + 1) xs)
pushed-map f start xs i x old new within is so_far added =
    added
    ∙ (ap (λ l. l ++ f x ∷ []) so_far
    ∙ (append_assoc start (map f (take i xs)) (f x ∷ [])
    ∙ ap (λ l. start ++ l) (ap (λ y. map f (take i xs) ++ f y ∷ []) is ∙ sym (map_more f xs i x within))))

pub flat_map-push : {X Y : Type 0} (f : X → List Y) (xs : List X) (x : X) → flat_map f (xs ++ x ∷ []) ≡ flat_map f xs ++ f x
flat_map-push {Y = Y} f xs x = flat_map-append f xs (x ∷ []) ∙ ap (λ (l : List Y). flat_map f xs ++ l) (append-nil (f x))

-- one more item's values
pub pushed-flat_map : {X Y : Type 0} (f : X → List Y) (xs : List X) (x : X) (start old new : List Y) → old ≡ start ++ flat_map f xs → new ≡ old ++ f x → new ≡ start ++ flat_map f (xs ++ x ∷ [])
pushed-flat_map {Y = Y} f xs x start old new so_far added =
    added
    ∙ (ap (λ (l : List Y). l ++ f x) so_far
    ∙ (append_assoc start (flat_map f xs) (f x) ∙ ap (λ (l : List Y). start ++ l) (sym (flat_map-push f xs x))))

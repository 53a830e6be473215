-- One more row of a loop.
use Rattle.std.proofs.Common.{◌≡◌, ◌∙◌, ◌++◌, ◌+◌, ◌<◌, ◌≤◌, ◌∷◌, [], ℕ, List, None, Option, Some, ap, append_assoc, get_or, length, map, refl, subst, sym, take}
use Rattle.std.specs.List.{filter_map, flat_map}
use Rattle.std.specs.Prelude.{option_to_list}
use Rattle.std.proofs.lemmas.List.{append-nil, get_or_default, map-append, take_all}
use Rattle.std.proofs.lemmas.List.Elements.{filter_map-append}
use Rattle.std.proofs.lemmas.Grind.{flat_map-append, take_at_read}

-- the rows so far, with this one
pub take_next : {X : Type 0} (xs : List X) (i : ℕ) (x : X) → i < length xs → x ≡ get_or xs i x → take (i + 1) xs ≡ take i xs ++ x ∷ []
take_next xs i x within is = (take_at_read xs i x within).1 ∙ ap (λ y. take i xs ++ y ∷ []) (sym is)

-- what is kept of one
filter_map-one : {X Y : Type 0} (f : X → Option Y) (x : X) (o : Option Y) → f x ≡ o → filter_map f (x ∷ []) ≡ option_to_list (f x)
filter_map-one f x None e = rw e refl
filter_map-one f x (Some y) e = rw e refl

-- one more of those that are kept
pub filter_map-next : {X Y : Type 0} (f : X → Option Y) (xs : List X) (i : ℕ) (x : X) (now next : List Y) → i < length xs → x ≡ get_or xs i x → now ≡ filter_map f (take i xs) → next ≡ now ++ option_to_list (f x) → next ≡ filter_map f (take (i + 1) xs)
filter_map-next f xs i x now next within is so_far added =
    added
    ∙ ap (λ ys. ys ++ option_to_list (f x)) so_far
    ∙ ap (λ ys. filter_map f (take i xs) ++ ys) (sym (filter_map-one f x (f x) refl))
    ∙ sym (filter_map-append f (take i xs) (x ∷ []))
    ∙ ap (filter_map f) (sym (take_next xs i x within is))

-- one more row's values
pub flat_map-next : {X Y : Type 0} (f : X → List Y) (before : List Y) (xs : List X) (i : ℕ) (x : X) (now next : List Y) → i < length xs → x ≡ get_or xs i x → now ≡ before ++ flat_map f (take i xs) → next ≡ now ++ f x
    → next ≡ before ++ flat_map f (take (i + 1) xs)
flat_map-next f before xs i x now next within is so_far added =
    added
    ∙ ap (λ ys. ys ++ f x) so_far
    ∙ append_assoc before (flat_map f (take i xs)) (f x)
    ∙ ap (λ ys. before ++ (flat_map f (take i xs) ++ ys)) (sym (append-nil (f x)))
    ∙ ap (λ ys. before ++ ys) (sym (flat_map-append f (take i xs) (x ∷ [])))
    ∙ ap (λ ys. before ++ flat_map f ys) (sym (take_next xs i x within is))

-- one more value
pub map-next : {X Y : Type 0} (f : X → Y) (xs : List X) (i : ℕ) (x : X) (now next : List Y) → i < length xs → x ≡ get_or xs i x → now ≡ map f (take i xs) → next ≡ now ++ f x ∷ [] → next ≡ map f (take (i + 1) xs)
map-next f xs i x now next within is so_far added =
    added
    ∙ ap (λ ys. ys ++ f x ∷ []) so_far
    ∙ sym (map-append f (take i xs) (x ∷ []))
    ∙ ap (map f) (sym (take_next xs i x within is))

-- a row that is read from a list by another name
pub read_from : {X : Type 0} (rows all : List X) (i : ℕ) (x : X) → rows ≡ all → i < length rows → x ≡ get_or rows i x → (i < length all) × (x ≡ get_or all i x)
read_from rows all i x same within is = (subst (λ xs. i < length xs) same within, is ∙ ap (λ xs. get_or xs i x) same)

-- the rows of a loop that has ended
pub take_whole : {X : Type 0} (all rows : List X) (i : ℕ) → rows ≡ all → length rows ≤ i → take i all ≡ all
take_whole all rows i same ended = take_all i all (subst (λ xs. length xs ≤ i) same ended)

-- the row with a number
pub row_is : {X : Type 0} (rows all : List X) (i : ℕ) (x d : X) → rows ≡ all → i < length all → x ≡ get_or rows i x → x ≡ get_or all i d
row_is rows all i x d same within is = is ∙ ap (λ xs. get_or xs i x) same ∙ get_or_default all i x d within

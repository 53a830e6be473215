-- Two lists whose items belong together.
use Rattle.std.proofs.Common.{◌≡◌, ◌∙◌, ◌++◌, ◌+◌, ◌<◌, ◌∷◌, [], List, ap, arith, get_or, length, refl, subst, suc, sym, take, zero, ℕ}
use Rattle.std.specs.List.{AllZip}
use Rattle.std.proofs.lemmas.Grind.{take_at_read}

-- the items with a number
pub zip_at : {A B : Type 0} (R : A → B → Type 0) (xs : List A) (ys : List B) (i : ℕ) (d : A) (e : B) → AllZip R xs ys → i < length xs → R (get_or xs i d) (get_or ys i e)
zip_at R [] [] i d e zip within = absurd (omega arith)
zip_at R [] (y ∷ ys) i d e zip within = absurd zip
zip_at R (x ∷ xs) [] i d e zip within = absurd zip
zip_at R (x ∷ xs) (y ∷ ys) zero d e zip within = zip.0
zip_at R (x ∷ xs) (y ∷ ys) (suc i) d e zip within = zip_at R xs ys i d e zip.1 (omega arith)

-- one more of each at the end
zip_push : {A B : Type 0} (R : A → B → Type 0) (xs : List A) (ys : List B) (x : A) (y : B) → AllZip R xs ys → R x y → AllZip R (xs ++ x ∷ []) (ys ++ y ∷ [])
zip_push R [] [] x y zip both = (both, tt)
zip_push R [] (b ∷ bs) x y zip both = absurd zip
zip_push R (a ∷ as') [] x y zip both = absurd zip
zip_push R (a ∷ as') (b ∷ bs) x y zip both = (zip.0, zip_push R as' bs x y zip.1 both)

-- one more of each
pub zip_more : {A B : Type 0} (R : A → B → Type 0) (xs : List A) (ys : List B) (i : ℕ) (x : A) (y : B) → i < length xs → x ≡ get_or xs i x → AllZip R (take i xs) ys → R x y → AllZip R (take (i + 1) xs) (ys ++ y ∷ [])
zip_more {A} R xs ys i x y within is zip both =
    let taken : take (i + 1) xs ≡ take i xs ++ x ∷ [] = (take_at_read xs i x within).1 ∙ ap (λ (z : A). take i xs ++ z ∷ []) (sym is) in
    subst (λ (zs : List A). AllZip R zs (ys ++ y ∷ [])) (sym taken) (zip_push R (take i xs) ys x y zip both)

-- one more of each, by the list that they make
pub zip_next : {A B : Type 0} (R : A → B → Type 0) (xs : List A) (ys next : List B) (i : ℕ) (x : A) (y : B) → i < length xs → x ≡ get_or xs i x → AllZip R (take i xs) ys → R x y → next ≡ ys ++ y ∷ [] → AllZip R (take (i + 1) xs) next
zip_next {B = B} R xs ys next i x y within is zip both added = subst (λ (zs : List B). AllZip R (take (i + 1) xs) zs) (sym added) (zip_more R xs ys i x y within is zip both)

-- two lists whose items belong together are equally long
pub length-zip : {A B : Type 0} (R : A → B → Type 0) (xs : List A) (ys : List B) → AllZip R xs ys → length xs ≡ length ys
length-zip R [] [] zip = refl
length-zip R [] (y ∷ ys) zip = absurd zip
length-zip R (x ∷ xs) [] zip = absurd zip
length-zip R (x ∷ xs) (y ∷ ys) zip = ap suc (length-zip R xs ys zip.1)

-- ---- as far as two lists were read

-- one place more
pub zip_longer : {A B : Type 0} (R : A → B → Type 0) (xs : List A) (ys : List B) (i : ℕ) (x : A) (y : B) → i < length xs → i < length ys
    → x ≡ get_or xs i x → y ≡ get_or ys i y → AllZip R (take i xs) (take i ys) → R x y → AllZip R (take (i + 1) xs) (take (i + 1) ys)
zip_longer {A} {B} R xs ys i x y within there is at zip both =
    let one : take (i + 1) xs ≡ take i xs ++ x ∷ [] = (take_at_read xs i x within).1 ∙ ap (λ (z : A). take i xs ++ z ∷ []) (sym is) in
    let other : take (i + 1) ys ≡ take i ys ++ y ∷ [] = (take_at_read ys i y there).1 ∙ ap (λ (z : B). take i ys ++ z ∷ []) (sym at) in
    subst (λ (zs : List A). AllZip R zs (take (i + 1) ys)) (sym one)
    (subst (λ (zs : List B). AllZip R (take i xs ++ x ∷ []) zs) (sym other) (zip_push R (take i xs) (take i ys) x y zip both))

-- Rows of which some are dropped, told in one pass.
use Rattle.std.proofs.Common.{◌≡◌, ◌∙◌, ◌++◌, ◌∷◌, ◌||◌, ℕ, Bool, true, false, List, [], None, Option, Some, refl, ap, sym, subst, not, filter, bytes_eq, cond, append_assoc}
use Rattle.std.specs.List.{list_any}
use Rattle.std.proofs.lemmas.List.{append-nil}
use Rattle.std.proofs.lemmas.List.Folds.{list_any-append}
use Rattle.std.proofs.lemmas.Slice.Eq.{bytes_eq-Decides}
use Rattle.json_fields.specs.Kept.{firsts_by, first_of_each, those_there, with_another}

-- the rows whose keys were not seen
abbrev pub unseen : {A K : Type 0} → (K → K → Bool) → (A → K) → List K → List A → List A
unseen same key_of seen rows = filter (λ row. not (list_any (same (key_of row)) seen)) rows

-- nothing was seen yet
pub unseen-none : {A K : Type 0} (same : K → K → Bool) (key_of : A → K) (rows : List A) → unseen same key_of [] rows ≡ rows
unseen-none same key_of [] = refl
unseen-none same key_of (row ∷ rows) = ap (λ others. row ∷ others) (unseen-none same key_of rows)

-- rows with another key that were not seen either
pub unseen-with_another : {A K : Type 0} (same : K → K → Bool) (key_of : A → K) (seen : List K) (key : K) (rows : List A)
    → unseen same key_of seen (with_another same key_of key rows) ≡ unseen same key_of (seen ++ key ∷ []) rows
unseen-with_another same key_of seen key [] = refl
unseen-with_another {A = A} same key_of seen key (row ∷ rows) =
    rw (list_any-append (same (key_of row)) seen (key ∷ []))
    (by (unseen-with_another same key_of seen key rows) (same (key_of row) key))
  where
    equal : (was : Bool) (xs ys : List A) → xs ≡ cond (not (was || (true || false))) ys xs
    equal true xs ys = refl
    equal false xs ys = refl

    other : (was : Bool) (xs ys : List A) → xs ≡ ys → cond (not was) (row ∷ xs) xs ≡ cond (not (was || (false || false))) (row ∷ ys) ys
    other true xs ys e = e
    other false xs ys e = ap (λ zs. row ∷ zs) e

    by : unseen same key_of seen (with_another same key_of key rows) ≡ unseen same key_of (seen ++ key ∷ []) rows
        → (is : Bool) → unseen same key_of seen (cond (not is) (row ∷ with_another same key_of key rows) (with_another same key_of key rows))
        ≡ cond (not (list_any (same (key_of row)) seen || (is || false))) (row ∷ unseen same key_of (seen ++ key ∷ []) rows) (unseen same key_of (seen ++ key ∷ []) rows)
    by others true = others ∙ equal (list_any (same (key_of row)) seen) (unseen same key_of (seen ++ key ∷ []) rows) (row ∷ unseen same key_of (seen ++ key ∷ []) rows)
    by others false = other (list_any (same (key_of row)) seen) (unseen same key_of seen (with_another same key_of key rows)) (unseen same key_of (seen ++ key ∷ []) rows) others

-- a row with a new key is kept
pub unseen-new : {A K : Type 0} (same : K → K → Bool) (key_of : A → K) (seen : List K) (row : A) (rows : List A)
    → list_any (same (key_of row)) seen ≡ false
    → unseen same key_of seen (firsts_by same key_of (row ∷ rows)) ≡ row ∷ unseen same key_of (seen ++ key_of row ∷ []) (firsts_by same key_of rows)
unseen-new {A = A} same key_of seen row rows new =
    by (list_any (same (key_of row)) seen) new (unseen same key_of seen (with_another same key_of (key_of row) (firsts_by same key_of rows))) (unseen same key_of (seen ++ key_of row ∷ []) (firsts_by same key_of rows))
    (unseen-with_another same key_of seen (key_of row) (firsts_by same key_of rows))
  where
    by : (was : Bool) → was ≡ false → (xs ys : List A) → xs ≡ ys → cond (not was) (row ∷ xs) xs ≡ row ∷ ys
    by was e xs ys f = rw (e, f) refl

-- a row with a new key comes after those that were kept
pub kept-new : {A K : Type 0} (same : K → K → Bool) (key_of : A → K) (seen : List K) (kept : List A) (row : A) (rows : List A)
    → list_any (same (key_of row)) seen ≡ false
    → kept ++ unseen same key_of seen (firsts_by same key_of (row ∷ rows)) ≡ (kept ++ row ∷ []) ++ unseen same key_of (seen ++ key_of row ∷ []) (firsts_by same key_of rows)
kept-new same key_of seen kept row rows new =
    ap (λ others. kept ++ others) (unseen-new same key_of seen row rows new) ∙ sym (append_assoc kept (row ∷ []) _)

-- a key that was seen before is seen once more
pub list_any-seen : {K : Type 0} (same : K → K → Bool) → ((x y : K) → same x y ≡ true → x ≡ y) → (seen : List K) (key other : K) → list_any (same key) seen ≡ true
    → list_any (same other) (seen ++ key ∷ []) ≡ list_any (same other) seen
list_any-seen {K = K} same tells seen key other known =
    list_any-append (same other) seen (key ∷ []) ∙ by (same other key) refl
  where
    or_true : (b : Bool) → b ≡ true → b ≡ (b || (true || false))
    or_true b e = rw e refl

    or_false : (b : Bool) → (b || (false || false)) ≡ b
    or_false true = refl
    or_false false = refl

    by : (is : Bool) → same other key ≡ is → (list_any (same other) seen || (is || false)) ≡ list_any (same other) seen
    by true e =
        let one : other ≡ key = tells other key e in
        sym (or_true (list_any (same other) seen) (subst (λ (k : K). list_any (same k) seen ≡ true) (sym one) known))
    by false e = or_false (list_any (same other) seen)

-- a row with a key that was seen is dropped
pub dropped-seen : {A K : Type 0} (same : K → K → Bool) → ((x y : K) → same x y ≡ true → x ≡ y) → (key_of : A → K) (seen : List K) (row : A) (rows : List A)
    → list_any (same (key_of row)) seen ≡ true
    → unseen same key_of seen (firsts_by same key_of (row ∷ rows)) ≡ unseen same key_of seen (firsts_by same key_of rows)
dropped-seen {A = A} same tells key_of seen row rows known =
    by (list_any (same (key_of row)) seen) known (unseen same key_of seen (with_another same key_of (key_of row) (firsts_by same key_of rows)))
    ∙ (unseen-with_another same key_of seen (key_of row) (firsts_by same key_of rows) ∙ equal (firsts_by same key_of rows))
  where
    by : (was : Bool) → was ≡ true → (xs : List A) → cond (not was) (row ∷ xs) xs ≡ xs
    by was e xs = rw e refl

    step : (other : A) (one two : Bool) (xs ys : List A) → one ≡ two → xs ≡ ys → cond (not one) (other ∷ xs) xs ≡ cond (not two) (other ∷ ys) ys
    step other one two xs ys e f = rw (e, f) refl

    equal : (others : List A) → unseen same key_of (seen ++ key_of row ∷ []) others ≡ unseen same key_of seen others
    equal [] = refl
    equal (other ∷ others) =
        step other (list_any (same (key_of other)) (seen ++ key_of row ∷ [])) (list_any (same (key_of other)) seen) (unseen same key_of (seen ++ key_of row ∷ []) others) (unseen same key_of seen others)
        (list_any-seen same tells seen (key_of row) (key_of other) known) (equal others)

-- a row whose id is new is kept
pub kept-new_id : {A : Type 0} (id_of : A → List ℕ) (seen : List (List ℕ)) (kept : List A) (row : A) (rows : List A)
    → list_any (bytes_eq (id_of row)) seen ≡ false
    → kept ++ unseen bytes_eq id_of seen (first_of_each id_of (row ∷ rows)) ≡ (kept ++ row ∷ []) ++ unseen bytes_eq id_of (seen ++ id_of row ∷ []) (first_of_each id_of rows)
kept-new_id = kept-new bytes_eq

pub dropped-seen_id : {A : Type 0} (id_of : A → List ℕ) (seen : List (List ℕ)) (row : A) (rows : List A)
    → list_any (bytes_eq (id_of row)) seen ≡ true
    → unseen bytes_eq id_of seen (first_of_each id_of (row ∷ rows)) ≡ unseen bytes_eq id_of seen (first_of_each id_of rows)
dropped-seen_id id_of seen row rows known = dropped-seen bytes_eq (λ x y. (bytes_eq-Decides x y).0) id_of seen row rows known

-- a value that may be there, before others
pub there_next : {A : Type 0} (before : List A) (o : Option A) (others : List (Option A)) → before ++ those_there (o ∷ others) ≡ (before ++ those_there (o ∷ [])) ++ those_there others
there_next before None others = ap (λ xs. xs ++ those_there others) (sym (append-nil before))
there_next before (Some a) others = sym (append_assoc before (a ∷ []) (those_there others))

-- the lemmas by which a loop over rows keeps the first of each id
pub ruleset first_rows = (unseen-none, kept-new_id, dropped-seen_id)

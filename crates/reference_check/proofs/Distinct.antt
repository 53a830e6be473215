-- Ids of which none stands twice.
use Rattle.std.proofs.Common.{◌++◌, ◌≡◌, ◌∙◌, ◌∷◌, [], ◌||◌, Bool, List, ap, bytes_eq, cond, false, refl, true, ℕ}
use Rattle.std.specs.List.{list_any}
use Rattle.std.proofs.lemmas.List.Folds.{list_any-append}
use Rattle.std.proofs.lemmas.Slice.Eq.{bytes_eq-Decides}
use Rattle.vpc_base.proofs.Members.{map-nothing}
use Rattle.vpc_model.specs.declared.refusals.Refusal.TheVariants as refusals
use Rattle.vpc_model.specs.Accepted.{duplicates_in, repeats, repeats_after}

-- each id stands nowhere after itself
abbrev pub AreDistinct : List (List ℕ) → Type 0
AreDistinct [] = Unit {0}
AreDistinct (t ∷ ts) = (list_any (λ u. bytes_eq u t) ts ≡ false) × AreDistinct ts

-- the first doesn't repeat, and nor do the others
repeats_after-cons : (same : List ℕ → List ℕ → Bool) (earlier : List (List ℕ)) (x : List ℕ) (xs : List (List ℕ)) → repeats_after same earlier (x ∷ xs) ≡ [] → (list_any (same x) earlier ≡ false) × (repeats_after same (earlier ++ x ∷ []) xs ≡ [])
repeats_after-cons same earlier x xs e = by (list_any (same x) earlier) refl e
  where
    by : (b : Bool) → list_any (same x) earlier ≡ b → cond b (x ∷ repeats_after same (earlier ++ x ∷ []) xs) (repeats_after same (earlier ++ x ∷ []) xs) ≡ [] → (list_any (same x) earlier ≡ false) × (repeats_after same (earlier ++ x ∷ []) xs ≡ [])
    by true h i = absurd (cc)
    by false h i = (h, i)

-- what stood before stands nowhere later
earlier_only : (u : List ℕ) (earlier xs : List (List ℕ)) → list_any (bytes_eq u) earlier ≡ true → repeats_after bytes_eq earlier xs ≡ [] → list_any (λ x. bytes_eq x u) xs ≡ false
earlier_only u earlier [] there e = refl
earlier_only u earlier (x ∷ xs) there e =
    let parts = repeats_after-cons bytes_eq earlier x xs e in
    by (bytes_eq x u) refl parts.0 (earlier_only u (earlier ++ x ∷ []) xs (list_any-append (bytes_eq u) earlier (x ∷ []) ∙ ap (λ b. b || list_any (bytes_eq u) (x ∷ [])) there) parts.1)
  where
    by : (b : Bool) → bytes_eq x u ≡ b → list_any (bytes_eq x) earlier ≡ false → list_any (λ y. bytes_eq y u) xs ≡ false → list_any (λ y. bytes_eq y u) (x ∷ xs) ≡ false
    by true h i j =
        let same : x ≡ u = (bytes_eq-Decides x u).0 h in
        absurd (cc)
    by false h i j = rw (h, j)

distinct_after : (earlier xs : List (List ℕ)) → repeats_after bytes_eq earlier xs ≡ [] → AreDistinct xs
distinct_after earlier [] e = tt
distinct_after earlier (x ∷ xs) e =
    let parts = repeats_after-cons bytes_eq earlier x xs e in
    let self : bytes_eq x x ≡ true = (bytes_eq-Decides x x).1 refl in
    (earlier_only x (earlier ++ x ∷ []) xs (list_any-append (bytes_eq x) earlier (x ∷ []) ∙ last (list_any (bytes_eq x) earlier) (bytes_eq x x) self) parts.1, distinct_after (earlier ++ x ∷ []) xs parts.1)
  where
    last : (a b : Bool) → b ≡ true → (a || (b || false)) ≡ true
    last true b e = refl
    last false b e = rw e

pub distinct : (ids : List (List ℕ)) → duplicates_in ids ≡ [] → AreDistinct ids
distinct ids e = distinct_after [] ids (map-nothing refusals.DuplicateId (repeats bytes_eq ids) e)

-- Members of lists.
use Rattle.std.proofs.Common.{◌≡◌, ◌≤◌, ◌⊎◌, ◌∙◌, ◌∷◌, ◌++◌, ◌<◌, [], Bool, List, None, Option, Some, ap, arith, drop, false, get_or, inl, inr, length, ltb, map, refl, subst, sym, take, true, ℕ}
use Rattle.std.specs.List.{AllByRecursion, Contains, cons_option, filter, filter_map, find, flat_map, list_any, slice_index_or}
use Rattle.std.proofs.lemmas.Bool.{cases_Bool, cond_both, false≢true, ltb-true, or_cases, or_from, or_left, or_parts, or_right}
use Rattle.std.proofs.lemmas.List.{take-append-drop}
use Rattle.std.proofs.lemmas.List.Elements.{Contains-append_cases, Contains-append_left, Contains-append_right, Contains-get_or, Contains-push, Contains-push_cases}
use Rattle.std.proofs.lemmas.List.Sums.{count_by-le-length, length-filter}
use Rattle.std.proofs.lemmas.Option.{none-some}

-- ---- a list's first item and the others

pub Contains-none : {X : Type 0} (y : X) → Contains [] y → ⊥
Contains-none y (k, below, at) = omega arith

pub Contains-here : {X : Type 0} (x : X) (xs : List X) → Contains (x ∷ xs) x
Contains-here x xs = Contains-append_left (x ∷ []) xs x (Contains-push [] x)

pub Contains-later : {X : Type 0} (x : X) (xs : List X) (y : X) → Contains xs y → Contains (x ∷ xs) y
Contains-later x xs y has = Contains-append_right (x ∷ []) xs y has

pub Contains-cases : {X : Type 0} (x y : X) (xs : List X) → Contains (x ∷ xs) y → (x ≡ y) ⊎ Contains xs y
Contains-cases x y xs has =
    elim (Contains-append_cases (x ∷ []) xs y has) [
      | inl one ↦ elim (Contains-push_cases [] x y one) [ inl none ↦ absurd (Contains-none y none) | inr same ↦ inl same ]
      | inr later ↦ inr later
    ]

pub AllByRecursion-at : {X : Type 0} (P : X → Type 0) (xs : List X) (y : X) → AllByRecursion P xs → Contains xs y → P y
AllByRecursion-at P [] y all has = absurd (Contains-none y has)
AllByRecursion-at P (x ∷ xs) y all has =
    elim (Contains-cases x y xs has) [ inl same ↦ subst P same all.0 | inr later ↦ AllByRecursion-at P xs y all.1 later ]

pub AllByRecursion-weaker : {X : Type 0} (P Q : X → Type 0) → ((x : X) → P x → Q x) → (xs : List X) → AllByRecursion P xs → AllByRecursion Q xs
AllByRecursion-weaker P Q weaker [] all = tt
AllByRecursion-weaker P Q weaker (x ∷ xs) all = (weaker x all.0, AllByRecursion-weaker P Q weaker xs all.1)

pub all_members : {X : Type 0} (P : X → Type 0) (xs : List X) → ((x : X) → Contains xs x → P x) → AllByRecursion P xs
all_members P [] each = tt
all_members P (x ∷ xs) each = (each x (Contains-here x xs), all_members P xs (λ y in_rest. each y (Contains-later x xs y in_rest)))

-- ---- tests

pub find-member : {X : Type 0} (p : X → Bool) (xs : List X) (x : X) → find p xs ≡ Some x → (p x ≡ true) × Contains xs x
find-member p [] x e = absurd (none-some x e)
find-member p (y ∷ ys) x e =
    elim (cases_Bool (p y)) [
      | inl passes ↦
          let one : Some y ≡ Some x = (rw passes at e) in
          let same : y ≡ x = cc in
          (subst (λ z. p z ≡ true) same passes, subst (λ z. Contains (y ∷ ys) z) same (Contains-here y ys))
      | inr fails ↦ let rest = find-member p ys x (rw fails at e) in (rest.0, Contains-later y ys x rest.1)
    ]

pub list_any-member : {X : Type 0} (p : X → Bool) (xs : List X) → list_any p xs ≡ true → (x : X) × Contains xs x × (p x ≡ true)
list_any-member p [] e = absurd (false≢true e)
list_any-member p (y ∷ ys) e =
    elim (or_cases (p y) (list_any p ys) e) [
      | inl here ↦ (y, Contains-here y ys, here)
      | inr later ↦ let rest = list_any-member p ys later in (rest.0, Contains-later y ys rest.0 rest.1, rest.2)
    ]

pub member-list_any : {X : Type 0} (p : X → Bool) (xs : List X) (x : X) → Contains xs x → p x ≡ true → list_any p xs ≡ true
member-list_any p [] x has e = absurd (Contains-none x has)
member-list_any p (y ∷ ys) x has e =
    elim (Contains-cases y x ys has) [
      | inl same ↦ or_left (p y) (list_any p ys) (subst (λ z. p z ≡ true) (sym same) e)
      | inr later ↦ or_right (p y) (list_any p ys) (member-list_any p ys x later e)
    ]

-- no member passes the test, where none is found
pub find-None : {X : Type 0} (p : X → Bool) (xs : List X) (x : X) → find p xs ≡ None → Contains xs x → p x ≡ false
find-None p [] x none has = absurd (Contains-none x has)
find-None p (y ∷ ys) x none has =
    elim (cases_Bool (p y)) [
      | inl passes ↦ let some = rw passes at none in cc
      | inr fails ↦ elim (Contains-cases y x ys has) [ inl same ↦ subst (λ z. p z ≡ false) same fails | inr later ↦ find-None p ys x (rw fails at none) later ]
    ]

pub find_none : {X : Type 0} (p : X → Bool) (xs : List X) → ((x : X) → Contains xs x → p x ≡ false) → find p xs ≡ None
find_none p [] fails = refl
find_none p (y ∷ ys) fails = rw (fails y (Contains-here y ys)) (find_none p ys (λ x has. fails x (Contains-later y ys x has)))

pub list_any-fails : {X : Type 0} (p : X → Bool) (xs : List X) (x : X) → list_any p xs ≡ false → Contains xs x → p x ≡ false
list_any-fails p [] x none has = absurd (Contains-none x has)
list_any-fails p (y ∷ ys) x none has =
    let parts = or_parts (p y) (list_any p ys) none in
    elim (Contains-cases y x ys has) [ inl same ↦ subst (λ z. p z ≡ false) same parts.0 | inr later ↦ list_any-fails p ys x parts.1 later ]

pub list_any-none : {X : Type 0} (p : X → Bool) (xs : List X) → ((x : X) → Contains xs x → p x ≡ false) → list_any p xs ≡ false
list_any-none p [] fails = refl
list_any-none p (y ∷ ys) fails = or_from (p y) (list_any p ys) (fails y (Contains-here y ys)) (list_any-none p ys (λ x has. fails x (Contains-later y ys x has)))

-- ---- lists made of lists

pub Contains-take : {X : Type 0} (n : ℕ) (xs : List X) (x : X) → Contains (take n xs) x → Contains xs x
Contains-take n xs x has = subst (λ l. Contains l x) (take-append-drop n xs) (Contains-append_left (take n xs) (drop n xs) x has)

pub Contains-map : {X Y : Type 0} (f : X → Y) (xs : List X) (x : X) → Contains xs x → Contains (map f xs) (f x)
Contains-map f [] x has = absurd (Contains-none x has)
Contains-map f (y ∷ ys) x has =
    elim (Contains-cases y x ys has) [
      | inl same ↦ subst (λ z. Contains (f y ∷ map f ys) (f z)) same (Contains-here (f y) (map f ys))
      | inr later ↦ Contains-later (f y) (map f ys) (f x) (Contains-map f ys x later)
    ]

pub map-member : {X Y : Type 0} (f : X → Y) (xs : List X) (y : Y) → Contains (map f xs) y → (x : X) × Contains xs x × (f x ≡ y)
map-member f [] y has = absurd (Contains-none y has)
map-member f (x ∷ xs) y has =
    elim (Contains-cases (f x) y (map f xs) has) [
      | inl here ↦ (x, Contains-here x xs, here)
      | inr later ↦ let rest = map-member f xs y later in (rest.0, Contains-later x xs rest.0 rest.1, rest.2)
    ]

pub Contains-filter : {X : Type 0} (p : X → Bool) (xs : List X) (x : X) → Contains xs x → p x ≡ true → Contains (filter p xs) x
Contains-filter p [] x has passes = absurd (Contains-none x has)
Contains-filter p (y ∷ ys) x has passes =
    elim (Contains-cases y x ys has) [
      | inl same ↦ rw (ap p same ∙ passes) (subst (λ z. Contains (z ∷ filter p ys) x) (sym same) (Contains-here x (filter p ys)))
      | inr later ↦ cond_both (p y) (y ∷ filter p ys) (filter p ys) (λ l. Contains l x) (λ e. Contains-later y (filter p ys) x (Contains-filter p ys x later passes)) (λ e. Contains-filter p ys x later passes)
    ]

pub filter-member : {X : Type 0} (p : X → Bool) (xs : List X) (x : X) → Contains (filter p xs) x → (p x ≡ true) × Contains xs x
filter-member p [] x has = absurd (Contains-none x has)
filter-member p (y ∷ ys) x has =
    elim (cases_Bool (p y)) [
      | inl passes ↦
          let kept : Contains (y ∷ filter p ys) x = (rw passes at has) in
          elim (Contains-cases y x (filter p ys) kept) [
            | inl same ↦ (subst (λ z. p z ≡ true) same passes, subst (λ z. Contains (y ∷ ys) z) same (Contains-here y ys))
            | inr later ↦ let rest = filter-member p ys x later in (rest.0, Contains-later y ys x rest.1)
          ]
      | inr fails ↦ let rest = filter-member p ys x (rw fails at has) in (rest.0, Contains-later y ys x rest.1)
    ]

pub length-filter-le : {X : Type 0} (p : X → Bool) (xs : List X) → length (filter p xs) ≤ length xs
length-filter-le p xs = omega (arith, length-filter p xs, count_by-le-length p xs)

pub Contains-flat_map : {X Y : Type 0} (f : X → List Y) (xs : List X) (x : X) (y : Y) → Contains xs x → Contains (f x) y → Contains (flat_map f xs) y
Contains-flat_map f [] x y has at = absurd (Contains-none x has)
Contains-flat_map f (z ∷ zs) x y has at =
    elim (Contains-cases z x zs has) [
      | inl same ↦ Contains-append_left (f z) (flat_map f zs) y (subst (λ w. Contains (f w) y) (sym same) at)
      | inr later ↦ Contains-append_right (f z) (flat_map f zs) y (Contains-flat_map f zs x y later at)
    ]

pub flat_map-member : {X Y : Type 0} (f : X → List Y) (xs : List X) (y : Y) → Contains (flat_map f xs) y → (x : X) × Contains xs x × Contains (f x) y
flat_map-member f [] y has = absurd (Contains-none y has)
flat_map-member f (x ∷ xs) y has =
    elim (Contains-append_cases (f x) (flat_map f xs) y has) [
      | inl here ↦ (x, Contains-here x xs, here)
      | inr later ↦ let rest = flat_map-member f xs y later in (rest.0, Contains-later x xs rest.0 rest.1, rest.2)
    ]

pub cons_option-member : {Y : Type 0} (o : Option Y) (ys : List Y) (y : Y) → Contains (cons_option o ys) y → (o ≡ Some y) ⊎ Contains ys y
cons_option-member None ys y has = inr has
cons_option-member (Some z) ys y has = elim (Contains-cases z y ys has) [ inl same ↦ inl (ap Some same) | inr later ↦ inr later ]

pub filter_map-member : {X Y : Type 0} (h : X → Option Y) (xs : List X) (y : Y) → Contains (filter_map h xs) y → (x : X) × Contains xs x × (h x ≡ Some y)
filter_map-member h [] y has = absurd (Contains-none y has)
filter_map-member h (x ∷ xs) y has =
    elim (cons_option-member (h x) (filter_map h xs) y has) [
      | inl here ↦ (x, Contains-here x xs, here)
      | inr later ↦ let rest = filter_map-member h xs y later in (rest.0, Contains-later x xs rest.0 rest.1, rest.2)
    ]

-- ---- lists of which nothing is left

pub nothing-append : {X : Type 0} (xs ys : List X) → xs ≡ [] → ys ≡ [] → xs ++ ys ≡ []
nothing-append xs ys e f = rw (e, f)

pub append-nothing : {X : Type 0} (xs ys : List X) → xs ++ ys ≡ [] → (xs ≡ []) × (ys ≡ [])
append-nothing [] ys e = (refl, e)
append-nothing (x ∷ xs) ys e = absurd cc

pub map-nothing : {X Y : Type 0} (f : X → Y) (xs : List X) → map f xs ≡ [] → xs ≡ []
map-nothing f [] e = refl
map-nothing f (x ∷ xs) e = absurd cc

pub flat_map-nothing : {X Y : Type 0} (f : X → List Y) (xs : List X) → flat_map f xs ≡ [] → (x : X) → Contains xs x → f x ≡ []
flat_map-nothing f [] e x has = absurd (Contains-none x has)
flat_map-nothing f (y ∷ ys) e x has =
    let parts = append-nothing (f y) (flat_map f ys) e in
    elim (Contains-cases y x ys has) [ inl same ↦ subst (λ z. f z ≡ []) same parts.0 | inr later ↦ flat_map-nothing f ys parts.1 x later ]

pub filter-nothing : {X : Type 0} (p : X → Bool) (xs : List X) → filter p xs ≡ [] → (x : X) → Contains xs x → p x ≡ false
filter-nothing p [] e x has = absurd (Contains-none x has)
filter-nothing p (y ∷ ys) e x has =
    elim (cases_Bool (p y)) [
      | inl passes ↦ let kept : y ∷ filter p ys ≡ [] = (rw passes at e) in absurd cc
      | inr fails ↦ elim (Contains-cases y x ys has) [ inl same ↦ subst (λ z. p z ≡ false) same fails | inr later ↦ filter-nothing p ys (rw fails at e) x later ]
    ]

-- ---- items by their numbers

pub row-member : {X : Type 0} (xs : List X) (k : ℕ) (d : X) → ltb k (length xs) ≡ true → Contains xs (slice_index_or xs k d)
row-member xs k d inside = Contains-get_or xs k d (ltb-true k (length xs) inside)

pub row_has : {X : Type 0} (rows : List X) (k : ℕ) (row : X) → k < length rows → row ≡ get_or rows k row → Contains rows row
row_has rows k row below is = (k, below, sym is)

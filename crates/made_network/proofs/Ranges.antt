-- Rows that there are for each number of a range.
use Rattle.std.proofs.Common.{◌+◌, ◌-◌, ◌++◌, ◌<◌, ◌≡◌, ◌≤◌, ◌∙◌, ◌∷◌, [], Bool, List, ap, arith, cond, false, inl, inr, length, map, refl, subst, suc, sym, true, zero, ℕ}
use Rattle.std.specs.List.{AllByRecursion, count_by, filter, flat_map, list_any, position_or_len, range_with_len, slice_index_or}
use Rattle.std.proofs.lemmas.Bool.{cases_Bool, cases_lt, ltb-true, or_left, or_right}
use Rattle.std.proofs.lemmas.List.Folds.{list_any-append}
use Rattle.std.proofs.lemmas.List.FromFn.{get_or-map-range_with_len, length-map-range_with_len, map-range_with_len_more}
use Rattle.vpc_base.proofs.Members.{nothing-append}
use Rattle.vpc_base.proofs.Positions.{found-at}
use Rattle.vpc_base.proofs.Tests.{count_by-cons}
use Rattle.vpc_model.specs.Accepted.{repeats, repeats_after}
use Rattle.made_network.specs.Made.{for_each}

-- k is one of the n numbers from a on
abbrev pub IsOneOf : ℕ → ℕ → ℕ → Type 0
IsOneOf a n k = (a ≤ k) × (k < a + n)

first-one : (a n : ℕ) → IsOneOf a (suc n) a
first-one a n = (omega arith, omega arith)

later-one : (a n k : ℕ) → IsOneOf (a + 1) n k → IsOneOf a (suc n) k
later-one a n k one = (omega (arith, one.0), omega (arith, one.1))

-- ---- lists of which nothing is left

pub flat_map-none : {X Y : Type 0} (f : X → List Y) (xs : List X) → AllByRecursion (λ x. f x ≡ []) xs → flat_map f xs ≡ []
flat_map-none f [] all = refl
flat_map-none f (x ∷ xs) all = nothing-append (f x) (flat_map f xs) all.0 (flat_map-none f xs all.1)

pub flat_map-each : {X Y : Type 0} (f : X → List Y) (row : ℕ → X) (a n : ℕ) → ((k : ℕ) → IsOneOf a n k → f (row k) ≡ []) → flat_map f (map row (range_with_len a n)) ≡ []
flat_map-each f row a zero none = refl
flat_map-each f row a (suc n) none = nothing-append (f (row a)) (flat_map f (map row (range_with_len (a + 1) n))) (none a (first-one a n)) (flat_map-each f row (a + 1) n (λ k one. none k (later-one a n k one)))

pub filter-each : {X : Type 0} (p : X → Bool) (row : ℕ → X) (a n : ℕ) → ((k : ℕ) → IsOneOf a n k → p (row k) ≡ false) → filter p (map row (range_with_len a n)) ≡ []
filter-each p row a zero none = refl
filter-each p row a (suc n) none = rw (none a (first-one a n), filter-each p row (a + 1) n (λ k one. none k (later-one a n k one)))

-- ---- what is made of each row

pub map-each : {X Y : Type 0} (f : X → Y) (row : ℕ → X) (g : ℕ → Y) (a n : ℕ) → ((k : ℕ) → f (row k) ≡ g k) → map f (map row (range_with_len a n)) ≡ map g (range_with_len a n)
map-each f row g a zero same = refl
map-each f row g a (suc n) same = rw (same a, map-each f row g (a + 1) n same)

pub flat_map-single : {X Y : Type 0} (f : X → List Y) (row : ℕ → X) (g : ℕ → Y) (a n : ℕ) → ((k : ℕ) → f (row k) ≡ g k ∷ []) → flat_map f (map row (range_with_len a n)) ≡ map g (range_with_len a n)
flat_map-single f row g a zero same = refl
flat_map-single f row g a (suc n) same = rw (same a, flat_map-single f row g (a + 1) n same)

-- ---- one row more

pub map-more : {X : Type 0} (row : ℕ → X) (before after : List X) (a n j : ℕ) (made : X) → a + n ≡ j → before ≡ map row (range_with_len a n) → made ≡ row j → after ≡ before ++ made ∷ [] → after ≡ map row (range_with_len a (n + 1))
map-more row before after a n j made this earlier now pushed = pushed ∙ rw (earlier, now) (sym (map-range_with_len_more row a n j this))

pub for_each-more : {X : Type 0} (row : ℕ → X) (before after : List X) (number : ℕ) (made : X) → 1 ≤ number → before ≡ for_each row (number - 1) → made ≡ row number → after ≡ before ++ made ∷ [] → after ≡ for_each row number
for_each-more row before after number made some earlier now pushed =
    let whole : number - 1 + 1 ≡ number = omega (arith, some) in
    map-more row before after 1 (number - 1) number made (omega (arith, some)) earlier now pushed ∙ ap (for_each row) whole

-- ---- the row with a number

pub list_any-each : {X : Type 0} (p : X → Bool) (row : ℕ → X) (a n k : ℕ) → IsOneOf a n k → p (row k) ≡ true → list_any p (map row (range_with_len a n)) ≡ true
list_any-each p row a zero k one e = absurd (omega (arith, one.0, one.1))
list_any-each p row a (suc n) k one e =
    let rest = list_any p (map row (range_with_len (a + 1) n)) in
    elim (cases_lt a k) [
      | inl later ↦ or_right (p (row a)) rest (list_any-each p row (a + 1) n k (omega (arith, later), omega (arith, one.1)) e)
      | inr here ↦
          let same : k ≡ a = omega (arith, here, one.0) in
          or_left (p (row a)) rest (subst (λ i. p (row i) ≡ true) same e)
    ]

pub list_any-none : {X : Type 0} (p : X → Bool) (row : ℕ → X) (a n : ℕ) → ((k : ℕ) → p (row k) ≡ false) → list_any p (map row (range_with_len a n)) ≡ false
list_any-none p row a zero none = refl
list_any-none p row a (suc n) none = rw (none a, list_any-none p row (a + 1) n none)

-- a test that passes no other row finds it
pub found-each : {X : Type 0} (p : X → Bool) (row : ℕ → X) (a n k : ℕ) (d : X) → IsOneOf a n k → p (row k) ≡ true → ((j : ℕ) → IsOneOf a n j → p (row j) ≡ true → j ≡ k)
    → slice_index_or (map row (range_with_len a n)) (position_or_len p (map row (range_with_len a n))) d ≡ row k
found-each p row a n k d one passes only =
    let rows = map row (range_with_len a n) in
    let i = position_or_len p rows in
    let found = found-at p rows d (list_any-each p row a n k one passes) in
    let inside : i < n = omega (arith, ltb-true i (length rows) found.0, length-map-range_with_len row a n) in
    let at : slice_index_or rows i d ≡ row (a + i) = get_or-map-range_with_len row a n i (a + i) d inside refl in
    let same : a + i ≡ k = only (a + i) (omega arith, omega (arith, inside)) (subst (λ x. p x ≡ true) at found.1) in
    at ∙ ap row same

-- ---- how many rows pass

pub count-none : {X : Type 0} (p : X → Bool) (row : ℕ → X) (a n : ℕ) → ((k : ℕ) → IsOneOf a n k → p (row k) ≡ false) → count_by p (map row (range_with_len a n)) ≡ 0
count-none p row a zero none = refl
count-none p row a (suc n) none =
    let rest = map row (range_with_len (a + 1) n) in
    count_by-cons p (row a) rest ∙ rw (none a (first-one a n), count-none p row (a + 1) n (λ k one. none k (later-one a n k one)))

pub count-one : {X : Type 0} (p : X → Bool) (row : ℕ → X) (a n only : ℕ) → ((k : ℕ) → IsOneOf a n k → p (row k) ≡ true → k ≡ only) → count_by p (map row (range_with_len a n)) ≤ 1
count-one p row a zero only alone = omega arith
count-one p row a (suc n) only alone =
    let rest = map row (range_with_len (a + 1) n) in
    let later = count-one p row (a + 1) n only (λ k one. alone k (later-one a n k one)) in
    let first = count_by-cons p (row a) rest in
    elim (cases_Bool (p (row a))) [
      | inl passes ↦
          let same = alone a (first-one a n) passes in
          let other : (k : ℕ) → IsOneOf (a + 1) n k → p (row k) ≡ false = λ k one.
          elim (cases_Bool (p (row k))) [
            | inl too ↦ absurd (omega (arith, alone k (later-one a n k one) too, same, one.0))
            | inr fails ↦ fails
          ] in
          let counted : ℕ = cond (p (row a)) 1 0 in
          let value : counted ≡ 1 = rw passes in
          omega (arith, first, value, count-none p row (a + 1) n other)
      | inr fails ↦
          let counted : ℕ = cond (p (row a)) 1 0 in
          let value : counted ≡ 0 = rw fails in
          omega (arith, first, value, later)
    ]

-- ---- rows that differ

-- of two of the numbers the later one isn't the same as the earlier one
abbrev pub Differ : {X : Type 0} → (X → X → Bool) → (ℕ → X) → ℕ → ℕ → Type 0
Differ same row a n = (j k : ℕ) → a ≤ j → j < k → k < a + n → same (row k) (row j) ≡ false

repeats-after : {X : Type 0} (same : X → X → Bool) (row : ℕ → X) (a n : ℕ) (earlier : List X) → ((k : ℕ) → IsOneOf a n k → list_any (same (row k)) earlier ≡ false) → Differ same row a n → repeats_after same earlier (map row (range_with_len a n)) ≡ []
repeats-after same row a zero earlier before differ = refl
repeats-after {X = X} same row a (suc n) earlier before differ =
    let more : List X = earlier ++ row a ∷ [] in
    let new : (k : ℕ) → IsOneOf (a + 1) n k → list_any (same (row k)) more ≡ false = λ k one.
    list_any-append (same (row k)) earlier (row a ∷ []) ∙ rw (before k (later-one a n k one), differ a k (omega arith) (omega (arith, one.0)) (omega (arith, one.1))) in
    let rest = repeats-after same row (a + 1) n more new (λ j k from below to. differ j k (omega (arith, from)) below (omega (arith, to))) in
    rw (before a (first-one a n)) rest

pub repeats-each : {X : Type 0} (same : X → X → Bool) (row : ℕ → X) (a n : ℕ) → Differ same row a n → repeats same (map row (range_with_len a n)) ≡ []
repeats-each same row a n differ = repeats-after same row a n [] (λ k one. refl) differ

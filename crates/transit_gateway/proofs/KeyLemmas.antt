-- Numbers of ids, alone and in pairs.
use Rattle.std.proofs.Common.{◌≡◌, ◌∙◌, ◌++◌, ◌<◌, ◌==◌, ◌^◌, ◌∷◌, [], ℕ, Bool, Contains, List, Some, ap, arith, bytes_eq, cond, false, find, get_or, inl, inr, option_map, position, refl, sym, true}
use Rattle.std.specs.List.{list_any, position_or_len}
use Rattle.std.proofs.lemmas.Bool.{both_ways, cases_Bool, eq-eqb, ne_eqb}
use Rattle.vpc_base.proofs.Bytes.{bytes_self, same_bytes}
use Rattle.vpc_base.proofs.Members.{member-list_any}
use Rattle.vpc_base.proofs.Positions.{found-at, position-there}
use Rattle.number_tables.specs.Entries.{value_at}
use Rattle.number_tables.specs.declared.tables.Entry.{Entry}
use Rattle.vpc_model.specs.Choice.{or_else}
use Rattle.vpc_laws.specs.Accepted.{IsShort}
use Rattle.reference_check.specs.FirstNumbers.{number_in}
use Rattle.reference_check.proofs.Maps.{found_number}

-- ---- numbers of ids

-- a row's own name is there
pub list_any-own : {X : Type 0} (name_of : X → List ℕ) (xs : List X) (x : X) → Contains xs x → list_any (λ y. bytes_eq (name_of y) (name_of x)) xs ≡ true
list_any-own name_of xs x has = member-list_any (λ y. bytes_eq (name_of y) (name_of x)) xs x has (bytes_self (name_of x))

-- so it has a number
pub name-numbered : {X : Type 0} (name_of : X → List ℕ) (xs : List X) (x : X) (numbers : List (List ℕ × ℕ)) → ((id : List ℕ) → number_in numbers id ≡ position (λ y. bytes_eq (name_of y) id) xs) → Contains xs x
    → number_in numbers (name_of x) ≡ Some (position_or_len (λ y. bytes_eq (name_of y) (name_of x)) xs)
name-numbered name_of xs x numbers are has = are (name_of x) ∙ position-there (λ y. bytes_eq (name_of y) (name_of x)) xs (list_any-own name_of xs x has)

-- a number has 32 bits where the rows are few
pub number-short : {X : Type 0} (name_of : X → List ℕ) (xs : List X) (numbers : List (List ℕ × ℕ)) (id : List ℕ) (k : ℕ) → ((i : List ℕ) → number_in numbers i ≡ position (λ y. bytes_eq (name_of y) i) xs) → IsShort xs → number_in numbers id ≡ Some k → k < 2 ^ 32
number-short name_of xs numbers id k are short told =
    let within = (found_number (λ y. bytes_eq (name_of y) id) xs k (sym (are id) ∙ told)).within in
    omega (arith, short)

-- two names that are there have one number only where they are the same
pub number-same : {X : Type 0} (name_of : X → List ℕ) (xs : List X) (d : X) (a b : List ℕ) → list_any (λ x. bytes_eq (name_of x) a) xs ≡ true → list_any (λ x. bytes_eq (name_of x) b) xs ≡ true
    → (position_or_len (λ x. bytes_eq (name_of x) a) xs == position_or_len (λ x. bytes_eq (name_of x) b) xs) ≡ bytes_eq a b
number-same name_of xs d a b has_a has_b =
    let m = position_or_len (λ x. bytes_eq (name_of x) a) xs in
    let n = position_or_len (λ x. bytes_eq (name_of x) b) xs in
    let at_a : name_of (get_or xs m d) ≡ a = same_bytes (name_of (get_or xs m d)) a (found-at (λ x. bytes_eq (name_of x) a) xs d has_a).1 in
    let at_b : name_of (get_or xs n d) ≡ b = same_bytes (name_of (get_or xs n d)) b (found-at (λ x. bytes_eq (name_of x) b) xs d has_b).1 in
    elim (cases_Bool (bytes_eq a b)) [
      | inl same ↦ eq-eqb m n (ap (λ i. position_or_len (λ x. bytes_eq (name_of x) i) xs) (same_bytes a b same)) ∙ sym same
      | inr other ↦
          ne_eqb m n
          (λ numbers.
          let is : a ≡ b = sym at_a ∙ ap (λ k. name_of (get_or xs k d)) numbers ∙ at_b in
          both_ways (bytes_eq a b) other (sym (ap (bytes_eq a) is) ∙ bytes_self a))
          ∙ sym other
    ]

-- ---- entries

-- what the first of two lists tells, or else the second
pub value_at-append : {T : Type 0} (k : ℕ) (xs ys : List (Entry T)) → value_at k (xs ++ ys) ≡ or_else (value_at k xs) (value_at k ys)
value_at-append k [] ys = refl
value_at-append {T} k (x ∷ xs) ys = by (x.key == k) (value_at-append k xs ys)
  where
    by : (b : Bool) → value_at k (xs ++ ys) ≡ or_else (value_at k xs) (value_at k ys)
        → option_map (λ (e : Entry T). e.value) (cond b (Some x) (find (λ e. e.key == k) (xs ++ ys))) ≡ or_else (option_map (λ (e : Entry T). e.value) (cond b (Some x) (find (λ e. e.key == k) xs))) (value_at k ys)
    by true h = refl
    by false h = h

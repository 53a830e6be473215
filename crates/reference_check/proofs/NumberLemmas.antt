-- Numbers beside ids, and the rows that they are of.
use Rattle.std.proofs.Common.{◌≡◌, ◌∙◌, ◌++◌, ◌∷◌, ◌+◌, ◌<◌, ◌≤◌, ℕ, Bool, cond, sym, true, false, List, [], Option, Some, None, refl, ap, map, drop, get_or, length, bytes_eq, position}
use Rattle.std.specs.Prelude.{is_some, if◌then◌else◌}
use Rattle.std.specs.List.{position_from}
use Rattle.std.specs.Map.{lookup}
use Rattle.std.proofs.lemmas.Iterator.Adapters.{position_from-zero}
use Rattle.std.proofs.lemmas.List.{drop_all}
use Rattle.std.proofs.lemmas.Slice.Eq.{bytes_eq-Decides}
use Rattle.vpc_base.proofs.Bytes.{bytes_eq-comm}
use Rattle.vpc_base.proofs.Steps.{drop-next}
use Rattle.vpc_model.specs.Choice.{or_else}
use Rattle.vpc_model.proofs.Choice.{or_else-none}
use Rattle.reference_check.specs.FirstNumbers.{number_in}

-- the entries of a map tell the numbers of ids
pub number_in-map : {K : Type 0} (items : K → List ℕ) (entries : List (K × ℕ)) (id : List ℕ)
    → number_in (map (λ e. (items e.0, e.1)) entries) id ≡ lookup (λ k. bytes_eq id (items k)) entries
number_in-map items [] id = refl
number_in-map items (e ∷ entries) id = rw (number_in-map items entries id)

-- one more entry
number_in-append : (entries : List (List ℕ × ℕ)) (known : List ℕ) (n : ℕ) (id : List ℕ)
    → number_in (entries ++ (known, n) ∷ []) id ≡ or_else (number_in entries id) (if bytes_eq id known then Some n else None)
number_in-append [] known n id = refl
number_in-append (e ∷ entries) known n id = by (bytes_eq id e.0) (number_in-append entries known n id)
  where
    by : (b : Bool) → number_in (entries ++ (known, n) ∷ []) id ≡ or_else (number_in entries id) (if bytes_eq id known then Some n else None)
        → (if b then Some e.1 else number_in (entries ++ (known, n) ∷ []) id) ≡ or_else (if b then Some e.1 else number_in entries id) (if bytes_eq id known then Some n else None)
    by true h = refl
    by false h = h

-- an id that is added with a number, unless it has one
abbrev added : List (List ℕ × ℕ) → List ℕ → ℕ → List (List ℕ × ℕ)
added entries known n = if is_some (number_in entries known) then entries else entries ++ (known, n) ∷ []

-- what is added tells the number of its id, where none was told before
number_in-added : (entries : List (List ℕ × ℕ)) (known : List ℕ) (n : ℕ) (rest : Option ℕ) (id : List ℕ)
    → or_else (number_in (added entries known n) id) rest ≡ or_else (number_in entries id) (if bytes_eq id known then Some n else rest)
number_in-added entries known n rest id = by (number_in entries known) refl
  where
    new : (o : Option ℕ) (b : Bool) → or_else (or_else o (if b then Some n else None)) rest ≡ or_else o (if b then Some n else rest)
    new None true = refl
    new None false = refl
    new (Some m) b = refl

    known_already : (m : ℕ) → number_in entries known ≡ Some m → (b : Bool) → bytes_eq id known ≡ b
        → or_else (number_in entries id) rest ≡ or_else (number_in entries id) (if b then Some n else rest)
    known_already m e false at = refl
    known_already m e true at =
        let same : id ≡ known = (bytes_eq-Decides id known).0 at in
        let there : number_in entries id ≡ Some m = ap (number_in entries) same ∙ e in
        rw there refl

    by : (o : Option ℕ) → number_in entries known ≡ o
        → or_else (number_in (if is_some o then entries else entries ++ (known, n) ∷ []) id) rest ≡ or_else (number_in entries id) (if bytes_eq id known then Some n else rest)
    by None e = rw (number_in-append entries known n id) (new (number_in entries id) (bytes_eq id known))
    by (Some m) e = known_already m e (bytes_eq id known) refl

-- ---- the rows, one by one

-- before the first row
pub first-none : {R : Type 0} (name_of : R → List ℕ) (rows : List R) (id : List ℕ) → position_from (λ r. bytes_eq (name_of r) id) 0 rows ≡ position (λ r. bytes_eq (name_of r) id) rows
first-none name_of rows id = sym (position_from-zero (λ r. bytes_eq (name_of r) id) rows)

-- one more row
pub first-step : {R : Type 0} (name_of : R → List ℕ) (rows : List R) (n : ℕ) (r : R) (entries : List (List ℕ × ℕ)) (id : List ℕ) → n < length rows → r ≡ get_or rows n r
    → or_else (number_in (added entries (name_of r) n) id) (position_from (λ x. bytes_eq (name_of x) id) (n + 1) (drop (n + 1) rows)) ≡ or_else (number_in entries id) (position_from (λ x. bytes_eq (name_of x) id) n (drop n rows))
first-step name_of rows n r entries id within at =
    let rest = position_from (λ x. bytes_eq (name_of x) id) (n + 1) (drop (n + 1) rows) in
    number_in-added entries (name_of r) n rest id
    ∙ ap (λ b. or_else (number_in entries id) (cond b (Some n) rest)) (bytes_eq-comm id (name_of r))
    ∙ ap (λ xs. or_else (number_in entries id) (position_from (λ x. bytes_eq (name_of x) id) n xs)) (sym (drop-next rows n r within at))

-- after the last row
pub first-all : {R : Type 0} (name_of : R → List ℕ) (rows : List R) (n : ℕ) (entries : List (List ℕ × ℕ)) (id : List ℕ) → length rows ≤ n
    → or_else (number_in entries id) (position_from (λ x. bytes_eq (name_of x) id) n (drop n rows)) ≡ position (λ x. bytes_eq (name_of x) id) rows → number_in entries id ≡ position (λ x. bytes_eq (name_of x) id) rows
first-all name_of rows n entries id past so_far =
    sym (or_else-none (number_in entries id))
    ∙ ap (λ xs. or_else (number_in entries id) (position_from (λ x. bytes_eq (name_of x) id) n xs)) (sym (drop_all n rows past))
    ∙ so_far

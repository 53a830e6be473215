-- The numbers of what routes lead to.
use Rattle.std.proofs.Common.{◌≡◌, ◌∙◌, ◌<◌, [], List, ap, false, get_or, length, subst, sym, true, ℕ}
use Rattle.std.proofs.lemmas.Bool.{and_parts, ltb-true}
use Rattle.std.proofs.lemmas.List.{get_or-map, length-map}
use Rattle.vpc_laws.specs.Types.{Description, Route, RouteTable, TableNo}
use Rattle.vpc_model.specs.Lookup.{no_table, table_at}
use Rattle.vpc_model.specs.Sound.{is_route, is_table}
use Rattle.vpc_model.specs.Step.Router.{no_route}
use Rattle.fabric.specs.Targets.{route_at, target_number, targets_in, targets_of}

-- the table and the route are described
route-parts : (d : Description) (t : TableNo) (k : ℕ) → is_route d t k ≡ true → (t.0 < length d.tables) × (let table = table_at d t in k < length table.routes)
route-parts d t k lies =
    let table = table_at d t in
    let parts = and_parts (is_table d t) _ lies in
    (ltb-true t.0 (length d.tables) parts.0, ltb-true k (length table.routes) parts.1)

pub table-within : (d : Description) (t : TableNo) (k : ℕ) (numbers : List (List ℕ)) → numbers ≡ targets_in d → is_route d t k ≡ true → t.0 < length numbers
table-within d t k numbers are lies =
    subst (λ (n : ℕ). t.0 < n) (sym (ap length are ∙ length-map d.tables (targets_of d))) (route-parts d t k lies).0

-- the numbers of a table's targets
targets-at : (d : Description) (t : TableNo) (k : ℕ) (numbers : List (List ℕ)) → numbers ≡ targets_in d → is_route d t k ≡ true
    → get_or numbers t.0 [] ≡ targets_of d (table_at d t)
targets-at d t k numbers are lies =
    ap (λ (xs : List (List ℕ)). get_or xs t.0 []) are ∙ get_or-map (targets_of d) d.tables t.0 no_table [] (route-parts d t k lies).0

pub route-within : (d : Description) (t : TableNo) (k : ℕ) (numbers : List (List ℕ)) → numbers ≡ targets_in d → is_route d t k ≡ true → k < length (get_or numbers t.0 [])
route-within d t k numbers are lies =
    let table = table_at d t in
    subst (λ (n : ℕ). k < n) (sym (ap length (targets-at d t k numbers are lies) ∙ length-map table.routes (λ (r : Route). target_number d r.target))) (route-parts d t k lies).1

pub target-at : (d : Description) (t : TableNo) (k : ℕ) (numbers : List (List ℕ)) (n : ℕ) → numbers ≡ targets_in d → is_route d t k ≡ true
    → ((none : ℕ) → n ≡ get_or (get_or numbers t.0 []) k none) → let r = route_at d t k in n ≡ target_number d r.target
target-at d t k numbers n are lies is =
    let table = table_at d t in
    is 0
    ∙ (ap (λ (xs : List ℕ). get_or xs k 0) (targets-at d t k numbers are lies) ∙ get_or-map (λ (r : Route). target_number d r.target) table.routes k no_route 0 (route-parts d t k lies).1)

-- Ids that rows name: the first number beside an id is that of the first row that names it.
use Rattle.std.proofs.Common.{◌≡◌, ◌∙◌, ◌++◌, ◌+◌, ◌&&◌, ◌||◌, ◌∷◌, [], ℕ, Bool, List, None, Option, Some, ap, bytes_eq, cond, false, find, map, option_and_then, option_map, position, refl, slice_get, subst, sym, true}
use Rattle.std.specs.List.{list_any, position_from}
use Rattle.std.proofs.lemmas.Iterator.Adapters.{position_from-zero}
use Rattle.reference_check.specs.FirstNumbers.{number_in}
use Rattle.transit_gateway.proofs.ByNumber.{row-position}
use Rattle.vpc_laws.specs.Types.{Appliance, Box5, Description, FirewallEndpoint, RouteTable, TableNo}
use Rattle.vpc_model.specs.Appliances.{boxes_of_kind}
use Rattle.vpc_model.specs.Choice.{or_else}
use Rattle.vpc_model.specs.Firewalls.{edge_table, is_behind_endpoint}
use Rattle.vpc_model.specs.Lookup.{is_listed}
use Rattle.fabric.specs.Named.{ArePlaces, by_endpoint, by_gateways, named_by, named_from, number_beside}
use Rattle.fabric.specs.Outside.{boxes_of_firewall}
use Rattle.fabric.specs.declared.named.Named.{Named}

abbrev number_of : Named → ℕ
number_of r = r.number

-- the number in the first place of an id is the one beside it
pub beside-found : (rows l : List Named) (places : List (List ℕ × ℕ)) (id bytes : List ℕ) (place : Option ℕ) → l ≡ rows → bytes ≡ id → place ≡ number_in places bytes → ArePlaces rows places
    → option_map (λ r. r.number) (option_and_then (slice_get l) place) ≡ number_beside rows id
beside-found rows l places id bytes place is same told are =
    ap (λ x. option_map number_of (option_and_then (slice_get x) place)) is
    ∙ ap (λ o. option_map number_of (option_and_then (slice_get rows) o)) (told ∙ ap (number_in places) same ∙ are id)
    ∙ ap (option_map number_of) (row-position (λ (r : Named). bytes_eq r.id id) rows)

number_beside-append : (id : List ℕ) (xs ys : List Named) → number_beside (xs ++ ys) id ≡ or_else (number_beside xs id) (number_beside ys id)
number_beside-append id [] ys = refl
number_beside-append id (x ∷ xs) ys = by (bytes_eq x.id id) (number_beside-append id xs ys)
  where
    by : (b : Bool) → number_beside (xs ++ ys) id ≡ or_else (number_beside xs id) (number_beside ys id)
        → option_map number_of (cond b (Some x) (find (λ r. bytes_eq r.id id) (xs ++ ys))) ≡ or_else (option_map number_of (cond b (Some x) (find (λ r. bytes_eq r.id id) xs))) (number_beside ys id)
    by true h = refl
    by false h = h

-- where each row tells of the id exactly if it passes a test, the first that passes counts
pub named-found : {X : Type 0} (f : ℕ → X → List Named) (p : X → Bool) (id : List ℕ) → ((k : ℕ) (x : X) → number_beside (f k x) id ≡ cond (p x) (Some k) None) → (k : ℕ) (xs : List X)
    → number_beside (named_from f k xs) id ≡ position_from p k xs
named-found f p id each k [] = refl
named-found f p id each k (x ∷ xs) =
    number_beside-append id (f k x) (named_from f (k + 1) xs)
    ∙ ap (λ o. or_else o (number_beside (named_from f (k + 1) xs) id)) (each k x)
    ∙ by (p x)
    ∙ ap (cond (p x) (Some k)) (named-found f p id each (k + 1) xs)
  where
    by : (b : Bool) → or_else (cond b (Some k) None) (number_beside (named_from f (k + 1) xs) id) ≡ cond b (Some k) (number_beside (named_from f (k + 1) xs) id)
    by true = refl
    by false = refl

-- ---- gateways of tables

gateways-beside : (id : List ℕ) (k : ℕ) (ids : List (List ℕ)) → number_beside (map (named_by k) ids) id ≡ cond (is_listed id ids) (Some k) None
gateways-beside id k [] = refl
gateways-beside id k (i ∷ ids) = by (bytes_eq i id) (gateways-beside id k ids)
  where
    by : (b : Bool) → number_beside (map (named_by k) ids) id ≡ cond (is_listed id ids) (Some k) None
        → option_map number_of (cond b (Some (named_by k i)) (find (λ r. bytes_eq r.id id) (map (named_by k) ids))) ≡ cond (b || is_listed id ids) (Some k) None
    by true h = refl
    by false h = h

-- the table that is found is the first one that lists the gateway
pub table-found : (d : Description) (rows : List Named) (id : List ℕ) → rows ≡ named_from by_gateways 0 d.tables → number_beside rows id ≡ position (λ t. is_listed id t.gateways) d.tables
table-found d rows id is =
    let test : RouteTable → Bool = λ (t : RouteTable). is_listed id t.gateways in
    ap (λ (l : List Named). number_beside l id) is
    ∙ named-found by_gateways test id (λ k t. gateways-beside id k t.gateways) 0 d.tables
    ∙ sym (position_from-zero test d.tables)

-- ---- endpoints of appliances

endpoint-beside : (id : List ℕ) (k : ℕ) (a : Appliance) → number_beside (by_endpoint k a) id ≡ cond (is_behind_endpoint a.at && bytes_eq a.id id) (Some k) None
endpoint-beside id k a = by (is_behind_endpoint a.at)
  where
    here : (b : Bool) → option_map number_of (cond b (Some (named_by k a.id)) None) ≡ cond b (Some k) None
    here true = refl
    here false = refl

    by : (b : Bool) → number_beside (cond b (named_by k a.id ∷ []) []) id ≡ cond (b && bytes_eq a.id id) (Some k) None
    by true = here (bytes_eq a.id id)
    by false = refl

-- the boxes that are found are those of the first appliance behind the endpoint
pub boxes-found : (d : Description) (rows : List Named) (appliances : List Appliance) (e : FirewallEndpoint) (number : Option ℕ) → rows ≡ named_from by_endpoint 0 d.appliances → appliances ≡ d.appliances
    → number ≡ number_beside rows e.id → option_map (λ a. boxes_of_kind a.kind) (option_and_then (slice_get appliances) number) ≡ boxes_of_firewall d e
boxes-found d rows appliances e number is whole told =
    let test : Appliance → Bool = λ (a : Appliance). is_behind_endpoint a.at && bytes_eq a.id e.id in
    let boxes : Option Appliance → Option (List Box5) = option_map (λ (a : Appliance). boxes_of_kind a.kind) in
    let found : number ≡ position test d.appliances =
    told ∙ ap (λ (l : List Named). number_beside l e.id) is
    ∙ named-found by_endpoint test e.id (endpoint-beside e.id) 0 d.appliances
    ∙ sym (position_from-zero test d.appliances) in
    ap (λ l. boxes (option_and_then (slice_get l) number)) whole
    ∙ ap (λ o. boxes (option_and_then (slice_get d.appliances) o)) found
    ∙ ap boxes (row-position test d.appliances)

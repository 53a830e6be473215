-- Routes that tables choose, and their targets.
use Rattle.std.proofs.Common.{◌≡◌, ◌∙◌, [], Contains, List, Option, Some, ap, false, length, subst, sym, true, ℕ}
use Rattle.std.proofs.lemmas.Bool.{and_from, and_parts, ltb-true, lt-ltb}
use Rattle.std.proofs.lemmas.List.Elements.{Contains-get_or}
use Rattle.std.proofs.lemmas.Option.{slice_get_within}
use Rattle.vpc_laws.proofs.Accepting.{accepted_has_all_named}
use Rattle.vpc_laws.proofs.Numbering.{ids_are_found}
use Rattle.vpc_laws.proofs.Rows.{routes_are_chosen}
use Rattle.vpc_laws.specs.Accepted.{HasTarget}
use Rattle.vpc_laws.specs.Choice.{Chooses, RouteYields}
use Rattle.vpc_laws.specs.Types.{Description, Route, TableNo, Target}
use Rattle.fabric.specs.Targets.{route_at, target_number}
use Rattle.vpc_model.specs.Accepted.{IsAccepted}
use Rattle.vpc_model.specs.Lookup.{no_table, table_at}
use Rattle.vpc_model.specs.Routes.{chosen_route, is_candidate}
use Rattle.vpc_model.specs.Sound.{is_eni, is_nat, is_peering, is_route, is_table}
use Rattle.vpc_model.specs.Step.Router.{no_route}
use Rattle.vpc_model.specs.declared.rows.Target.TheVariants as targets

-- the chosen route is one of the table's
pub chosen_route-lies : (d : Description) (t : TableNo) (k : ℕ) (a : ℕ) → is_table d t ≡ true → (let table = table_at d t in Some k ≡ chosen_route d table.routes a) → is_route d t k ≡ true
chosen_route-lies d t k a lies is =
    let table = table_at d t in
    let choice = subst (λ (o : Option ℕ). Chooses (is_candidate d table.routes a) (RouteYields d a) table.routes o) (sym is) (routes_are_chosen d table.routes a) in
    and_from (is_table d t) _ lies (lt-ltb k (length table.routes) (slice_get_within table.routes k choice.0 choice.1))

-- a route that isn't gone leads to what is there
pub has_target : (d n : Description) (t : TableNo) (k : ℕ) (route : Route) → n ≡ d → IsAccepted n → is_route d t k ≡ true → route ≡ route_at d t k → route.blackhole ≡ false
    → let table = table_at d t in let r = route_at d t k in HasTarget d table.vpc r.target
has_target d n t k route same accepted lies is live =
    let table = table_at d t in
    let parts = and_parts (is_table d t) _ lies in
    let listed : Contains d.tables table = Contains-get_or d.tables t.0 no_table (ltb-true t.0 (length d.tables) parts.0) in
    let route_listed : Contains table.routes (route_at d t k) = Contains-get_or table.routes k no_route (ltb-true k (length table.routes) parts.1) in
    (accepted_has_all_named d (subst IsAccepted same accepted)).target_of_route table (route_at d t k) listed route_listed (ap (λ (r : Route). r.blackhole) (sym is) ∙ live)

-- ---- what the targets of routes are

pub nat-lies : (d : Description) (vpc : List ℕ) (target : Target) (id : List ℕ) (k : ℕ) → target ≡ targets.Nat id → HasTarget d vpc target → k ≡ target_number d target → is_nat d (record { 0 = k }) ≡ true
nat-lies d vpc target id k is has number =
    let there : HasTarget d vpc (targets.Nat id) = subst (λ (x : Target). HasTarget d vpc x) is has in
    subst (λ (n : ℕ). is_nat d (record { 0 = n }) ≡ true) (sym (number ∙ ap (target_number d) is)) ((ids_are_found d).nat id there.0).0

pub peering-lies : (d : Description) (vpc : List ℕ) (target : Target) (id : List ℕ) (k : ℕ) → target ≡ targets.Peer id → HasTarget d vpc target → k ≡ target_number d target → is_peering d (record { 0 = k }) ≡ true
peering-lies d vpc target id k is has number =
    let there : HasTarget d vpc (targets.Peer id) = subst (λ (x : Target). HasTarget d vpc x) is has in
    subst (λ (n : ℕ). is_peering d (record { 0 = n }) ≡ true) (sym (number ∙ ap (target_number d) is)) ((ids_are_found d).peering id there.0).0

pub eni-lies : (d : Description) (vpc : List ℕ) (target : Target) (id : List ℕ) (k : ℕ) → target ≡ targets.Interface id → HasTarget d vpc target → k ≡ target_number d target → is_eni d (record { 0 = k }) ≡ true
eni-lies d vpc target id k is has number =
    let there : HasTarget d vpc (targets.Interface id) = subst (λ (x : Target). HasTarget d vpc x) is has in
    subst (λ (n : ℕ). is_eni d (record { 0 = n }) ≡ true) (sym (number ∙ ap (target_number d) is)) ((ids_are_found d).interface id there.0).0

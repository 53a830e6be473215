-- The routes of a table by its number.
use Rattle.std.proofs.Common.{◌≡◌, ◌<◌, ◌^◌, ◌∙◌, List, [], ap, arith, false, get_or, length, true}
use Rattle.std.proofs.lemmas.Bool.{ltb-true}
use Rattle.std.proofs.lemmas.List.{get_or_default}
use Rattle.std.proofs.lemmas.List.Elements.{Contains-get_or}
use Rattle.vpc_laws.proofs.Lengths.{accepted_has_short_lists}
use Rattle.vpc_laws.specs.Types.{Description, Route, RouteTable, TableNo}
use Rattle.vpc_model.specs.Accepted.{IsAccepted}
use Rattle.vpc_model.specs.Lookup.{no_table, table_at}
use Rattle.vpc_model.specs.Sound.{is_table}

-- what is read at a table's number are the table's routes
pub routes-at : (d : Description) (t : TableNo) (tables : List RouteTable) (row : RouteTable) (routes : List Route) → is_table d t ≡ true → tables ≡ d.tables → row ≡ get_or tables t.0 row → routes ≡ row.routes → routes ≡ (table_at d t).routes
routes-at d t tables row routes within same is its =
    its
    ∙ ap (λ (x : RouteTable). x.routes)
    (is ∙ (ap (λ l. get_or l t.0 row) same ∙ get_or_default d.tables t.0 row no_table (ltb-true t.0 (length d.tables) within)))

-- an accepted table has few
pub length-routes : (d : Description) (t : TableNo) (routes : List Route) → IsAccepted d → is_table d t ≡ true → routes ≡ (table_at d t).routes → length routes < 2 ^ 32
length-routes d t routes accepted within is =
    let lists = accepted_has_short_lists d accepted in
    let short = lists.routes_of_table (table_at d t) (Contains-get_or d.tables t.0 no_table (ltb-true t.0 (length d.tables) within)) in
    let same = ap length is in
    omega arith

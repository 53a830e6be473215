use Rattle.std.proofs.Common.{◌≡◌, ◌<◌, ◌≤◌, ◌+◌, ◌*◌, ◌^◌, ◌∙◌, ℕ, List, ap, length, subst}
use Rattle.std.specs.Result.{IfOk}
use Rattle.piece_table.specs.Pieces.{PieceLists, told_at}
use Rattle.vpc_laws.specs.Types.{Description, Route}
use Rattle.vpc_model.specs.Routes.{chosen_route}
use Rattle.route_tables.specs.Rows.{blocks_in}
use Rattle.route_tables.proofs.Tables.{length-routes, routes-at}
use Rattle.cut_laws.specs.Dividing.{DivideFirsts}
use Rattle.vpc_model.specs.Cuts.{all_cuts, cuts_of_route}
use Rattle.route_tables.proofs.index.RouteIndex.of.Goals as goal

pub index_of-requires-clause-short : goal.index_of-requires-clause-short
index_of-requires-clause-short c =
    let is = routes-at c.args.n.now c.args.t c.as_slice.result.now c.index-as_slice-t.result c.as_slice-2.result.now c.requires.table (c.as_slice.ensures ∙ ap (λ (d : Description). d.tables) c.description.ensures.value) c.index-as_slice-t.is c.as_slice-2.ensures in
    length-routes c.args.n.now c.args.t c.as_slice-2.result.now c.description.ensures.accepted c.requires.table is

pub returns-clause-chosen : goal.returns-clause-chosen
returns-clause-chosen c =
    let is = routes-at c.args.n.now c.args.t c.as_slice.result.now c.index-as_slice-t.result c.as_slice-2.result.now c.requires.table (c.as_slice.ensures ∙ ap (λ (d : Description). d.tables) c.description.ensures.value) c.index-as_slice-t.is c.as_slice-2.ensures in
    subst (λ (l : List Route). IfOk c.index_of.result (λ (x : PieceLists). (a : ℕ) → a < 2 ^ 32 → told_at x a ≡ chosen_route c.args.n.now l a)) is c.index_of.ensures.chosen

pub returns-clause-few : goal.returns-clause-few
returns-clause-few c =
    let is = routes-at c.args.n.now c.args.t c.as_slice.result.now c.index-as_slice-t.result c.as_slice-2.result.now c.requires.table (c.as_slice.ensures ∙ ap (λ (d : Description). d.tables) c.description.ensures.value) c.index-as_slice-t.is c.as_slice-2.ensures in
    subst (λ (l : List Route). IfOk c.index_of.result (λ (x : PieceLists). length x.firsts ≤ 2 * length (blocks_in c.args.n.now l) + 1)) is c.index_of.ensures.few

pub returns-clause-firsts : goal.returns-clause-firsts
returns-clause-firsts c =
    let is = routes-at c.args.n.now c.args.t c.as_slice.result.now c.index-as_slice-t.result c.as_slice-2.result.now c.requires.table (c.as_slice.ensures ∙ ap (λ (d : Description). d.tables) c.description.ensures.value) c.index-as_slice-t.is c.as_slice-2.ensures in
    subst (λ (l : List Route). IfOk c.index_of.result (λ (x : PieceLists). DivideFirsts x.firsts (all_cuts (cuts_of_route c.args.n.now) l))) is c.index_of.ensures.firsts

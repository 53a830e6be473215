use Rattle.std.proofs.Common.{◌∙◌, ap, subst}
use Rattle.fabric.proofs.RowFacts.{table-lies}
use Rattle.fabric.specs.Indexes.{IsRouteIndex}
use Rattle.vpc_laws.specs.Types.{Description, TableNo}
use Rattle.vpc_model.specs.Lookup.{table_at, table_of}
use Rattle.box_steps.proofs.RouteAnswers.{answers_of_table}
use Rattle.box_steps.proofs.choosing.route_on.Goals as goal

pub routes-requires : goal.routes-requires
routes-requires c = table-lies c.args.f.now c.network-n.result.now c.args.s c.table_of-t.result c.network-n.ensures c.description.ensures.accepted c.requires.subnet c.table_of-t.ensures

pub returns : goal.returns
returns c = λ came.
    let d = c.args.f.now in
    answers_of_table d c.args.s came c.routes.result.now c.args.i.now c.search_on.result
    (subst (λ (t : TableNo). IsRouteIndex d (table_at d t) c.routes.result.now)
    (c.table_of-t.ensures ∙ ap (λ (n : Description). table_of n c.args.s) c.network-n.ensures) c.routes.ensures)
    c.requires.valid c.search_on.ensures

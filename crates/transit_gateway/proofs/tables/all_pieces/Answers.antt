use Rattle.std.proofs.Common.{List, subst}
use Rattle.vpc_laws.specs.Types.{TgwRoute}
use Rattle.transit_gateway.specs.Rows.{IsRouteTable}
use Rattle.transit_gateway.proofs.Steps.{first-all, first-more}
use Rattle.transit_gateway.proofs.tables.all_pieces.Goals as goal

pub loop-table-preserved : goal.loop-table-preserved
loop-table-preserved c = first-more c.args.tables.now c.loop-table.table-index c.table-item.result c.in_ok-pieces.pieces c.loop-table.all.items c.add.new.all.items c.loop-table-test.true c.table-item.is c.loop-table.invariant (subst (λ (l : List TgwRoute). IsRouteTable l c.in_ok-pieces.pieces) c.as_slice.ensures c.in_ok-pieces.ensures) c.in_ok-add.ensures

pub returns : goal.returns
returns c = first-all c.args.tables.now c.loop-table.table-index c.loop-table.all.items c.loop-table-test.false c.loop-table.auto.table-index-end c.loop-table.invariant

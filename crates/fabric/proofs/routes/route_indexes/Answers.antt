use Rattle.std.proofs.Common.{◌∙◌, ◌<◌, ◌+◌, ap, arith, length, subst, sym, take}
use Rattle.std.specs.List.{AllZip}
use Rattle.vpc_laws.specs.Types.{Description}
use Rattle.fabric.specs.Indexes.{IsRouteIndex}
use Rattle.fabric.proofs.Numbered.{few-tables, zip-tables}
use Rattle.fabric.proofs.routes.route_indexes.Goals as goal

pub overflow_cast-k : goal.overflow_cast-k
overflow_cast-k c =
    let same = c.as_slice-tables.ensures ∙ ap (λ (d : Description). d.tables) c.description.ensures.value in
    let few = few-tables c.args.n.now c.as_slice-tables.result.now c.loop-k.k c.description.ensures.accepted same (omega (arith, c.loop-k-test.true)) in
    omega (arith, few)

pub loop-k-preserved : goal.loop-k-preserved
loop-k-preserved c =
    let same = c.as_slice-tables.ensures ∙ ap (λ (d : Description). d.tables) c.description.ensures.value in
    let all = ap length same in
    let within : c.loop-k.k < length c.args.n.now.tables = omega (arith, c.loop-k-test.true) in
    subst (AllZip (IsRouteIndex c.args.n.now) (take (c.loop-k.k + 1) c.args.n.now.tables)) (sym c.in_ok-add.ensures)
    (zip-tables c.args.n.now c.loop-k.k c.loop-k.indexes.items c.in_ok-index.index within c.loop-k.invariant c.in_ok-index.ensures)

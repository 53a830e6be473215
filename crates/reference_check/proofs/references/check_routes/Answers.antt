use Rattle.std.proofs.Common.{◌<◌, arith, length}
use Rattle.std.proofs.lemmas.Result.{err_from_is_err_and}
use Rattle.vpc_model.specs.Accepted.{missing_of_route}
use Rattle.reference_check.proofs.Told.{told_row}
use Rattle.reference_check.proofs.references.check_routes.Goals as goal

pub returns-in_err-check_route : goal.returns-in_err-check_route
returns-in_err-check_route c =
    let p = err_from_is_err_and c.from_residual.result c.from_residual.ensures.1 in
    let within : c.loop-route.route-index < length c.as_slice-route-items.result.now = omega arith in
    rw (p.1, p.2)
    (told_row (missing_of_route c.args.rows.now c.args.t.now) _ _ _ _ _ within c.route-item.is c.loop-route.invariant c.in_err-check_route.ensures)

use Rattle.std.proofs.Common.{◌++◌}
use Rattle.std.proofs.lemmas.Result.{err_from_is_err_and}
use Rattle.reference_check.specs.Missing.{missing_filters, missing_gateways, missing_networks}
use Rattle.reference_check.proofs.Told.{told_first, told_second}
use Rattle.reference_check.proofs.references.check_parts.Goals as goal

pub returns-in_err-check_networks : goal.returns-in_err-check_networks
returns-in_err-check_networks c =
    let p = err_from_is_err_and c.from_residual.result c.from_residual.ensures.1 in
    rw (p.1, p.2) (told_first (missing_networks c.args.rows.now) (missing_filters c.args.rows.now ++ (missing_gateways c.args.rows.now)) _ c.in_err-check_networks.ensures)

pub returns-in_err-check_filters : goal.returns-in_err-check_filters
returns-in_err-check_filters c =
    let p = err_from_is_err_and c.from_residual-in_err-check_filters.result c.from_residual-in_err-check_filters.ensures.1 in
    rw (p.1, p.2) (told_second (missing_networks c.args.rows.now) (missing_filters c.args.rows.now ++ (missing_gateways c.args.rows.now)) _ c.in_ok-check_networks.ensures (told_first (missing_filters c.args.rows.now) (missing_gateways c.args.rows.now) _ c.in_err-check_filters.ensures))

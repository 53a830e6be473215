use Rattle.std.proofs.Common.{◌++◌, ◌≡◌, Err, rules}
use Rattle.reference_check.specs.LongLists.{long_filters, long_gateways, long_networks, long_outside}
use Rattle.reference_check.proofs.Causes.{tells_first, tells_later}
use Rattle.reference_check.proofs.lengths.check_parts.Goals as goal

pub returns-in_err-check_networks : goal.returns-in_err-check_networks
returns-in_err-check_networks c =
    let d = c.args.d.now in
    let e : c.from_residual.result ≡ Err c.in_err-check_networks.field-0.0 = search rules in
    tells_first (long_networks d) (long_filters d ++ (long_gateways d ++ long_outside d)) _ _ e c.in_err-check_networks.ensures

pub returns-in_err-check_filters : goal.returns-in_err-check_filters
returns-in_err-check_filters c =
    let d = c.args.d.now in
    let e : c.from_residual-in_err-check_filters.result ≡ Err c.in_err-check_filters.field-0.0 = search rules in
    tells_later (long_networks d) (long_filters d ++ (long_gateways d ++ long_outside d)) _ c.in_ok-check_networks.ensures
    (tells_first (long_filters d) (long_gateways d ++ long_outside d) _ _ e c.in_err-check_filters.ensures)

pub returns-in_err-check_gateways : goal.returns-in_err-check_gateways
returns-in_err-check_gateways c =
    let d = c.args.d.now in
    let e : c.from_residual-in_err-check_gateways.result ≡ Err c.in_err-check_gateways.field-0.0 = search rules in
    tells_later (long_networks d) (long_filters d ++ (long_gateways d ++ long_outside d)) _ c.in_ok-check_networks.ensures
    (tells_later (long_filters d) (long_gateways d ++ long_outside d) _ c.in_ok-check_filters.ensures
    (tells_first (long_gateways d) (long_outside d) _ _ e c.in_err-check_gateways.ensures))

use Rattle.std.proofs.Common.{◌≡◌, Err, rules}
use Rattle.reference_check.specs.Attached.{subnets_with_two, vpcs_with_two}
use Rattle.reference_check.proofs.Causes.{tells_first}
use Rattle.reference_check.proofs.subnets.Attached.two_tables.Goals as goal

pub returns-in_err-two_mains : goal.returns-in_err-two_mains
returns-in_err-two_mains c =
    let e : c.from_residual.result ≡ Err c.in_err-two_mains.field-0.0 = search rules in
    tells_first (vpcs_with_two c.args.d.now) (subnets_with_two c.args.d.now) _ _ e c.in_err-two_mains.ensures

use Rattle.std.proofs.Common.{ap, map}
use Rattle.vpc_model.specs.Accepted.{duplicate_addresses}
use Rattle.reference_check.specs.Keys.{twice}
use Rattle.vpc_laws.proofs.Claims.{assigned-once}
use Rattle.reference_check.proofs.Told.{tells_none}
use Rattle.reference_check.proofs.addresses.checked_keys.Goals as goal

pub returns-clause-told : goal.returns-clause-told
returns-clause-told c =
    tells_none (duplicate_addresses c.args.d.now) _ c.assigned_keys.result c.in_ok-check_claims.ensures (ap (map twice) (assigned-once c.args.d.now c.in_ok-check_claims.ensures)) c.assigned_keys.ensures.told

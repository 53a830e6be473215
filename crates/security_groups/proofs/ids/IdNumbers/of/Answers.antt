use Rattle.std.proofs.Common.{arith}
use Rattle.security_groups.proofs.IdPlaces.{ids-next}
use Rattle.security_groups.proofs.ids.IdNumbers.of.Goals as goal

pub loop-id-preserved : goal.loop-id-preserved
loop-id-preserved c =
    ids-next c.args.ids.now c.loop-id.id-index c.id-item.result c.loop-id.numbers c.add.new.self (omega arith) c.id-item.is c.loop-id.invariant c.in_ok-add.ensures

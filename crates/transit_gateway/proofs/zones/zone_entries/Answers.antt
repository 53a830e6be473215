use Rattle.std.proofs.Common.{arith}
use Rattle.transit_gateway.proofs.ByNumber.{short-attachments}
use Rattle.transit_gateway.proofs.zones.zone_entries.Goals as goal

pub overflow_cast-number : goal.overflow_cast-number
overflow_cast-number c =
    let short = short-attachments c.args.n.now c.description.result.now c.as_slice-attachments.result.now c.description.ensures.accepted c.description.ensures.value c.as_slice-attachments.ensures in
    omega (arith, c.loop-number-test.true)

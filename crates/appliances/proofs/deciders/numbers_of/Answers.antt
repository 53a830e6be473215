use Rattle.std.proofs.Common.{arith}
use Rattle.appliances.proofs.Numbers.{value_at-table}
use Rattle.appliances.proofs.deciders.numbers_of.Goals as goal

pub returns : goal.returns
returns c = value_at-table c.of.result c.loop-number.entries.items c.args.rows.now c.loop-number.number (omega (arith, c.loop-number-test.false)) c.loop-number.invariant c.of.ensures

use Rattle.std.proofs.Common.{arith}
use Rattle.security_groups.proofs.CommonKeys.{low-found, low-none, low-past}
use Rattle.security_groups.proofs.sharing.low_from.Goals as goal

pub returns-in_default : goal.returns-in_default
returns-in_default c = low-none c.args.keys.now c.args.high c.args.low c.key_of.result c.next.result c.in_default.not-Some c.key_of.ensures c.next.ensures

pub returns-then-next-key_of : goal.returns-then-next-key_of
returns-then-next-key_of c = low-past c.args.keys.now c.args.high c.args.low c.key_of.result c.in-Some.next c.next.result c.in-Some.is c.key_of.ensures c.next.ensures (omega (arith, c.if-next-key_of.true, c.key_of-2.ensures))

pub returns : goal.returns
returns c =
    low-found c.args.keys.now c.args.high c.args.low c.key_of.result c.in-Some.next _ c.next.result c.ranges.low.fits c.in-Some.is c.key_of.ensures c.next.ensures (omega (arith, c.if-next-key_of.false, c.key_of-2.ensures)) (omega (arith, c.key_of-3.ensures))

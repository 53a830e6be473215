use Rattle.std.proofs.Common.{arith}
use Rattle.security_groups.proofs.ToldLemmas.{told-here}
use Rattle.security_groups.proofs.attached.told_of.Goals as goal

pub returns : goal.returns
returns c = told-here c.args.keys.now c.args.one c.args.other c.key_of.result c.share-value.result (omega (arith, c.ranges.one.fits)) (omega (arith, c.ranges.other.fits)) c.key_of.ensures c.share-value.ensures

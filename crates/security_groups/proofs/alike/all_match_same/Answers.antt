use Rattle.std.proofs.Common.{arith}
use Rattle.vpc_base.proofs.Zips.{zip_longer}
use Rattle.security_groups.specs.Alike.{MatchesSame}
use Rattle.security_groups.proofs.alike.all_match_same.Goals as goal

pub loop-k-preserved : goal.loop-k-preserved
loop-k-preserved c =
    zip_longer (MatchesSame c.args.names.now.one.now c.args.names.now.other.now) c.args.rules.now c.args.others.now c.loop-k.k c.index-rules-k.result c.index-others-k.result
    (omega arith) (omega arith) c.index-rules-k.is c.index-others-k.is c.loop-k.invariant (c.matches_same.ensures c.if-not-matches_same.false)

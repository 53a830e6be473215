use Rattle.std.proofs.Common.{subst, sym}
use Rattle.std.specs.List.{All}
use Rattle.std.proofs.lemmas.List.Elements.{All-push}
use Rattle.security_groups.specs.Sharing.{IsToldShare}
use Rattle.security_groups.proofs.attached.told_pairs.Goals as goal

pub loop-pair-preserved : goal.loop-pair-preserved
loop-pair-preserved c =
    subst (All (IsToldShare c.args.keys.now)) (sym c.in_ok-push.ensures.items) (All-push (IsToldShare c.args.keys.now) c.loop-pair.told.items c.told_of.result c.loop-pair.invariant c.told_of.ensures)

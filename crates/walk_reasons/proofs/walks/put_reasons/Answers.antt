use Rattle.walk_reasons.proofs.KeptLines.{reasons_text-parts}
use Rattle.walk_reasons.proofs.Texts.{put_after, put_as}
use Rattle.walk_reasons.proofs.walks.put_reasons.Goals as goal

pub returns : goal.returns
returns c =
    put_as c.put_outcome.result c.args.out.now.items _ _ c.put_outcome.new.out.items (reasons_text-parts c.args.f.now c.args.sent.now c.args.hops.now c.args.outcome.now)
    (put_after c.put_outcome.result c.args.out.now.items _ _ c.put_hops.new.out.items c.put_outcome.new.out.items c.in_ok-put_hops.ensures (rw c.network.ensures at c.put_outcome.ensures))

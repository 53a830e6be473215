use Rattle.block_report.specs.Hops.{hop_line}
use Rattle.block_report.proofs.Texts.{after_two}
use Rattle.walk_reasons.specs.Decisions.{decided}
use Rattle.walk_reasons.specs.Reasons.{decision_lines, rewritten}
use Rattle.walk_reasons.proofs.walks.put_hop_lines.Goals as goal

pub returns : goal.returns
returns c =
    let d = c.args.f.now in
    let hop = c.args.hop.now in
    after_two c.put_decided.result c.args.out.now.items (decision_lines d (rewritten c.args.before.now hop.header)) (hop_line d c.args.number hop) (decision_lines d (decided d hop))
    c.put_rewritten.new.out.items c.put_hop.new.out.items c.put_decided.new.out.items
    c.in_ok-put_rewritten.ensures (rw c.network.ensures at c.in_ok-put_hop.ensures) c.put_decided.ensures

use Rattle.std.proofs.Common.{arith, get_or}
use Rattle.std.proofs.lemmas.List.{get_or_default}
use Rattle.security_groups.proofs.Runs.{tops-all, tops-next}
use Rattle.security_groups.proofs.port_tables.tops_of.Goals as goal
use Rattle.security_groups.proofs.port_tables.tops_of.Goals.{then-top-last, else-top-last}

pub loop-last-preserved : goal.loop-last-preserved
loop-last-preserved c =
    let lasts = c.args.lasts.now in
    let k = c.loop-last.last-index in
    let tops = c.loop-last.tops.items in
    elim c.if-top-last.branch [
      | then-top-last w ↦
          tops-next lasts tops c.push.new.self.items k (get_or lasts k 0) c.loop-last.top c.if-top-last.top c.loop-last-test.true (get_or_default lasts k 0 (get_or lasts k 0) c.loop-last-test.true)
          c.loop-last.invariant.0 c.loop-last.invariant.1 (omega arith) (omega arith) c.in_ok-push.ensures.items
      | else-top-last w ↦
          tops-next lasts tops c.push.new.self.items k (get_or lasts k 0) c.loop-last.top c.if-top-last.top c.loop-last-test.true (get_or_default lasts k 0 (get_or lasts k 0) c.loop-last-test.true)
          c.loop-last.invariant.0 c.loop-last.invariant.1 (omega arith) (omega arith) c.in_ok-push.ensures.items
    ]

pub returns : goal.returns
returns c = tops-all c.args.lasts.now c.loop-last.tops.items c.loop-last.last-index c.loop-last-test.false c.loop-last.invariant.0

use Rattle.std.proofs.Common.{arith, length, subst}
use Rattle.std.proofs.lemmas.Grind.{div_ceil_times}
use Rattle.security_groups.specs.Tables.{EndBy}
use Rattle.security_groups.proofs.Runs.{runs-all, runs-next}
use Rattle.security_groups.proofs.port_tables.lasts_of.Goals as goal

pub loop-k-preserved : goal.loop-k-preserved
loop-k-preserved c =
    runs-next c.args.rules.now c.loop-k.lasts.items c.push.new.self.items c.loop-k.k c.last_of.result c.loop-k.invariant.0 c.loop-k.invariant.1 (subst (EndBy c.last_of.result) c.run_of.ensures c.last_of.ensures) c.in_ok-push.ensures.items

pub returns : goal.returns
returns c =
    let times = div_ceil_times (length c.args.rules.now) 16 (omega arith) in
    runs-all c.args.rules.now c.loop-k.lasts.items c.loop-k.k (omega arith) (omega arith) c.loop-k.invariant.0 c.loop-k.invariant.1

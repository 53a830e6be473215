use Rattle.std.proofs.Common.{rules, arith}
use Rattle.std.proofs.lemmas.Grind.{common_steps}
use Rattle.vpc_io.proofs.Added.{with_text-with_text}
use Rattle.vpc_io.proofs.sink.put_all.Goals as goal

pub loop-at-preserved : goal.loop-at-preserved
loop-at-preserved g c = record {
  within = grind (arith, common_steps);
  added = rw (c.in_ok-at.ensures.added, c.loop-at.invariant.added) (with_text-with_text _ _ _ _);
  faults_never_fall = search rules;
}

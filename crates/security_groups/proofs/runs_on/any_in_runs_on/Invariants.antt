use Rattle.security_groups.proofs.RunsOn.{IsInRuns}
use Rattle.security_groups.proofs.runs_on.any_in_runs_on.Given as goal

abbrev pub invariant-loop-k : goal.invariant-loop-k
invariant-loop-k l = IsInRuns l.lists l.members l.dir l.begun.rules.now l.i l.k l.rest

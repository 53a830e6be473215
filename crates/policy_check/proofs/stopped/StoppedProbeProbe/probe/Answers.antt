use Rattle.cut_laws.proofs.Among.{among_itself}
use Rattle.policy_check.proofs.stopped.StoppedProbeProbe.probe.Goals as goal

pub returns-clause-aligned : goal.returns-clause-aligned
returns-clause-aligned g c = c.is_stopped_on-answer.ensures.aligned _ (among_itself _)

use Rattle.cut_laws.proofs.Among.{among_itself}
use Rattle.box_walk.proofs.probe.RoundProbeProbe.probe.Goals as goal

pub returns-in-Ok-clause-aligned : goal.returns-in-Ok-clause-aligned
returns-in-Ok-clause-aligned g c = c.follow-answer.ensures.aligned _ (among_itself _)

pub returns-in-Err-clause-aligned : goal.returns-in-Err-clause-aligned
returns-in-Err-clause-aligned g c = c.follow_apart-answer.ensures.aligned _ (among_itself _)

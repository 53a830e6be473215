use Rattle.cut_laws.proofs.Among.{among_itself}
use Rattle.box_walk.proofs.open.OpenProbeProbe.probe.Goals as goal

pub returns-clause-aligned : goal.returns-clause-aligned
returns-clause-aligned g c = c.journey_on-answer.ensures.aligned _ (among_itself _)

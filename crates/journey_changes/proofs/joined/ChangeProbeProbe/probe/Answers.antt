use Rattle.cut_laws.proofs.Among.{among_itself}
use Rattle.journey_changes.proofs.joined.ChangeProbeProbe.probe.Goals as goal

pub returns-clause-aligned : goal.returns-clause-aligned
returns-clause-aligned g c = c.change_on-answer.ensures.aligned _ (among_itself _)

use Rattle.replay_laws.proofs.Interleaved.{answers_are_to_opens}
use Rattle.replay_laws.proofs.returns_answers_to_opens.Goals as goal

pub returns : goal.returns
returns c = answers_are_to_opens

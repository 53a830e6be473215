use Rattle.replay_laws.proofs.Interleaved.{answers_are_let_in}
use Rattle.replay_laws.proofs.lets_answers_in.Goals as goal

pub returns : goal.returns
returns c = answers_are_let_in

use Rattle.vpc_laws.proofs.Replies.{known_open_is_reused}
use Rattle.vpc_laws.proofs.nats.reuses_a_translation.Goals as goal

pub returns : goal.returns
returns c = known_open_is_reused

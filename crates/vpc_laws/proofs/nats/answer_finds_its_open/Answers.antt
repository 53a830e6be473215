use Rattle.vpc_laws.proofs.Replies.{answer_finds_its_open}
use Rattle.vpc_laws.proofs.nats.answer_finds_its_open.Goals as goal

pub returns : goal.returns
returns c = answer_finds_its_open

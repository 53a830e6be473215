use Rattle.made_network.proofs.Accepting.{made_is_accepted}
use Rattle.made_network.proofs.laws.is_accepted.Goals as goal

pub returns : goal.returns
returns c = made_is_accepted

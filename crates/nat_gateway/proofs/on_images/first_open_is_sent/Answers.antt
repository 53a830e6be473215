use Rattle.nat_gateway.proofs.SentLemmas.{first_open_is_sent}
use Rattle.nat_gateway.proofs.on_images.first_open_is_sent.Goals as goal

pub returns : goal.returns
returns c = first_open_is_sent

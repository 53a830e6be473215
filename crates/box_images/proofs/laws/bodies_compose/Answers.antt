use Rattle.box_images.proofs.BodyLemmas.{body_through}
use Rattle.box_images.proofs.laws.bodies_compose.Goals as goal

pub returns : goal.returns
returns c = body_through

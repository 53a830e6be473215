use Rattle.box_images.proofs.LawLemmas.{aligned_bodies_compose}
use Rattle.box_images.proofs.laws.aligned_bodies_compose.Goals as goal

pub returns : goal.returns
returns c = aligned_bodies_compose

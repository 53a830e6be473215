use Rattle.box_images.proofs.LawLemmas.{bodies_are_aligned}
use Rattle.box_images.proofs.laws.bodies_are_aligned.Goals as goal

pub returns : goal.returns
returns c = bodies_are_aligned

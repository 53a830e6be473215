use Rattle.box_images.proofs.LawLemmas.{narrowed_are_aligned}
use Rattle.box_images.proofs.laws.narrowed_are_aligned.Goals as goal

pub returns : goal.returns
returns c = narrowed_are_aligned

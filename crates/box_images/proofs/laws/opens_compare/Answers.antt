use Rattle.box_images.proofs.LawLemmas.{opens_compare}
use Rattle.box_images.proofs.laws.opens_compare.Goals as goal

pub returns : goal.returns
returns c = opens_compare

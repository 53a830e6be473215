use Rattle.box_images.proofs.LawLemmas.{images_fit}
use Rattle.box_images.proofs.laws.images_fit.Goals as goal

pub returns : goal.returns
returns c = images_fit

use Rattle.box_images.proofs.LawLemmas.{answers_compare}
use Rattle.box_images.proofs.laws.answers_compare.Goals as goal

pub returns : goal.returns
returns c = answers_compare

use Rattle.box_images.proofs.LawLemmas.{cuts_are_inside}
use Rattle.box_images.proofs.laws.cuts_are_inside.Goals as goal

pub returns : goal.returns
returns c = cuts_are_inside

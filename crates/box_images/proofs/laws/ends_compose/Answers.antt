use Rattle.box_images.proofs.LawLemmas.{ends_compose}
use Rattle.box_images.proofs.laws.ends_compose.Goals as goal

pub returns : goal.returns
returns c = ends_compose

use Rattle.header_boxes.proofs.BoxLaws.{aligned_transitive}
use Rattle.header_boxes.proofs.laws.aligned_transitive.Goals as goal

pub returns : goal.returns
returns c = aligned_transitive

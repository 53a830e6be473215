use Rattle.header_boxes.proofs.BoxLaws.{aligned_by_ends}
use Rattle.header_boxes.proofs.laws.aligned_by_ends.Goals as goal

pub returns : goal.returns
returns c = aligned_by_ends

use Rattle.header_boxes.proofs.BoxLaws.{aligned_grows}
use Rattle.header_boxes.proofs.laws.aligned_grows.Goals as goal

pub returns : goal.returns
returns c = aligned_grows

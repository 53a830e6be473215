use Rattle.header_boxes.proofs.BoxLaws.{minus_aligned}
use Rattle.header_boxes.proofs.laws.minus_aligned.Goals as goal

pub returns : goal.returns
returns c = minus_aligned

use Rattle.header_boxes.proofs.BoxLaws.{minus_low_after}
use Rattle.header_boxes.proofs.laws.minus_low_after.Goals as goal

pub returns : goal.returns
returns c = minus_low_after

use Rattle.header_boxes.proofs.BoxLaws.{box_holds_low}
use Rattle.header_boxes.proofs.laws.box_holds_low.Goals as goal

pub returns : goal.returns
returns c = box_holds_low

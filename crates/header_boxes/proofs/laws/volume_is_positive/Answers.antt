use Rattle.header_boxes.proofs.BoxLaws.{volume_is_positive}
use Rattle.header_boxes.proofs.laws.volume_is_positive.Goals as goal

pub returns : goal.returns
returns c = volume_is_positive

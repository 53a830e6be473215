use Rattle.header_boxes.proofs.BoxLaws.{low_is_least}
use Rattle.header_boxes.proofs.laws.low_is_least.Goals as goal

pub returns : goal.returns
returns c = low_is_least

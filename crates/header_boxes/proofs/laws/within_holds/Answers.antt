use Rattle.header_boxes.proofs.BoxLaws.{within_holds}
use Rattle.header_boxes.proofs.laws.within_holds.Goals as goal

pub returns : goal.returns
returns c = within_holds

use Rattle.header_boxes.proofs.BoxLaws.{aligned_cell}
use Rattle.header_boxes.proofs.laws.aligned_cell.Goals as goal

pub returns : goal.returns
returns c = aligned_cell

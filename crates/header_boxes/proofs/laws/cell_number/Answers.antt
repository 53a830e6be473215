use Rattle.header_boxes.proofs.BoxLaws.{cell_number}
use Rattle.header_boxes.proofs.laws.cell_number.Goals as goal

pub returns : goal.returns
returns c = cell_number

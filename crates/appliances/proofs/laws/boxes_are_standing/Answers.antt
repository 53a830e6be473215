use Rattle.appliances.proofs.Standing.{boxes_are_standing}
use Rattle.appliances.proofs.laws.boxes_are_standing.Goals as goal

pub returns : goal.returns
returns c = boxes_are_standing

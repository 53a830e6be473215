use Rattle.header_boxes.proofs.Held.{holds-common_box}
use Rattle.header_boxes.proofs.boxes.Box5.meet.Goals as goal

pub returns-then-is_valid-clause-holds : goal.returns-then-is_valid-clause-holds
returns-then-is_valid-clause-holds c h = rw c.common-shared.ensures (holds-common_box h c.args.self.now c.args.other.now)

use Rattle.std.proofs.Common.{All, take}
use Rattle.header_boxes.specs.Boxes.{IsWithin}
use Rattle.box_survey.proofs.hulls.hull.Given as goal

abbrev pub invariant-loop-b : goal.invariant-loop-b
invariant-loop-b l = IsWithin l.whole l.hull × All (λ b. IsWithin b l.hull) (take l.b-index l.boxes)

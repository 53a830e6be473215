use Rattle.image_tests.proofs.Trying.{IsTrying}
use Rattle.appliances.proofs.OnImages.{any_holds, divide_boxes}
use Rattle.appliances.proofs.on_images.passes_on.Given as goal

abbrev pub invariant-loop-b : goal.invariant-loop-b
invariant-loop-b l = IsTrying (divide_boxes l.boxes) (any_holds l.i l.boxes) (any_holds l.i) l.boxes l.i l.b-index l.rest

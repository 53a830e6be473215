use Rattle.image_tests.proofs.Trying.{IsTrying}
use Rattle.network_acls.proofs.Matching.{first_match}
use Rattle.network_acls.proofs.on_images.first_verdict_on.Given as goal
use Rattle.network_acls.specs.Tried.{DivideRows}

abbrev pub invariant-loop-row : goal.invariant-loop-row
invariant-loop-row l = IsTrying (DivideRows l.rows) (first_match l.dir l.i l.rows) (first_match l.dir l.i) l.rows l.i l.row-index l.rest

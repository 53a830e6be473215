use Rattle.std.proofs.Common.{ℕ, subst}
use Rattle.cut_laws.specs.Dividing.{Divide}
use Rattle.vpc_model.specs.Cuts.{cuts_of_box}
use Rattle.image_tests.proofs.Answering.{side_answers}
use Rattle.image_tests.proofs.EdgeCuts.{box_edges}
use Rattle.image_tests.proofs.boxes.side_in.Goals as goal
use Rattle.image_tests.specs.Tests.{TellsSide}

pub returns : goal.returns
returns c =
    let i = c.args.i.now in
    let b = c.args.b.now in
    let s = c.args.side in
    side_answers (Divide (cuts_of_box b)) i s _ _ c.side_on.result c.requires.valid (box_edges i b s c.requires.walk)
    (subst (λ (r : ℕ × ℕ). TellsSide i s r.0 r.1 c.side_on.result) c.side_of-from.ensures c.side_on.ensures)

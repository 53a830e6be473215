use Rattle.std.proofs.Common.{subst}
use Rattle.box_images.specs.Answers.{Answers}
use Rattle.box_images.specs.Images.{header_at}
use Rattle.box_images.specs.declared.fields.Side.TheVariants.{Proto}
use Rattle.box_images.specs.declared.images.Image.{Image}
use Rattle.cut_laws.specs.Dividing.{Divide}
use Rattle.vpc_model.specs.Cuts.{cuts_of_box}
use Rattle.image_tests.proofs.Answering.{answers_both}
use Rattle.image_tests.proofs.boxes.box_on.Goals as goal
use Rattle.image_tests.specs.Tests.{holds_ends, is_on}

pub returns : goal.returns
returns c =
    let i = c.args.i.now in
    let b = c.args.b.now in
    let enough = Divide (cuts_of_box b) in
    answers_both enough (λ h. is_on Proto (header_at i h) b) (λ h. holds_ends (header_at i h) b) i.part
    c.side_in-first.result c.ends_in.result (cc) c.side_in-first.ensures
    (subst (λ (j : Image). Answers enough (λ h. holds_ends (header_at j h) b) j.part c.ends_in.result) c.within.ensures.image c.ends_in.ensures)

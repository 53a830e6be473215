use Rattle.std.proofs.Common.{subst}
use Rattle.box_images.specs.Answers.{Answers}
use Rattle.box_images.specs.Images.{header_at}
use Rattle.box_images.specs.declared.fields.Side.TheVariants.{Src}
use Rattle.box_images.specs.declared.images.Image.{Image}
use Rattle.cut_laws.specs.Dividing.{Divide}
use Rattle.vpc_model.specs.Cuts.{cuts_of_box}
use Rattle.image_tests.proofs.Answering.{answers_both}
use Rattle.image_tests.proofs.boxes.ends_in.Goals as goal
use Rattle.image_tests.specs.Tests.{holds_from_dst, is_on}

pub returns : goal.returns
returns c =
    let i = c.args.i.now in
    let b = c.args.b.now in
    let enough = Divide (cuts_of_box b) in
    answers_both enough (λ h. is_on Src (header_at i h) b) (λ h. holds_from_dst (header_at i h) b) i.part
    c.side_in-first.result c.from_dst_in.result (cc) c.side_in-first.ensures
    (subst (λ (j : Image). Answers enough (λ h. holds_from_dst (header_at j h) b) j.part c.from_dst_in.result) c.within.ensures.image c.from_dst_in.ensures)

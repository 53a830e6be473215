use Rattle.std.proofs.Common.{Bool, subst}
use Rattle.vpc_base.specs.declared.headers.Header.{Header}
use Rattle.box_images.specs.Answers.{Answers}
use Rattle.box_images.specs.Images.{header_at}
use Rattle.box_images.specs.declared.images.Image.{Image}
use Rattle.box_images.proofs.LawLemmas.{answers_either, answers_first}
use Rattle.cut_laws.specs.Dividing.{Divide, DivideTurns}
use Rattle.image_tests.proofs.Answering.{answers_more}
use Rattle.vpc_model.specs.Cuts.{fixed_cuts}
use Rattle.vpc_model.specs.Internet.{is_unroutable}
use Rattle.edge_gateways.proofs.Turning.{fixed-divide}
use Rattle.edge_gateways.proofs.internet.unroutable_on.Goals as goal

pub returns-then-source : goal.returns-then-source
returns-then-source c =
    let i = c.args.i.now in
    let source : Header → Bool = λ h. is_unroutable (header_at i h).src in
    let destination : Header → Bool = λ h. is_unroutable (header_at i h).dst in
    answers_first (Divide fixed_cuts) source destination i.part c.side_on-source.result c.if-source.true
    (answers_more (DivideTurns is_unroutable) (Divide fixed_cuts) source i.part c.side_on-source.result fixed-divide c.side_on-source.ensures)

pub returns : goal.returns
returns c =
    let i = c.args.i.now in
    let x = c.side_on-source.result in
    let y = c.side_on.result in
    let source : Header → Bool = λ h. is_unroutable (header_at i h).src in
    let destination : Header → Bool = λ h. is_unroutable (header_at i h).dst in
    let over = subst (λ (j : Image). Answers (DivideTurns is_unroutable) (λ h. is_unroutable (header_at j h).dst) j.part y) c.within.ensures.image c.side_on.ensures in
    answers_either (Divide fixed_cuts) source destination i.part x y c.if-source.false
    (answers_more (DivideTurns is_unroutable) (Divide fixed_cuts) source i.part x fixed-divide c.side_on-source.ensures)
    (answers_more (DivideTurns is_unroutable) (Divide fixed_cuts) destination x.body y fixed-divide over)

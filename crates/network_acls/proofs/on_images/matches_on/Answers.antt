use Rattle.std.proofs.Common.{Bool, subst}
use Rattle.std.proofs.lemmas.Bool.{not-true}
use Rattle.vpc_base.specs.declared.headers.Header.{Header}
use Rattle.box_images.specs.Answers.{Answers}
use Rattle.box_images.specs.Fields.{number_of}
use Rattle.box_images.specs.Images.{header_at}
use Rattle.box_images.specs.declared.images.Image.{Image}
use Rattle.cut_laws.specs.Dividing.{Divide}
use Rattle.image_tests.proofs.Answering.{answers_both, answers_refused, answers_rule}
use Rattle.image_tests.specs.Tests.{cuts_of_block, fits_rule}
use Rattle.prefix_text.specs.Block.{holds}
use Rattle.vpc_model.specs.Cuts.{cuts_of_acl_row}
use Rattle.vpc_model.specs.Filter.{far_address}
use Rattle.network_acls.proofs.Matching.{block_of_row, block_refuses, rule_of_row}
use Rattle.network_acls.proofs.on_images.matches_on.Goals as goal

pub returns-then-not-fits : goal.returns-then-not-fits
returns-then-not-fits c =
    let i = c.args.i.now in
    let r = c.args.row.now in
    let dir = c.args.dir in
    let enough = Divide (cuts_of_acl_row r) in
    let fits : Header → Bool = λ h. fits_rule r.proto r.q_from r.q_to (header_at i h) in
    let far : Header → Bool = λ h. holds (far_address dir (header_at i h)) r.block in
    answers_rule enough r.proto r.q_from r.q_to i far i.part c.rule_on-fits.result
    (answers_refused enough fits far i.part c.rule_on-fits.result c.if-not-fits.true (rule_of_row i r c.rule_on-fits.result c.rule_on-fits.ensures))

pub returns-then-not-far : goal.returns-then-not-far
returns-then-not-far c =
    block_refuses c.args.i.now c.args.dir c.args.row.now c.far_side-side.result c.block_on-far.result c.far_side-side.ensures.far
    (not-true c.block_on-far.result.told c.if-not-far.true) c.block_on-far.ensures

pub returns : goal.returns
returns c =
    let i = c.args.i.now in
    let r = c.args.row.now in
    let dir = c.args.dir in
    let x = c.rule_on-fits.result in
    let enough = Divide (cuts_of_acl_row r) in
    let fits : Header → Bool = λ h. fits_rule r.proto r.q_from r.q_to (header_at i h) in
    let far : Header → Bool = λ h. holds (far_address dir (header_at i h)) r.block in
    answers_rule enough r.proto r.q_from r.q_to i far i.part c.block_on.result
    (answers_both enough fits far i.part x c.block_on.result c.if-not-fits.false (rule_of_row i r x c.rule_on-fits.ensures)
    (block_of_row i dir r c.far_side-side.result x.body c.block_on.result c.far_side-side.ensures.far
    (subst (λ (j : Image). Answers (Divide (cuts_of_block r.block)) (λ h. holds (number_of (header_at j h) c.far_side-side.result) r.block) j.part c.block_on.result)
    c.within.ensures.image c.block_on.ensures)))

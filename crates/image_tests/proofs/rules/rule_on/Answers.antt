use Rattle.std.proofs.Common.{[], Bool, subst}
use Rattle.vpc_base.specs.declared.headers.Header.{Header}
use Rattle.box_images.specs.Answers.{Answers}
use Rattle.box_images.specs.Images.{header_at}
use Rattle.box_images.specs.declared.images.Image.{Image}
use Rattle.cut_laws.specs.Dividing.{Divide}
use Rattle.vpc_model.specs.Cuts.{cuts_of_rule}
use Rattle.vpc_model.specs.Filter.{is_between, matches_proto}
use Rattle.image_tests.proofs.Answering.{answers_both, answers_more, answers_refused}
use Rattle.image_tests.proofs.EdgeCuts.{proto_of_rule, range_of_rule}
use Rattle.image_tests.proofs.rules.rule_on.Goals as goal
use Rattle.image_tests.specs.Tests.{cuts_of_proto, cuts_of_range}

pub returns-then-not-fits : goal.returns-then-not-fits
returns-then-not-fits c =
    let i = c.args.i.now in
    let enough = Divide (cuts_of_rule c.args.proto c.args.from c.args.to []) in
    let proto : Header → Bool = λ h. matches_proto c.args.proto (header_at i h).proto in
    let range : Header → Bool = λ h. is_between c.args.from c.args.to (header_at i h).q in
    answers_refused enough proto range i.part c.proto_on-fits.result c.if-not-fits.true
    (answers_more (Divide (cuts_of_proto c.args.proto)) enough proto i.part c.proto_on-fits.result
    (proto_of_rule c.args.proto c.args.from c.args.to) c.proto_on-fits.ensures)

pub returns : goal.returns
returns c =
    let i = c.args.i.now in
    let from = c.args.from in
    let to = c.args.to in
    let x = c.proto_on-fits.result in
    let y = c.range_on.result in
    let enough = Divide (cuts_of_rule c.args.proto from to []) in
    let proto : Header → Bool = λ h. matches_proto c.args.proto (header_at i h).proto in
    let range : Header → Bool = λ h. is_between from to (header_at i h).q in
    let later = subst (λ (j : Image). Answers (Divide (cuts_of_range from to)) (λ h. is_between from to (header_at j h).q) j.part y)
    c.within.ensures.image c.range_on.ensures in
    answers_both enough proto range i.part x y c.if-not-fits.false
    (answers_more (Divide (cuts_of_proto c.args.proto)) enough proto i.part x (proto_of_rule c.args.proto from to) c.proto_on-fits.ensures)
    (answers_more (Divide (cuts_of_range from to)) enough range x.body y (range_of_rule c.args.proto from to) later)

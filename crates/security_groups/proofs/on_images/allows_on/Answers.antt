use Rattle.std.proofs.Common.{◌&&◌, ◌≡◌, ◌∙◌, [], Bool, ap, arith, false, refl, subst, true}
use Rattle.std.proofs.Math.Bool.{and_comm}
use Rattle.vpc_base.specs.declared.headers.Header.{Header}
use Rattle.box_images.specs.Answers.{Answers}
use Rattle.box_images.specs.Fields.{number_of}
use Rattle.box_images.specs.Images.{header_at}
use Rattle.box_images.specs.declared.images.Image.{Image}
use Rattle.box_images.specs.declared.images.Part.{Part}
use Rattle.cut_laws.specs.Dividing.{Divide}
use Rattle.image_tests.proofs.Answering.{answers_both, answers_more, answers_refused, answers_rule, answers_same}
use Rattle.image_tests.specs.Keys.{low_on}
use Rattle.image_tests.specs.Tests.{fits_rule}
use Rattle.vpc_model.specs.Cuts.{cuts_of_rule}
use Rattle.vpc_model.specs.Filter.{far_address}
use Rattle.security_groups.proofs.RunsOn.{ended-before}
use Rattle.security_groups.proofs.Stretching.{low-of-rest, names-none, stretch-answers}
use Rattle.security_groups.proofs.on_images.allows_on.Goals as goal
use Rattle.security_groups.specs.Dividing.{IsStretchOf}
use Rattle.security_groups.specs.Rules.{DivideRule, names}

pub returns-then-rule-q-clause-none : goal.returns-then-rule-q-clause-none
returns-then-rule-q-clause-none c = λ h t.
    let port = c.requires.above h t in
    let less = c.if-rule-q.true in
    ended-before c.args.lists.now c.args.members.now c.args.dir (header_at c.args.i.now h) c.args.rule.now (omega arith)

pub returns-then-greatest-last-clause-none : goal.returns-then-greatest-last-clause-none
returns-then-greatest-last-clause-none c =
    names-none c.args.lists.now c.args.members.now c.args.dir c.args.rule.now c.args.i.now c.far_side-side.result c.low_on-low.result c.greatest.result c.named_from-last.result
    c.far_side-side.ensures.far c.low_on-low.ensures c.greatest.ensures c.if-not-named.true c.if-greatest-last.true c.named_from-last.ensures

pub returns-then-not-fits-clause-told : goal.returns-then-not-fits-clause-told
returns-then-not-fits-clause-told c =
    let i = c.args.i.now in
    let r = c.args.rule.now in
    let x = c.rule_on-fits.result in
    let enough = DivideRule c.args.lists.now c.args.members.now r in
    let fits : Header → Bool = λ h. fits_rule r.proto r.q_from r.q_to (header_at i h) in
    let far : Header → Bool = λ h. names c.args.lists.now c.args.members.now (far_address c.args.dir (header_at i h)) r in
    answers_rule enough r.proto r.q_from r.q_to i far i.part x
    (answers_refused enough fits far i.part x c.if-not-fits.true
    (answers_more (Divide (cuts_of_rule r.proto r.q_from r.q_to [])) enough fits i.part x (λ cuts d. d.rule) c.rule_on-fits.ensures))

pub up_to-requires-clause-ordered : goal.up_to-requires-clause-ordered
up_to-requires-clause-ordered c = c.named_from-last.ensures.from

pub returns-then-not-named-2-clause-told : goal.returns-then-not-named-2-clause-told
returns-then-not-named-2-clause-told c =
    let i = c.args.i.now in
    let r = c.args.rule.now in
    let s = c.far_side-side.result in
    let lists = c.args.lists.now in
    let members = c.args.members.now in
    let named = c.named_from-last.result in
    let x : Part Bool = record { body = c.up_to.result; told = false } in
    let enough = DivideRule lists members r in
    let fits : Header → Bool = λ h. fits_rule r.proto r.q_from r.q_to (header_at i h) in
    let far : Header → Bool = λ h. names lists members (far_address c.args.dir (header_at i h)) r in
    let at : Header → Bool = λ h. names lists members (number_of (header_at i h) s) r in
    let fails : named.1 ≡ false = c.if-not-named-2.true in
    let answer : Answers enough at i.part x =
    stretch-answers enough (λ a. names lists members a r) i s c.low_on-low.result named.0 false c.up_to.result c.low_on-low.ensures
    (subst (λ b. IsStretchOf enough (λ a. names lists members a r) c.low_on-low.result (named.0, b)) fails c.named_from-last.ensures) c.up_to.ensures in
    answers_rule enough r.proto r.q_from r.q_to i far i.part x
    (answers_same enough (λ h. far h && fits h) (λ h. fits h && far h) i.part x (λ h. and_comm (far h) (fits h))
    (answers_refused enough far fits i.part x refl
    (answers_same enough at far i.part x (λ h. ap (λ a. names lists members a r) (c.far_side-side.ensures.far (header_at i h))) answer)))

pub up_to-requires-2-clause-low : goal.up_to-requires-2-clause-low
up_to-requires-2-clause-low c =
    c.low_on-low.ensures ∙ low-of-rest c.args.i.now c.within.result c.rule_on-fits.result.body c.far_side-side.result c.rule_on-fits.ensures.body c.within.ensures.image

pub up_to-requires-2-clause-ordered : goal.up_to-requires-2-clause-ordered
up_to-requires-2-clause-ordered c = c.named_from-last.ensures.from

pub returns-clause-told : goal.returns-clause-told
returns-clause-told c =
    let i = c.args.i.now in
    let r = c.args.rule.now in
    let s = c.far_side-side.result in
    let lists = c.args.lists.now in
    let members = c.args.members.now in
    let named = c.named_from-last.result in
    let x = c.rule_on-fits.result in
    let rest = c.within.result in
    let y : Part Bool = record { body = c.up_to-2.result; told = true } in
    let enough = DivideRule lists members r in
    let fits : Header → Bool = λ h. fits_rule r.proto r.q_from r.q_to (header_at i h) in
    let far : Header → Bool = λ h. names lists members (far_address c.args.dir (header_at i h)) r in
    let at : Header → Bool = λ h. names lists members (number_of (header_at i h) s) r in
    let passes : named.1 ≡ true = c.if-not-named-2.false in
    let low : c.low_on-low.result ≡ low_on rest s = c.low_on-low.ensures ∙ low-of-rest i rest x.body s c.rule_on-fits.ensures.body c.within.ensures.image in
    let answer : Answers enough (λ h. names lists members (number_of (header_at rest h) s) r) rest.part y =
    stretch-answers enough (λ a. names lists members a r) rest s c.low_on-low.result named.0 true c.up_to-2.result low
    (subst (λ b. IsStretchOf enough (λ a. names lists members a r) c.low_on-low.result (named.0, b)) passes c.named_from-last.ensures) c.up_to-2.ensures in
    let later = subst (λ (j : Image). Answers enough (λ h. names lists members (number_of (header_at j h) s) r) j.part y) c.within.ensures.image answer in
    answers_rule enough r.proto r.q_from r.q_to i far i.part y
    (answers_both enough fits far i.part x y c.if-not-fits.false
    (answers_more (Divide (cuts_of_rule r.proto r.q_from r.q_to [])) enough fits i.part x (λ cuts d. d.rule) c.rule_on-fits.ensures)
    (answers_same enough at far x.body y (λ h. ap (λ a. names lists members a r) (c.far_side-side.ensures.far (header_at i h))) later))

use Rattle.std.proofs.Common.{subst, sym}
use Rattle.header_boxes.specs.Boxes.{IsWithin}
use Rattle.nat_gateway.proofs.SentLemmas.{gives_back_nothing, gives_back_reply}
use Rattle.nat_gateway.proofs.on_images.inward_on.Goals as goal

pub returns-then-not-answers-clause-answer : goal.returns-then-not-answers-clause-answer
returns-then-not-answers-clause-answer c addresses n k =
    gives_back_nothing addresses n c.args.i.now c.args.before.now c.args.after.now c.answers_on-answers.result
    (c.answers_on-answers.ensures addresses (record { answer = k.answer; origin = k.sent })) c.if-not-answers.true

pub within-requires-clause-within : goal.within-requires-clause-within
within-requires-clause-within c =
    let kinds = c.requires.kinds in
    let tells = c.answers_on-answers.ensures kinds.0 (record { answer = kinds.1.answer; origin = kinds.1.sent }) in
    subst (IsWithin c.answers_on-answers.result.body) (sym c.requires.part_before) tells.body.within

pub returns-clause-answer : goal.returns-clause-answer
returns-clause-answer c addresses n k =
    gives_back_reply addresses n c.args.i.now c.args.before.now c.args.after.now c.within.result c.answers_on-answers.result c.reply_on.result
    (c.answers_on-answers.ensures addresses (record { answer = k.answer; origin = k.sent })) c.if-not-answers.false c.within.ensures.image
    (c.reply_on.ensures.answer addresses ((c.within.ensures.kind addresses).of_open k.origin))

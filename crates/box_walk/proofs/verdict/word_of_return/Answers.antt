use Rattle.std.proofs.Common.{◌∙◌, ap, sym}
use Rattle.box_images.specs.declared.images.Image.{Image}
use Rattle.box_walk.proofs.TellingReplies.{other_return, right_return}
use Rattle.box_walk.specs.Asking.{homes_by}
use Rattle.box_walk.proofs.verdict.word_of_return.Goals as goal

pub answers_on-returned-requires-clause-kinds : goal.answers_on-returned-requires-clause-kinds
answers_on-returned-requires-clause-kinds c = (c.requires.kind.0, record { answer = c.requires.kind.1; origin = c.of-sent.ensures.kind c.requires.kind.0 })

pub narrow-requires-clause-within : goal.narrow-requires-clause-within
narrow-requires-clause-within c =
    let tells = c.answers_on-returned.ensures c.requires.kind.0 (record { answer = c.requires.kind.1; origin = c.of-sent.ensures.kind c.requires.kind.0 }) in
    tells.body.within

pub returns-then-returned : goal.returns-then-returned
returns-then-returned c addresses answer =
    right_return addresses (homes_by c.args.links.now c.args.start) c.args.end c.args.m.now c.narrow.new.self c.of-sent.result c.answers_on-returned.result
    (sym c.is_home.ensures ∙ c.if-not-is_home.false) c.of-sent.ensures.value
    (c.answers_on-returned.ensures addresses (record { answer = answer; origin = c.of-sent.ensures.kind addresses }))
    (ap (λ (i : Image). i.part) c.narrow.ensures.header) c.if-returned.true

pub returns-else-returned : goal.returns-else-returned
returns-else-returned c addresses answer =
    other_return addresses (homes_by c.args.links.now c.args.start) c.args.end c.args.m.now c.narrow.new.self c.of-sent.result c.answers_on-returned.result
    (sym c.is_home.ensures ∙ c.if-not-is_home.false) c.of-sent.ensures.value
    (c.answers_on-returned.ensures addresses (record { answer = answer; origin = c.of-sent.ensures.kind addresses }))
    (ap (λ (i : Image). i.part) c.narrow.ensures.header) c.if-returned.false

use Rattle.std.proofs.Common.{◌∙◌, ap, sym}
use Rattle.box_images.specs.declared.images.Image.{Image}
use Rattle.box_walk.proofs.TellingArrivals.{is_reply, no_reply, replied, reply_moment}
use Rattle.box_walk.specs.Asking.{homes_by}
use Rattle.vpc_model.specs.Appliances.{appliances_of}
use Rattle.vpc_model.specs.Lookup.{addresses_in}
use Rattle.box_walk.proofs.verdict.word_of_arrival.Goals as goal

pub narrow-requires-clause-within : goal.narrow-requires-clause-within
narrow-requires-clause-within g c =
    let gives = c.reply_on-reply.ensures.answer (addresses_in c.args.f.now) c.requires.moment.kind in
    gives.body.within

pub word_of_answer-requires-clause-moment : goal.word_of_answer-requires-clause-moment
word_of_answer-requires-clause-moment g c =
    reply_moment c.args.f.now c.args.goal c.args.m.now c.narrow.new.self c.reply_on-reply.result c.in-Some.answer c.start_place-m.result c.requires.goal c.requires.moment
    (c.reply_on-reply.ensures.answer (addresses_in c.args.f.now) c.requires.moment.kind) (c.reply_on-reply.ensures.kind (addresses_in c.args.f.now) c.requires.moment.kind)
    c.narrow.ensures c.in-Some.is c.start_place-m.ensures

pub returns-in-None : goal.returns-in-None
returns-in-None g c =
    no_reply c.args.f.now (appliances_of c.args.f.now) (homes_by c.args.links.now c.args.start) c.args.goal c.args.end c.args.m.now c.narrow.new.self c.reply_on-reply.result
    (sym c.same_end.ensures ∙ c.if-not-same_end.false)
    (c.reply_on-reply.ensures.answer (addresses_in c.args.f.now) c.requires.moment.kind)
    (ap (λ (i : Image). i.part) c.narrow.ensures.header) c.in-None.is

pub returns-in-Some : goal.returns-in-Some
returns-in-Some g c =
    let gives = c.reply_on-reply.ensures.answer (addresses_in c.args.f.now) c.requires.moment.kind in
    replied c.args.f.now (appliances_of c.args.f.now) (homes_by c.args.links.now c.args.start) c.args.goal c.args.end c.args.m.now _ c.word_of_answer.new.m c.reply_on-reply.result c.in-Some.answer c.word_of_answer.result
    (sym c.same_end.ensures ∙ c.if-not-same_end.false) gives
    (is_reply (addresses_in c.args.f.now) c.args.goal c.args.m.now c.narrow.new.self c.reply_on-reply.result c.in-Some.answer c.start_place-m.result gives c.narrow.ensures c.in-Some.is c.start_place-m.ensures)
    c.word_of_answer.ensures

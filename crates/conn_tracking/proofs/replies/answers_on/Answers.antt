use Rattle.std.proofs.Common.{◌≡◌, ◌∙◌, ap, subst, sym}
use Rattle.header_boxes.specs.Boxes.{IsWithin}
use Rattle.box_images.specs.Images.{IsImageOfAnswer, IsValidImage}
use Rattle.box_images.specs.declared.images.Image.{Image}
use Rattle.conn_tracking.proofs.ReplyLemmas.{known_of_some, tells_by_reply, tells_without_reply}
use Rattle.conn_tracking.proofs.replies.answers_on.Goals as goal

pub within-requires-clause-within : goal.within-requires-clause-within
within-requires-clause-within c =
    let kinds = c.requires.kinds in
    let gives = c.reply_on-reply.ensures.answer kinds.0 kinds.1.origin in
    subst (IsWithin c.reply_on-reply.result.body) c.requires.part gives.body.within

pub same_on-requires-clause-valid : goal.same_on-requires-clause-valid
same_on-requires-clause-valid c =
    let kinds = c.requires.kinds in
    let gives = c.reply_on-reply.ensures.answer kinds.0 kinds.1.origin in
    known_of_some c.reply_on-reply.result.told c.in-Some.told IsValidImage gives.valid c.in-Some.is

pub same_on-requires-clause-part : goal.same_on-requires-clause-part
same_on-requires-clause-part c =
    let kinds = c.requires.kinds in
    let gives = c.reply_on-reply.ensures.answer kinds.0 kinds.1.origin in
    ap (λ (i : Image). i.part) c.within.ensures.image
    ∙ sym (known_of_some c.reply_on-reply.result.told c.in-Some.told (λ i. i.part ≡ c.reply_on-reply.result.body) gives.over c.in-Some.is)

pub same_on-requires-clause-kinds : goal.same_on-requires-clause-kinds
same_on-requires-clause-kinds c =
    let kinds = c.requires.kinds in
    let reply = c.reply_on-reply.ensures.kind kinds.0 kinds.1.origin in (
      kinds.0,
      record {
        one = known_of_some c.reply_on-reply.result.told c.in-Some.told (IsImageOfAnswer kinds.0) reply c.in-Some.is;
        other = (c.within.ensures.kind kinds.0).of_answer kinds.1.answer;
      },
    )

pub returns-in-Some : goal.returns-in-Some
returns-in-Some c addresses k =
    let reply = c.reply_on-reply in
    let gives = reply.ensures.answer addresses k.origin in
    let over = c.within in
    tells_by_reply addresses c.args.i.now c.args.opened.now c.in-Some.told over.result reply.result c.same_on.result
    c.requires.part gives c.in-Some.is
    (known_of_some reply.result.told c.in-Some.told (λ i. i.part ≡ reply.result.body) gives.over c.in-Some.is)
    over.ensures.image
    (c.same_on.ensures addresses (record {
      one = known_of_some reply.result.told c.in-Some.told (IsImageOfAnswer addresses) (reply.ensures.kind addresses k.origin) c.in-Some.is;
      other = (over.ensures.kind addresses).of_answer k.answer;
    }))

pub returns-in-None : goal.returns-in-None
returns-in-None c addresses k =
    let reply = c.reply_on-reply in
    tells_without_reply addresses c.args.i.now c.args.opened.now reply.result c.requires.part (reply.ensures.answer addresses k.origin) c.in-None.is

use Rattle.std.proofs.Common.{◌≡◌, ◌∙◌, ◌∷◌, [], List, ap, arith, refl, subst, sym, ℕ}
use Rattle.header_boxes.specs.Boxes.{IsWithin}
use Rattle.box_images.specs.Images.{IsImageOfAnswer, IsValidImage}
use Rattle.box_images.specs.declared.images.Image.{Image}
use Rattle.conn_tracking.proofs.ReplyLemmas.{known_of_some}
use Rattle.lookup_tests.proofs.translations.answered.Goals as goal

abbrev all : List ℕ
all = 7 ∷ 150 ∷ []

pub within-before-requires-clause-within : goal.within-before-requires-clause-within
within-before-requires-clause-within c =
    let reply = c.reply_on-reply.ensures.answer all c.requires.kind_after in
    subst (IsWithin c.reply_on-reply.result.body) c.requires.part reply.body.within

pub within-after-requires-clause-within : goal.within-after-requires-clause-within
within-after-requires-clause-within c =
    let reply = c.reply_on-reply.ensures.answer all c.requires.kind_after in
    reply.body.within

pub set_src-requires : goal.set_src-requires
set_src-requires c =
    let reply = c.reply_on-reply.ensures.answer all c.requires.kind_after in
    known_of_some c.reply_on-reply.result.told c.in-Some.answer IsValidImage reply.valid c.in-Some.is

pub inward_on-requires-clause-part_before : goal.inward_on-requires-clause-part_before
inward_on-requires-clause-part_before c =
    let reply = c.reply_on-reply.ensures.answer all c.requires.kind_after in
    let part = λ (i : Image). i.part in
    ap part c.within-before.ensures.image
    ∙ sym (ap part c.set_src.ensures.image
    ∙ known_of_some c.reply_on-reply.result.told c.in-Some.answer (λ i. i.part ≡ c.reply_on-reply.result.body) reply.over c.in-Some.is)

pub inward_on-requires-clause-part_after : goal.inward_on-requires-clause-part_after
inward_on-requires-clause-part_after c =
    let reply = c.reply_on-reply.ensures.answer all c.requires.kind_after in
    let part = λ (i : Image). i.part in
    ap part c.within-after.ensures.image
    ∙ sym (ap part c.set_src.ensures.image
    ∙ known_of_some c.reply_on-reply.result.told c.in-Some.answer (λ i. i.part ≡ c.reply_on-reply.result.body) reply.over c.in-Some.is)

pub inward_on-requires-clause-kinds : goal.inward_on-requires-clause-kinds
inward_on-requires-clause-kinds c =
    let reply = c.reply_on-reply.ensures.kind all c.requires.kind_after in (
      all,
      record {
        answer = (c.set_src.ensures.kind all (1, omega arith, refl)).of_answer
            (known_of_some c.reply_on-reply.result.told c.in-Some.answer (IsImageOfAnswer all) reply c.in-Some.is);
        origin = (c.within-before.ensures.kind all).of_open c.requires.kind_before;
        sent = (c.within-after.ensures.kind all).of_open c.requires.kind_after;
      },
    )

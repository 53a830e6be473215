use Rattle.std.proofs.Common.{◌≡◌, ◌+◌, ◌∙◌, List, ap, arith, false, length, refl, subst, sym, take}
use Rattle.std.proofs.Math.Seq.{take-length}
use Rattle.std.proofs.lemmas.List.Elements.{All-get_or}
use Rattle.header_boxes.specs.Boxes.{IsWithin}
use Rattle.header_boxes.specs.declared.boxes.Box5.{Box5}
use Rattle.box_images.specs.Images.{IsImageOfOpen}
use Rattle.conn_tracking.specs.OnImages.{AreAnswerAndOpen, TellsTracked}
use Rattle.conn_tracking.specs.declared.on_images.ImageEntry.{ImageEntry}
use Rattle.conn_tracking.proofs.TrackedLemmas.{tells_after_no, tells_after_other, tells_of_yes, tells_over}
use Rattle.conn_tracking.proofs.on_images.tracked_on.Goals as goal
use Rattle.conn_tracking.proofs.on_images.tracked_on.Goals.{then-awaits+else-answers, else-awaits}

pub within-requires-clause-within : goal.within-requires-clause-within
within-requires-clause-within c =
    let kinds = c.requires.kinds in
    (c.loop-e.invariant kinds.0 kinds.1).body.within

pub within-requires-then-awaits-clause-within : goal.within-requires-then-awaits-clause-within
within-requires-then-awaits-clause-within c =
    let kinds = c.requires.kinds in
    let part = All-get_or (λ (e : ImageEntry). e.header.part ≡ c.args.i.now.part) c.args.entries.now c.loop-e.e-index _ c.loop-e-test.true c.requires.part in
    subst (IsWithin c.loop-e.body) (sym part) (c.loop-e.invariant kinds.0 kinds.1).body.within

pub answers_on-answers-requires-clause-kinds : goal.answers_on-answers-requires-clause-kinds
answers_on-answers-requires-clause-kinds c =
    let kinds = c.requires.kinds in (
      kinds.0,
      record {
        answer = (c.within.ensures.kind kinds.0).of_answer kinds.1.answer;
        origin = (c.within-then-awaits.ensures.kind kinds.0).of_open
            (All-get_or (λ (e : ImageEntry). IsImageOfOpen kinds.0 e.header) c.args.entries.now c.loop-e.e-index _ c.loop-e-test.true kinds.1.opens);
      },
    )

pub returns-then-answers : goal.returns-then-answers
returns-then-answers c addresses k =
    let entries = c.args.entries.now in
    let over = c.within in
    let opened = c.within-then-awaits in
    let answers = c.answers_on-answers in
    let origin = All-get_or (λ (e : ImageEntry). IsImageOfOpen addresses e.header) entries c.loop-e.e-index _ c.loop-e-test.true k.opens in
    let kinds : AreAnswerAndOpen addresses over.result opened.result = record { answer = (over.ensures.kind addresses).of_answer k.answer; origin = (opened.ensures.kind addresses).of_open origin } in
    tells_of_yes addresses entries c.loop-e.e-index _ _ c.args.eni c.args.dir c.args.i.now c.loop-e.body answers.result
    c.loop-e-test.true refl (sym c.awaits.ensures ∙ c.if-awaits.true) (c.loop-e.invariant addresses k)
    (tells_over addresses _ _ _ _ answers.result over.ensures.image opened.ensures.image (answers.ensures addresses kinds))
    c.if-answers.true

pub loop-e-preserved : goal.loop-e-preserved
loop-e-preserved c addresses k =
    let entries = c.args.entries.now in
    let index = c.loop-e.e-index in
    let i = c.args.i.now in
    let before = c.loop-e.invariant addresses k in
    let tells = λ (b : Box5). TellsTracked addresses (take (index + 1) entries) c.args.eni c.args.dir i (record { body = b; told = false }) in
    elim c.if-awaits.branch [
      | then-awaits+else-answers w ↦
          let over = w.within in
          let opened = w.within-then-awaits in
          let answers = w.answers_on-answers in
          let origin = All-get_or (λ (e : ImageEntry). IsImageOfOpen addresses e.header) entries index _ c.loop-e-test.true k.opens in
          let kinds : AreAnswerAndOpen addresses over.result opened.result = record { answer = (over.ensures.kind addresses).of_answer k.answer; origin = (opened.ensures.kind addresses).of_open origin } in
          subst tells (sym w.body-is)
          (tells_after_no addresses entries index _ _ c.args.eni c.args.dir i c.loop-e.body answers.result
          c.loop-e-test.true refl (sym c.awaits.ensures ∙ w.if-awaits.true) before
          (tells_over addresses _ _ _ _ answers.result over.ensures.image opened.ensures.image (answers.ensures addresses kinds))
          w.if-answers.false)
      | else-awaits w ↦
          subst tells (sym w.body-is)
          (tells_after_other addresses entries index _ _ c.args.eni c.args.dir i c.loop-e.body
          c.loop-e-test.true refl (sym c.awaits.ensures ∙ w.if-awaits.false) before)
    ]

pub returns : goal.returns
returns c addresses k =
    let last : c.loop-e.e-index ≡ length c.args.entries.now = (let test = c.loop-e-test.false in let end = c.loop-e.auto.e-index-end in omega arith) in
    subst (λ (xs : List ImageEntry). TellsTracked addresses xs c.args.eni c.args.dir c.args.i.now (record { body = c.loop-e.body; told = false }))
    (ap (λ n. take n c.args.entries.now) last ∙ take-length c.args.entries.now)
    (c.loop-e.invariant addresses k)

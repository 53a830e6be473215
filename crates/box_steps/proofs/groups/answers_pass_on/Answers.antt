use Rattle.std.proofs.Common.{◌≡◌, All, List, inr, subst, sym}
use Rattle.std.proofs.lemmas.List.Elements.{All-weaker}
use Rattle.vpc_base.specs.declared.headers.Label.TheVariants as labels
use Rattle.box_images.proofs.Reducing.{walk_within}
use Rattle.box_images.specs.Images.{IsImageOfOpen}
use Rattle.conn_tracking.specs.OnImages.{AreAnswerAndOpens, TellsTracked}
use Rattle.conn_tracking.specs.declared.on_images.ImageEntry.{ImageEntry}
use Rattle.vpc_laws.specs.Types.{Description}
use Rattle.vpc_model.specs.Lookup.{addresses_in}
use Rattle.box_steps.proofs.GroupAnswers.{tracked_pass, untracked_pass}
use Rattle.box_steps.proofs.groups.answers_pass_on.Goals as goal
use Rattle.box_steps.specs.Moments.{IsBoxMoment, IsOpenOver}
use Rattle.box_steps.specs.declared.moment.BoxMoment.{BoxMoment}

kinds : (d : Description) (m : BoxMoment) (es : List ImageEntry) → es ≡ m.conns.items → IsBoxMoment d labels.Answer m → AreAnswerAndOpens (addresses_in d) m.header es
kinds d m es is moment =
    let open_of = λ (e : ImageEntry). IsImageOfOpen (addresses_in d) e.header in
    record {
      answer = moment.kind;
      opens = subst (All open_of) (sym is)
          (All-weaker (λ (e : ImageEntry). IsOpenOver (addresses_in d) m.header.part e.header) open_of (λ e k. k.kind) m.conns.items moment.conns);
    }

pub within-requires-clause-within : goal.within-requires-clause-within
within-requires-clause-within c =
    (c.tracked_on-tracked.ensures (addresses_in c.args.f.now) (kinds c.args.f.now c.args.m.now c.as_slice.result.now c.as_slice.ensures.value c.requires.moment)).body.within

pub allowed_on-requires-clause-walk : goal.allowed_on-requires-clause-walk
allowed_on-requires-clause-walk c = walk_within c.args.m.now.header c.within.result (addresses_in c.args.f.now, inr c.requires.moment.kind) c.within.ensures.kind

pub returns-then-tracked : goal.returns-then-tracked
returns-then-tracked c =
    let addresses = addresses_in c.args.f.now in
    let m = c.args.m.now in
    tracked_pass c.args.f.now c.args.i c.args.dir m c.tracked_on-tracked.result c.if-tracked.true
    (subst (λ (es : List ImageEntry). TellsTracked addresses es c.args.i c.args.dir m.header c.tracked_on-tracked.result) c.as_slice.ensures.value
    (c.tracked_on-tracked.ensures addresses (kinds c.args.f.now c.args.m.now c.as_slice.result.now c.as_slice.ensures.value c.requires.moment)))

pub returns : goal.returns
returns c =
    let addresses = addresses_in c.args.f.now in
    let m = c.args.m.now in
    untracked_pass c.args.f.now c.args.i c.args.dir m c.within.result c.tracked_on-tracked.result c.allowed_on.result c.requires.moment.valid.part c.if-tracked.false c.within.ensures.image
    (subst (λ (es : List ImageEntry). TellsTracked addresses es c.args.i c.args.dir m.header c.tracked_on-tracked.result) c.as_slice.ensures.value
    (c.tracked_on-tracked.ensures addresses (kinds c.args.f.now c.args.m.now c.as_slice.result.now c.as_slice.ensures.value c.requires.moment)))
    c.allowed_on.ensures

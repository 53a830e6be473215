use Rattle.std.proofs.Common.{◌∙◌, List, ap, refl, subst, sym}
use Rattle.std.specs.Prelude.{All}
use Rattle.header_boxes.specs.Boxes.{IsValid}
use Rattle.listing_reader.specs.declared.origins.Origin.{Origin}
use Rattle.vpc_laws.specs.Types.{Box5}
use Rattle.diff_check.specs.Diffs.{asked_from}
use Rattle.diff_check.proofs.Lists.{below_origins, below_starts, looked_from, origin_at-start}
use Rattle.diff_check.proofs.questions.DiffQuestionQuestion.look.Goals as goal

pub origin_at-requires : goal.origin_at-requires
origin_at-requires g c =
    let q = c.args.self.now in
    below_origins q.both.now.compared q.targets.now q.starts.now c.args.start q.origins.now q.same c.requires.start

pub start_at-requires : goal.start_at-requires
start_at-requires g c =
    let q = c.args.self.now in
    below_starts q.both.now.compared q.targets.now q.starts.now c.args.start c.requires.start

pub look_from-requires-clause-boxes : goal.look_from-requires-clause-boxes
look_from-requires-clause-boxes g c = subst (λ (boxes : List Box5). All IsValid boxes) (sym c.as_slice-boxes.ensures) c.origin_at.ensures.valid

pub returns : goal.returns
returns g c =
    let q = c.args.self.now in
    let all = q.both.now.compared in
    let start = c.start_at.result.now in
    let origin = c.origin_at.result.now in
    let is = origin_at-start all q.targets.now q.starts.now c.args.start start c.start_at.ensures.stands q.origins.now origin q.same c.origin_at.ensures.stands in
    looked_from all q.targets.now q.starts.now c.args.start start c.start_at.ensures.stands c.args.rows.now c.look_from.result
    (c.look_from.ensures (asked_from all q.targets.now start) (sym (c.as_slice-boxes.ensures ∙ ap (λ (o : Origin). o.boxes) is)) (λ h. refl))

use Rattle.std.proofs.Common.{List, subst, sym}
use Rattle.std.specs.Prelude.{All}
use Rattle.header_boxes.specs.Boxes.{IsValid}
use Rattle.vpc_laws.specs.Types.{Box5}
use Rattle.reach_check.specs.Questions.{asked_at}
use Rattle.reach_check.proofs.Starts.{asked_in-below, looked_at, told_is}
use Rattle.reach_check.proofs.reaches.question.ReachQuestionQuestion.look.Goals as goal

pub start_at-requires : goal.start_at-requires
start_at-requires g c =
    let q = c.args.self.now in
    let below = asked_in-below q.fabric.now q.links.now q.goal q.origins.now q.starts.now c.args.start c.requires.start in below.1

pub origin_at-requires : goal.origin_at-requires
origin_at-requires g c =
    let q = c.args.self.now in
    let below = asked_in-below q.fabric.now q.links.now q.goal q.origins.now q.starts.now c.args.start c.requires.start in below.0

pub look_once-requires-clause-boxes : goal.look_once-requires-clause-boxes
look_once-requires-clause-boxes g c = subst (λ (boxes : List Box5). All IsValid boxes) (sym c.as_slice-boxes.ensures) c.origin_at.ensures.valid

pub returns : goal.returns
returns g c =
    let q = c.args.self.now in
    let d = q.fabric.now in
    let start = c.start_at.result in
    let origin = c.origin_at.result.now in
    let l = c.listing_from.result in
    looked_at d q.links.now q.goal q.origins.now q.starts.now c.args.start origin start c.origin_at.ensures.stands c.start_at.ensures.stands c.args.rows.now c.look_once.result
    (c.look_once.ensures (asked_at d q.links.now q.goal origin start) (sym c.as_slice-boxes.ensures)
    (λ h. told_is l.walks.sent d start q.links.now q.goal h c.listing_from.ensures))

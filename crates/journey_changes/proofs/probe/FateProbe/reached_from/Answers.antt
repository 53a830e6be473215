use Rattle.std.proofs.Common.{◌∙◌, None, ap, sym}
use Rattle.box_walk.specs.Asking.{asked_by, homes_by}
use Rattle.box_walk.specs.Open.{starting_by}
use Rattle.header_boxes.specs.Boxes.{low_of}
use Rattle.vpc_base.specs.Cuts.{AreAmong}
use Rattle.journey_changes.specs.Fates.{reached_by}
use Rattle.journey_changes.specs.Sent.{near, reached}
use Rattle.journey_changes.proofs.Asked.{any_reached, goal_reached, missing_reached, told_all}
use Rattle.journey_changes.proofs.probe.FateProbe.reached_from.Goals as goal

pub returns-in-Missing : goal.returns-in-Missing
returns-in-Missing g c =
    let q = c.args.self.now.sent in
    told_all (AreAmong (near q (low_of c.args.sides.now))) (reached q) c.args.sides.now None c.requires.valid
    (λ h. missing_reached q c.args.start h c.requires.start (sym c.toward.ensures ∙ c.in-Missing.is))

pub returns-in-Any : goal.returns-in-Any
returns-in-Any g c =
    let p = c.args.self.now in
    let asks = starting_by p.open.fabric.now (homes_by p.open.links.now p.open.start) in
    any_reached p.sent c.args.start c.args.sides.now asks c.requires.start p.same_open c.journey_on-answer.result c.reached_by.result
    (sym c.toward.ensures ∙ c.in-Any.is) (c.reached_by.ensures ∙ ap reached_by c.fate_by.ensures) c.journey_on-answer.ensures

pub returns-in-Goal : goal.returns-in-Goal
returns-in-Goal g c =
    let p = c.args.self.now in
    let asks = asked_by p.round.fabric.now (homes_by p.round.links.now p.round.start) p.round.goal in
    goal_reached p.sent c.args.start c.in-Goal.goal c.args.sides.now asks c.requires.start (sym c.toward.ensures ∙ c.in-Goal.is) p.same_round
    c.is_stopped_on-answer.result c.goal_unless.result c.goal_unless.ensures c.is_stopped_on-answer.ensures

use Rattle.std.proofs.Common.{◌∙◌, sym}
use Rattle.vpc_model.specs.Appliances.{appliances_of}
use Rattle.vpc_model.specs.Near.{near_cuts}
use Rattle.header_boxes.specs.Boxes.{low_of}
use Rattle.box_walk.specs.Asking.{asked_by, homes_by, word_of}
use Rattle.box_walk.specs.Open.{starting_by}
use Rattle.journey_changes.proofs.Asked.{any_fate, goal_fate, missing_fate, told_by_probe}
use Rattle.journey_changes.proofs.probe.FateProbe.fate_from.Goals as goal

pub returns-in-Any : goal.returns-in-Any
returns-in-Any g c =
    let p = c.args.self.now in
    let asks = starting_by p.open.fabric.now (homes_by p.open.links.now p.open.start) in
    any_fate p.sent c.args.start c.args.sides.now asks c.requires.start p.same_open c.journey_on-answer.result c.fate_by.result
    (sym c.toward.ensures ∙ c.in-Any.is) c.fate_by.ensures c.journey_on-answer.ensures

pub returns-in-Missing : goal.returns-in-Missing
returns-in-Missing g c =
    let p = c.args.self.now in
    let asks = starting_by p.open.fabric.now (homes_by p.open.links.now p.open.start) in
    missing_fate p.sent c.args.start c.args.sides.now asks c.requires.start p.same_open c.journey_on-answer-in-Missing.result c.missing_by.result
    (sym c.toward.ensures ∙ c.in-Missing.is) c.missing_by.ensures c.journey_on-answer-in-Missing.ensures

pub returns-in-Goal : goal.returns-in-Goal
returns-in-Goal g c =
    let p = c.args.self.now in
    let d = p.round.fabric.now in
    let asks = asked_by d (homes_by p.round.links.now p.round.start) p.round.goal in
    let answer = c.probe-told.result in
    let says = c.probe-told.ensures in
    goal_fate p.sent c.args.start c.in-Goal.goal c.args.sides.now asks c.requires.start (sym c.toward.ensures ∙ c.in-Goal.is) p.same_round
    (record { body = answer.0; told = answer.1 }) c.fate_unless.result c.fate_unless.ensures
    (told_by_probe (near_cuts d (appliances_of d) p.round.start p.round.goal (low_of c.args.sides.now)) (word_of asks) c.args.sides.now answer.0 answer.1
    says.within says.low says.aligned says.means)

use Rattle.std.proofs.Common.{None, ap}
use Rattle.vpc_base.proofs.Results.{if_ok}
use Rattle.box_walk.specs.Asking.{homes_by}
use Rattle.box_walk.specs.Open.{Starting, starting_by}
use Rattle.vpc_model.specs.Verdict.{homes_among}
use Rattle.end_reach.proofs.RowLemmas.{gathered_by_start}
use Rattle.end_reach.specs.Walked.{IsGatheredIn}
use Rattle.end_reach.proofs.rows.gather_to_any.Goals as goal

pub returns-clause-gathered : goal.returns-clause-gathered
returns-clause-gathered g c =
    let p = c.turn_among.new.self in
    let told = starting_by p.fabric.now (homes_by p.links.now p.start) in
    let wanted = starting_by c.args.probe.now.fabric.now (homes_among c.args.links.now c.args.start) in
    if_ok (IsGatheredIn told.network told.homes None c.args.boxes.now c.args.room)
    (IsGatheredIn wanted.network wanted.homes None c.args.boxes.now c.args.room) c.gather_over.result
    (λ x. gathered_by_start told wanted c.args.boxes.now c.args.room x c.turn_among.ensures) c.gather_over.ensures

pub returns-clause-network : goal.returns-clause-network
returns-clause-network g c = ap (λ (a : Starting). a.network) c.turn_among.ensures

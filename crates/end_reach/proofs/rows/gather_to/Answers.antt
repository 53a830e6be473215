use Rattle.std.proofs.Common.{Some, ◌∙◌, ap}
use Rattle.vpc_base.proofs.Results.{if_ok}
use Rattle.box_walk.specs.Asking.{Asking, asked_by, homes_by}
use Rattle.vpc_model.specs.Verdict.{homes_among}
use Rattle.end_reach.proofs.RowLemmas.{gathered_by_ends}
use Rattle.end_reach.specs.Walked.{IsGatheredIn}
use Rattle.end_reach.proofs.rows.gather_to.Goals as goal

pub returns-clause-gathered : goal.returns-clause-gathered
returns-clause-gathered g c =
    let p = c.of.result.round.now in
    let told = asked_by p.fabric.now (homes_by p.links.now p.start) p.goal in
    let wanted = asked_by c.args.round.now.fabric.now (homes_among c.args.links.now c.args.start) c.args.goal in
    if_ok (IsGatheredIn told.network told.homes (Some told.goal) c.args.boxes.now c.args.room)
    (IsGatheredIn wanted.network wanted.homes (Some wanted.goal) c.args.boxes.now c.args.room) c.gather_over.result
    (λ x. gathered_by_ends told wanted c.args.boxes.now c.args.room x (c.of.ensures ∙ c.turn_among.ensures)) c.gather_over.ensures

pub returns-clause-network : goal.returns-clause-network
returns-clause-network g c = ap (λ (a : Asking). a.network) c.turn_among.ensures

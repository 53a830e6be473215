use Rattle.std.proofs.Common.{IfOk, List, None, Option, Some, ap, subst, sym, ◌∙◌}
use Rattle.header_boxes.specs.declared.boxes.Box5.{Box5}
use Rattle.vpc_laws.specs.Types.{Description, End, FarNo}
use Rattle.vpc_model.specs.Verdict.{homes_among}
use Rattle.end_reach.specs.Asked.{boxes_at, links_of}
use Rattle.end_reach.specs.Walked.{IsGatheredIn}
use Rattle.end_reach.proofs.rows.gather_at.Goals as goal

pub returns-in-Some-clause-gathered : goal.returns-in-Some-clause-gathered
returns-in-Some-clause-gathered g c =
    let d = c.args.f.now in
    let asked = c.args.asked.now in
    let q = asked.query.now in
    let start = c.args.start in
    let given = c.as_slice-boxes.result.now in
    let goal = c.in-Some.goal in
    let boxes = c.as_slice-boxes.ensures.value ∙ (c.in_ok-boxes.ensures.value ∙ ap (λ (x : Description). boxes_at x q asked.targets.now start) c.network.ensures) in
    let homes = homes_among (links_of d q) start in
    subst (λ (e : Option End). IfOk c.gather_to.result (IsGatheredIn d homes e (boxes_at d q asked.targets.now start) c.args.room)) (sym c.in-Some.is)
    (subst (λ (b : List Box5). IfOk c.gather_to.result (IsGatheredIn d homes (Some goal) b c.args.room)) boxes
    (subst (λ (l : List FarNo). IfOk c.gather_to.result (IsGatheredIn d (homes_among l start) (Some goal) given c.args.room)) c.requires.links
    (subst (λ (n : Description). IfOk c.gather_to.result (IsGatheredIn n (homes_among asked.links.now start) (Some goal) given c.args.room)) c.requires.walks.with_goal c.gather_to.ensures.gathered)))

pub returns-clause-gathered : goal.returns-clause-gathered
returns-clause-gathered g c =
    let d = c.args.f.now in
    let asked = c.args.asked.now in
    let q = asked.query.now in
    let start = c.args.start in
    let given = c.as_slice-boxes.result.now in
    let boxes = c.as_slice-boxes.ensures.value ∙ (c.in_ok-boxes.ensures.value ∙ ap (λ (x : Description). boxes_at x q asked.targets.now start) c.network.ensures) in
    let homes = homes_among (links_of d q) start in
    subst (λ (e : Option End). IfOk c.gather_to_any.result (IsGatheredIn d homes e (boxes_at d q asked.targets.now start) c.args.room)) (sym c.in-None.is)
    (subst (λ (b : List Box5). IfOk c.gather_to_any.result (IsGatheredIn d homes None b c.args.room)) boxes
    (subst (λ (l : List FarNo). IfOk c.gather_to_any.result (IsGatheredIn d (homes_among l start) None given c.args.room)) c.requires.links
    (subst (λ (n : Description). IfOk c.gather_to_any.result (IsGatheredIn n (homes_among asked.links.now start) None given c.args.room)) c.requires.walks.without c.gather_to_any.ensures.gathered)))

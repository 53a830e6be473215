use Rattle.box_survey.proofs.Answer.{survey_overlap, disjoint_if_none, first_uncovered, hold_all}
use Rattle.box_survey.proofs.survey.surveyed.Goals as goal

pub returns-in-Some-default : goal.returns-in-Some-default
returns-in-Some-default g c =
    survey_overlap (g.G.Gaps.matters c.args.gaps.now) c.args.boxes.now c.in_ok-found.found c.in-Some-default.first c.next_sharing.result c.in_ok-found.ensures c.in-Some-default.is-0 c.next_sharing.ensures

pub returns-in-None-Some : goal.returns-in-None-Some
returns-in-None-Some g c = (
  disjoint_if_none (g.G.Gaps.matters c.args.gaps.now) c.args.boxes.now c.in_ok-found.found c.in_ok-found.ensures c.in-None-Some.is-0,
  first_uncovered (g.G.Gaps.matters c.args.gaps.now) c.args.boxes.now c.in_ok-found.found c.in-None-Some.h c.in_ok-found.ensures c.in-None-Some.is-0 c.in-None-Some.is-1,
)

pub returns-in-None-None : goal.returns-in-None-None
returns-in-None-None g c = (
  disjoint_if_none (g.G.Gaps.matters c.args.gaps.now) c.args.boxes.now c.in_ok-found.found c.in_ok-found.ensures c.in-None-None.is-0,
  hold_all (g.G.Gaps.matters c.args.gaps.now) c.args.boxes.now c.in_ok-found.found c.in_ok-found.ensures c.in-None-None.is-0 c.in-None-None.is-1,
)

use Rattle.std.proofs.Common.{◌≡◌, ◌++◌, List, subst, sym, ℕ}
use Rattle.std.specs.Prelude.{OnOk}
use Rattle.vpc_laws.specs.Types.{Description}
use Rattle.reach_check.specs.Questions.{CanBeShown}
use Rattle.reach_check.proofs.Starts.{asked_in-below, outcome_of-start}
use Rattle.reach_check.proofs.reaches.question.ReachQuestionQuestion.put_outcome.Goals as goal

pub origin_at-requires : goal.origin_at-requires
origin_at-requires g c =
    let q = c.args.self.now in
    let below = asked_in-below q.fabric.now q.links.now q.goal q.origins.now q.starts.now c.args.start c.requires.start in below.0

pub start_at-requires : goal.start_at-requires
start_at-requires g c =
    let q = c.args.self.now in
    let below = asked_in-below q.fabric.now q.links.now q.goal q.origins.now q.starts.now c.args.start c.requires.start in below.1

pub put_fate-requires : goal.put_fate-requires
put_fate-requires g c = subst (λ (d : Description). CanBeShown d c.fate_at-fate.result) (sym c.network.ensures) c.fate_at-fate.ensures.told

pub returns : goal.returns
returns g c =
    let q = c.args.self.now in
    let d = q.fabric.now in
    subst (λ (text : List ℕ). OnOk c.put_fate.result (c.put_fate.new.out.items ≡ c.args.out.now.items ++ text))
    (outcome_of-start d q.links.now q.goal q.origins.now q.starts.now c.args.start c.origin_at.result.now c.start_at.result c.origin_at.ensures.stands c.start_at.ensures.stands
    c.network.result.now c.as_slice-id.result.now c.fate_at-fate.result c.args.h.now c.network.ensures c.as_slice-id.ensures c.fate_at-fate.ensures.value)
    c.put_fate.ensures

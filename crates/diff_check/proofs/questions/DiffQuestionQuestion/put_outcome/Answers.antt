use Rattle.std.proofs.Common.{◌≡◌, ◌++◌, List, subst, ℕ}
use Rattle.std.specs.Prelude.{OnOk}
use Rattle.diff_check.proofs.Lists.{below_starts, outcome_at-start}
use Rattle.diff_check.proofs.questions.DiffQuestionQuestion.put_outcome.Goals as goal

pub start_at-requires : goal.start_at-requires
start_at-requires g c =
    let q = c.args.self.now in
    below_starts q.both.now.compared q.targets.now q.starts.now c.args.start c.requires.start

pub returns : goal.returns
returns g c =
    let q = c.args.self.now in
    let all = q.both.now.compared in
    subst (λ (text : List ℕ). OnOk c.put_told_from.result (c.put_told_from.new.out.items ≡ c.args.out.now.items ++ text))
    (outcome_at-start all q.targets.now q.starts.now c.args.start c.start_at.result.now c.start_at.ensures.stands c.args.h.now) c.put_told_from.ensures

use Rattle.std.proofs.Common.{get_or}
use Rattle.change_report.specs.Walked.{nowhere}
use Rattle.diff_check.proofs.Lists.{below_origins, id_at-start, start_there}
use Rattle.diff_check.proofs.questions.DiffQuestionQuestion.id.Goals as goal

pub origin_at-requires : goal.origin_at-requires
origin_at-requires g c =
    let q = c.args.self.now in
    below_origins q.both.now.compared q.targets.now q.starts.now c.args.start q.origins.now q.same c.requires.start

pub returns : goal.returns
returns g c =
    let q = c.args.self.now in
    let all = q.both.now.compared in
    let starts = q.starts.now in
    let k = c.args.start in
    id_at-start all q.targets.now starts k (get_or starts k nowhere) (start_there all q.targets.now starts k c.requires.start) q.origins.now c.origin_at.result.now c.as_slice.result.now q.same
    c.origin_at.ensures.stands c.as_slice.ensures

use Rattle.reference_check.proofs.Taking.{range-next, range-none}
use Rattle.reference_check.proofs.taken.Taken.next_run.Goals as goal

pub returns-in-Some : goal.returns-in-Some
returns-in-Some c =
    range-next c.self.inside.runs c.args.self.now c.args.number c.range.result c.next.new.self c.in-Some.last.now c.in-Some.first.now c.self.view_is (c.range.ensures.in_range tt) c.in-Some.ensures.steps

pub returns-in-None : goal.returns-in-None
returns-in-None c = range-none c.self.inside.runs c.args.self.now c.args.number c.range.result c.self.view_is (c.range.ensures.in_range tt) c.in-None.ensures.steps.0

use Rattle.box_steps.proofs.Barriers.{tells_passed, tells_refused}
use Rattle.box_steps.proofs.interface.groups_on.Goals as goal

pub returns-then-passes : goal.returns-then-passes
returns-then-passes c =
    tells_passed c.args.f.now c.args.label c.args.i c.args.dir c.args.m.now c.narrow.new.self c.passes_on-passes.result c.if-passes.true c.narrow.ensures c.passes_on-passes.ensures

pub returns-else-passes : goal.returns-else-passes
returns-else-passes c =
    tells_refused c.args.f.now c.args.label c.args.i c.args.dir c.args.m.now c.narrow.new.self c.passes_on-passes.result c.groups_stop.result c.if-passes.false c.groups_stop.ensures c.narrow.ensures
    c.passes_on-passes.ensures

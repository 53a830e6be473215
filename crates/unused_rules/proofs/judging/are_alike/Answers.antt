use Rattle.unused_rules.proofs.Needing.{alike_if}
use Rattle.unused_rules.proofs.judging.are_alike.Goals as goal

pub returns-in-Blocked : goal.returns-in-Blocked
returns-in-Blocked g c = λ _.
    alike_if _ _ _ _ c.args.sides c.in_ok-first_within.field-0 c.of.ensures.before c.of.ensures.after c.in-Blocked.is c.in_ok-first_within.ensures

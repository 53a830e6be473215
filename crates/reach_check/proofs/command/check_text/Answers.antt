use Rattle.std.proofs.Common.{sym}
use Rattle.vpc_base.proofs.Results.{if_ok}
use Rattle.reach_check.specs.Texts as texts
use Rattle.reach_check.proofs.command.check_text.Goals as goal

pub returns-in-Ok-true : goal.returns-in-Ok-true
returns-in-Ok-true c = if_ok _ _ c.check_reach.result (λ a checked. texts.reach (sym (rw c.in-Ok-true.field-0-test at c.in-Ok-true.ensures)) checked) c.check_reach.ensures

pub returns-in-Ok-false : goal.returns-in-Ok-false
returns-in-Ok-false c = if_ok _ _ c.answer.result (λ a checked. texts.report (sym (rw c.in-Ok-false.field-0-test at c.in-Ok-false.ensures)) checked) c.answer.ensures

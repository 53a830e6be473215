use Rattle.vpc_base.proofs.Results.{if_ok}
use Rattle.reach_check.specs.Questions as questions
use Rattle.reach_check.proofs.reaches.check_asked.Goals as goal

pub returns-then-is_too_many : goal.returns-then-is_too_many
returns-then-is_too_many c = if_ok _ _ c.refuse_line.result (λ a h. questions.too_many (c.is_too_many.ensures.0 c.if-is_too_many.true) h.0 h.1) c.refuse_line.ensures

pub returns-else-is_too_many : goal.returns-else-is_too_many
returns-else-is_too_many c = if_ok _ _ c.answer_job.result (λ a found. questions.checked (λ many. absurd (cc (c.is_too_many.ensures.1 many, c.if-is_too_many.false))) found) c.answer_job.ensures

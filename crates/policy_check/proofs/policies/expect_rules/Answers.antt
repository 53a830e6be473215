use Rattle.vpc_base.proofs.Results.{if_ok}
use Rattle.policy_check.specs.Policy as policies
use Rattle.policy_check.proofs.policies.expect_rules.Goals as goal

pub returns-in-Ok : goal.returns-in-Ok
returns-in-Ok c =
    let judged = rw c.as_slice.ensures.value at c.answer_job.ensures in
    if_ok _ _ c.answer_job.result (λ a are. policies.judged c.in-Ok.rules.items c.in-Ok.ensures.rules are) judged

pub returns-in-Err-BadLine : goal.returns-in-Err-BadLine
returns-in-Err-BadLine c =
    if_ok _ _ c.refuse_line.result
    (λ a h. policies.bad_line c.in-Err-BadLine.number (rw c.in-Err-BadLine.field-0-is at c.in-Err-BadLine.ensures.rules) h.0 h.1)
    c.refuse_line.ensures

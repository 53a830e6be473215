use Rattle.vpc_base.proofs.Results.{if_ok}
use Rattle.report_check.specs.Certified as checks
use Rattle.report_check.proofs.Faults.{checked_if_fault}
use Rattle.report_check.proofs.checks.check_bytes.Goals as goal

pub returns-in-Ok : goal.returns-in-Ok
returns-in-Ok c = if_ok _ _ c.answer_job.result (λ a verdict. checks.told c.in-Ok.report c.in-Ok.ensures.value verdict) c.answer_job.ensures

pub returns-in-Err : goal.returns-in-Err
returns-in-Err c =
    if_ok _ _ c.refuse_fault.result (λ a told. checked_if_fault c.args.network c.args.bytes.now c.in-Err.fault a.status a.text.items c.in-Err.ensures.value told) c.refuse_fault.ensures

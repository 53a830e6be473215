use Rattle.std.proofs.Common.{◌∙◌, ap}
use Rattle.vpc_base.proofs.Results.{if_ok, if_ok_two}
use Rattle.vpc_laws.specs.Types.{Description}
use Rattle.flow_check.specs.Answers as answers
use Rattle.flow_check.specs.Flows.{told_by}
use Rattle.flow_check.specs.Texts.{flows_text}
use Rattle.flow_check.proofs.answers.judge_in.Goals as goal

pub returns-in-Ok : goal.returns-in-Ok
returns-in-Ok c =
    let told = told_by c.in-Ok.answer in
    if_ok_two _ _ _ c.answer_flows.result
    (λ a status text. answers.judged told c.in-Ok.ensures.flows status (text ∙ ap (λ (d : Description). flows_text d told) c.network.ensures))
    c.answer_flows.ensures.status c.answer_flows.ensures.text

pub returns-in-Err-BadLine : goal.returns-in-Err-BadLine
returns-in-Err-BadLine c =
    if_ok _ _ c.refuse_line.result
    (λ a h. answers.bad_line c.in-Err-BadLine.number (rw c.in-Err-BadLine.field-0-is at c.in-Err-BadLine.ensures.flows) h.0 h.1) c.refuse_line.ensures

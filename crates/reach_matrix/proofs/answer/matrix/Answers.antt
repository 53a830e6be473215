use Rattle.std.proofs.Common.{map, sym}
use Rattle.vpc_base.proofs.Results.{if_ok, if_ok_two}
use Rattle.reach_matrix.specs.Answered as matrix
use Rattle.reach_matrix.proofs.answer.matrix.Goals as goal

pub returns-in-Ok : goal.returns-in-Ok
returns-in-Ok c = if_ok _ _ c.map_hosts.result (λ a is. matrix.answered c.in-Ok.ports (sym c.in-Ok.ensures.value) is) c.map_hosts.ensures

pub returns-in-Err : goal.returns-in-Err
returns-in-Err c =
    if_ok_two _ _ _ c.refuse_query.result (λ a h not. matrix.refused c.in-Err.refusal (sym c.in-Err.ensures.value) h.0 h.1) c.refuse_query.ensures.line c.refuse_query.ensures.cause

use Rattle.vpc_base.proofs.Results.{if_ok}
use Rattle.replay_log.specs.Replayed as replays
use Rattle.replay_log.proofs.played.replay_bytes.Goals as goal

pub returns-in-Ok : goal.returns-in-Ok
returns-in-Ok c =
    let played = rw c.as_slice.ensures.value at c.answer_job.ensures in
    if_ok _ _ c.answer_job.result (λ a are. replays.replayed c.in-Ok.events.items c.in-Ok.ensures.events are) played

pub returns-in-Err-BadLine : goal.returns-in-Err-BadLine
returns-in-Err-BadLine c =
    if_ok _ _ c.refuse_line.result (λ a h. replays.bad_line c.in-Err-BadLine.number (rw c.in-Err-BadLine.field-0-is at c.in-Err-BadLine.ensures.events) h.0 h.1) c.refuse_line.ensures

use Rattle.std.proofs.Common.{map, string_bytes}
use Rattle.vpc_base.proofs.Results.{if_ok, if_ok_two}
use Rattle.query_words.specs.Packet.{packet_of}
use Rattle.query_words.proofs.EventLemmas.{refused_if_told}
use Rattle.walk_reasons.specs.Explained as answers
use Rattle.walk_reasons.proofs.answer.why.Goals as goal

pub returns-in-Ok : goal.returns-in-Ok
returns-in-Ok c = if_ok _ _ c.answer_job.result (λ a explained. answers.explained c.in-Ok.event c.in-Ok.ensures.answer explained) c.answer_job.ensures

pub returns-in-Err : goal.returns-in-Err
returns-in-Err c =
    let meant = packet_of c.args.network (map string_bytes c.args.words.now) in
    if_ok_two _ _ _ c.refuse_packet.result
    (λ a h not. answers.refused c.in-Err.refusal (refused_if_told meant c.in-Err.refusal c.in-Err.ensures.answer not) h.0 h.1)
    c.refuse_packet.ensures.line c.refuse_packet.ensures.cause

use Rattle.std.proofs.Common.{map, string_bytes}
use Rattle.vpc_base.proofs.Results.{if_ok, if_ok_two}
use Rattle.query_words.proofs.EventLemmas.{refused_if_told}
use Rattle.query_words.specs.Query.{query_of}
use Rattle.report_reader.proofs.AskedEnds.{asked_ends_are_named}
use Rattle.network_reach.specs.Asked as asks
use Rattle.network_reach.proofs.asks.ask.Goals as goal

pub answer_job-requires : goal.answer_job-requires
answer_job-requires c = record {
  known = record { start = c.in-Ok.ensures.described.start; goal = c.in-Ok.ensures.described.goal; sides = c.in-Ok.ensures.valid; some = c.in-Ok.ensures.max.0 };
  ends = asked_ends_are_named c.args.network (map string_bytes c.args.words.now) c.in-Ok.query c.in-Ok.ensures.answer;
  few = c.in-Ok.ensures.max.1;
}

pub returns-in-Ok : goal.returns-in-Ok
returns-in-Ok c = if_ok _ _ c.answer_job.result (λ a answer. asks.answered c.in-Ok.query c.in-Ok.ensures.answer answer) c.answer_job.ensures

pub returns-in-Err : goal.returns-in-Err
returns-in-Err c =
    let meant = query_of c.args.network (map string_bytes c.args.words.now) in
    if_ok_two _ _ _ c.refuse_query.result
    (λ a h not. asks.refused c.in-Err.refusal (refused_if_told meant c.in-Err.refusal c.in-Err.ensures.answer not) h.0 h.1)
    c.refuse_query.ensures.line c.refuse_query.ensures.cause

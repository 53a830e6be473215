use Rattle.std.proofs.Common.{map, string_bytes}
use Rattle.vpc_base.proofs.Results.{if_ok, if_ok_two}
use Rattle.query_words.proofs.EventLemmas.{refused_if_told}
use Rattle.query_words.specs.Unbounded.{unbounded_query_of}
use Rattle.unused_rules.specs.Answered as unused
use Rattle.unused_rules.proofs.answer.unused.Goals as goal

pub judge_all-requires : goal.judge_all-requires
judge_all-requires c = record { start = c.in-Ok.ensures.described.start; goal = c.in-Ok.ensures.described.goal; sides = c.in-Ok.ensures.valid }

pub returns-in-Ok : goal.returns-in-Ok
returns-in-Ok c = if_ok _ _ c.judge_all.result (λ a answer. unused.answered c.in-Ok.query c.in-Ok.ensures.answer answer) c.judge_all.ensures

pub returns-in-Err : goal.returns-in-Err
returns-in-Err c =
    let meant = unbounded_query_of c.args.network (map string_bytes c.args.words.now) in
    if_ok_two _ _ _ c.refuse_query.result
    (λ a h not. unused.refused c.in-Err.refusal (refused_if_told meant c.in-Err.refusal c.in-Err.ensures.answer not) h.0 h.1)
    c.refuse_query.ensures.line c.refuse_query.ensures.cause

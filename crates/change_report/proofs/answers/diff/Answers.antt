use Rattle.std.proofs.Common.{map, string_bytes}
use Rattle.vpc_base.proofs.Results.{if_ok, if_ok_two}
use Rattle.query_words.proofs.EventLemmas.{refused_if_told}
use Rattle.query_words.specs.ChangeQuery.{change_query_of}
use Rattle.change_report.specs.Answered as answered
use Rattle.change_report.proofs.answers.diff.Goals as goal

pub returns-in-Ok : goal.returns-in-Ok
returns-in-Ok c = if_ok _ _ c.tell.result (λ a told. answered.answered c.in-Ok.query c.in-Ok.ensures.answer told) c.tell.ensures

pub returns-in-Err : goal.returns-in-Err
returns-in-Err c =
    let meant = change_query_of c.args.before c.args.after (map string_bytes c.args.words.now) in
    if_ok_two _ _ _ c.refuse_query.result
    (λ a h not. answered.refused c.in-Err.refusal (refused_if_told meant c.in-Err.refusal c.in-Err.ensures.answer not) h.0 h.1)
    c.refuse_query.ensures.line c.refuse_query.ensures.cause

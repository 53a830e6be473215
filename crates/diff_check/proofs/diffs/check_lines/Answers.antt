use Rattle.std.proofs.Common.{◌∙◌, ap, map, sym}
use Rattle.vpc_base.proofs.Results.{if_ok}
use Rattle.diff_check.specs.Starts as starts
use Rattle.diff_check.specs.Diffs.{diff_question}
use Rattle.diff_check.proofs.diffs.check_lines.Goals as goal

pub check_query-requires-clause-ends : goal.check_query-requires-clause-ends
check_query-requires-clause-ends c = rw c.in-Ok-Some.field-0-is at c.in-Ok-Some.ensures.ends

pub check_query-requires-clause-pairs : goal.check_query-requires-clause-pairs
check_query-requires-clause-pairs c = rw c.in-Ok-Some.field-0-is at c.in-Ok-Some.ensures.pairs

pub returns-in-Ok-Some : goal.returns-in-Ok-Some
returns-in-Ok-Some c =
    let asked = sym (rw c.in-Ok-Some.field-0-is at c.in-Ok-Some.ensures.value) in
    if_ok _ _ c.check_query.result
    (λ a told. starts.asked c.in-Ok-Some.query (sym (ap (λ ls. diff_question c.args.before c.args.after (map (λ l. l.now) ls)) c.as_slice.ensures.value) ∙ asked) told)
    c.check_query.ensures

pub returns-in-Ok-None : goal.returns-in-Ok-None
returns-in-Ok-None c =
    let asked = sym (rw c.in-Ok-None.field-0-is at c.in-Ok-None.ensures.value) in
    if_ok _ _ c.refuse_line.result
    (λ a h. starts.no_question (sym (ap (λ ls. diff_question c.args.before c.args.after (map (λ l. l.now) ls)) c.as_slice.ensures.value) ∙ asked) h.0 h.1)
    c.refuse_line.ensures

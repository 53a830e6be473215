use Rattle.std.proofs.Common.{map, sym}
use Rattle.vpc_base.proofs.Results.{if_ok}
use Rattle.reach_check.proofs.Checked.{checked_of, refused_of}
use Rattle.reach_check.proofs.reaches.check_lines.Goals as goal

pub check_asked-requires : goal.check_asked-requires
check_asked-requires c = rw c.in-Ok-Some.field-0-is at c.in-Ok-Some.ensures.known

pub returns-in-Ok-Some : goal.returns-in-Ok-Some
returns-in-Ok-Some c = λ bytes are is.
    if_ok _ _ c.check_asked.result
    (λ a told.
    checked_of c.args.network c.in-Ok-Some.query (map (λ l. l.now) c.args.lines.now) c.args.ended bytes a.status a.text.items are is
    (sym (rw c.in-Ok-Some.field-0-is at c.in-Ok-Some.ensures.question)) told)
    c.check_asked.ensures

pub returns-in-Ok-None : goal.returns-in-Ok-None
returns-in-Ok-None c = λ bytes are is.
    if_ok _ _ c.refuse_line.result
    (λ a h.
    refused_of c.args.network (map (λ l. l.now) c.args.lines.now) bytes a.status a.text.items are
    (sym (rw c.in-Ok-None.field-0-is at c.in-Ok-None.ensures.question)) h.0 h.1)
    c.refuse_line.ensures

use Rattle.std.proofs.Common.{map}
use Rattle.vpc_base.proofs.Results.{if_ok}
use Rattle.diff_check.proofs.Checking.{lines_as}
use Rattle.diff_check.proofs.diffs.check_listing.Goals as goal

pub returns-in-Ok : goal.returns-in-Ok
returns-in-Ok c =
    if_ok _ _ c.check_lines.result
    (λ a told.
    lines_as c.args.before c.args.after (map (λ l. l.now) c.in-Ok.lines.lines.items) c.in-Ok.lines.ended c.args.bytes.now a.status a.text.items c.in-Ok.ensures.lines c.in-Ok.ensures.ended told)
    c.check_lines.ensures

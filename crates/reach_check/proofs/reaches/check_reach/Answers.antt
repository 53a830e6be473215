use Rattle.std.proofs.Common.{◌∙◌, ap, map}
use Rattle.reach_check.proofs.reaches.check_reach.Goals as goal

pub returns-in-Ok : goal.returns-in-Ok
returns-in-Ok c = c.check_lines.ensures c.args.bytes.now (ap (map (λ l. l.now)) c.as_slice.ensures.value ∙ c.in-Ok.ensures.lines) c.in-Ok.ensures.ended

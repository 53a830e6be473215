use Rattle.std.proofs.Common.{sym}
use Rattle.diff_check.proofs.Agreeing.{low_held}
use Rattle.diff_check.proofs.starts.StartChanges.change_at.Goals as goal

pub returns : goal.returns
returns g c =
    let told = c.probe-change.ensures in
    let h = c.args.h.now in
    sym (told.means h (low_held c.probe-change.result.0 c.only.result h told.within told.low c.only.ensures.low))

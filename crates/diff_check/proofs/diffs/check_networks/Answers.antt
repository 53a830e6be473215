use Rattle.std.proofs.Common.{map, subst}
use Rattle.std.specs.Prelude.{IfOk}
use Rattle.changed_ends.specs.Asked.{comparison}
use Rattle.diff_check.specs.Diffs.{IsCheckedFor}
use Rattle.diff_check.proofs.diffs.check_networks.Goals as goal

pub returns : goal.returns
returns c =
    subst (λ l. IfOk c.answer_between.result (λ a. IsCheckedFor (comparison c.args.before c.args.after c.args.query.now) (map (λ line. line.now) l) c.args.lines.now.ended a.status a.text.items))
    c.as_slice.ensures.value c.answer_between.ensures

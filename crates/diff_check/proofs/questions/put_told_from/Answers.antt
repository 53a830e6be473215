use Rattle.std.proofs.Common.{◌≡◌, ◌++◌, List, Option, subst, sym, ℕ}
use Rattle.std.specs.Prelude.{OnOk}
use Rattle.diff_check.specs.Diffs.{told_or_same}
use Rattle.diff_check.proofs.Agreeing.{told_of-start}
use Rattle.diff_check.proofs.questions.put_told_from.Goals as goal

pub returns : goal.returns
returns g c =
    let l = c.of.result in
    subst (λ (o : Option (List ℕ)). OnOk c.put_once.result (c.put_once.new.out.items ≡ c.args.out.now.items ++ told_or_same o))
    (sym (told_of-start c.args.asked.now.compared c.args.start.now l.walks.before.sent l.walks.after.sent
    l.id.now c.args.h.now c.of.ensures.before c.of.ensures.after c.of.ensures.id))
    c.put_once.ensures

use Rattle.std.proofs.Common.{◌≡◌, ◌++◌, List, subst, ℕ}
use Rattle.std.specs.Prelude.{OnOk}
use Rattle.diff_check.proofs.Agreeing.{tellable-at, told-none, told-some}
use Rattle.diff_check.proofs.starts.StartChangesPutTold.put_told.Goals as goal

pub put_change-requires : goal.put_change-requires
put_change-requires g c =
    let l = c.args.self.now in
    tellable-at l.walks.before.sent l.walks.after.sent l.network_before.now l.network_after.now l.same_before l.same_after
    c.args.h.now c.change_at.result c.in-Some.change l.tellable c.change_at.ensures c.in-Some.is

pub returns-in-None : goal.returns-in-None
returns-in-None g c =
    let l = c.args.self.now in
    subst (λ (t : List ℕ). OnOk c.put.result (c.put.new.out.items ≡ c.args.out.now.items ++ t))
    (told-none l.walks.before.sent l.walks.after.sent l.id.now c.args.h.now c.change_at.result c.change_at.ensures c.in-None.is)
    c.put.ensures

pub returns-in-Some : goal.returns-in-Some
returns-in-Some g c =
    let l = c.args.self.now in
    subst (λ (t : List ℕ). OnOk c.put_change.result (c.put_change.new.out.items ≡ c.args.out.now.items ++ t))
    (told-some l.walks.before.sent l.walks.after.sent l.network_before.now l.network_after.now l.same_before l.same_after l.id.now
    c.args.h.now c.change_at.result c.in-Some.change c.change_at.ensures c.in-Some.is)
    c.put_change.ensures

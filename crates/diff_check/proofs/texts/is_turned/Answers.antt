use Rattle.std.proofs.Common.{refl}
use Rattle.change_report.specs.Texts.{barrier_text}
use Rattle.diff_check.proofs.Pieces.{none_after_two, same_after_two}
use Rattle.diff_check.proofs.texts.is_turned.Goals as goal

pub returns-in-Some : goal.returns-in-Some
returns-in-Some c =
    let kind = c.args.kind.now in
    let end = c.args.end.now in
    same_after_two c.args.text.now c.in-Some.rest.now (barrier_text c.args.n.now c.args.id.now c.args.barrier.now) c.is_barrier.result kind kind end end refl refl
    c.in-Some.ensures c.is_barrier.ensures

pub returns-in-None : goal.returns-in-None
returns-in-None c =
    let kind = c.args.kind.now in
    let end = c.args.end.now in
    none_after_two c.args.text.now (barrier_text c.args.n.now c.args.id.now c.args.barrier.now) kind kind end end refl refl c.in-None.ensures

use Rattle.std.proofs.Common.{codes, refl}
use Rattle.diff_check.proofs.Pieces.{none_after_two, same_after_two}
use Rattle.diff_check.proofs.texts.is_absent.Goals as goal

pub returns-in-Some : goal.returns-in-Some
returns-in-Some c =
    let first = codes "request Absent" in
    let id = c.args.id.now in
    same_after_two c.args.text.now c.in-Some.rest.now (codes "-") c.is_same.result first first id id refl refl c.in-Some.ensures c.is_same.ensures

pub returns-in-None : goal.returns-in-None
returns-in-None c =
    let first = codes "request Absent" in
    let id = c.args.id.now in
    none_after_two c.args.text.now (codes "-") first first id id refl refl c.in-None.ensures

use Rattle.std.proofs.Common.{codes, refl}
use Rattle.diff_check.proofs.Pieces.{none_after_two, same_after_two}
use Rattle.diff_check.proofs.texts.is_moved.Goals as goal

pub returns-in-Some : goal.returns-in-Some
returns-in-Some c =
    let one = c.args.one.now in
    same_after_two c.args.text.now c.in-Some.rest.now c.args.other.now c.is_same.result (codes "moved") (codes "moved") one one refl refl c.in-Some.ensures c.is_same.ensures

pub returns-in-None : goal.returns-in-None
returns-in-None c =
    let one = c.args.one.now in
    none_after_two c.args.text.now c.args.other.now (codes "moved") (codes "moved") one one refl refl c.in-None.ensures

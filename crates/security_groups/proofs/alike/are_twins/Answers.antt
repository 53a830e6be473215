use Rattle.std.proofs.Common.{arith, get_or}
use Rattle.std.proofs.lemmas.List.{get_or_default}
use Rattle.vpc_base.proofs.Zips.{zip_longer}
use Rattle.security_groups.specs.Alike.{IsTwin}
use Rattle.security_groups.proofs.alike.are_twins.Goals as goal

pub loop-k-preserved : goal.loop-k-preserved
loop-k-preserved c =
    let xs = c.args.numbers.now in
    let ys = c.args.others.now in
    let k = c.loop-k.k in
    let x = get_or xs k 0 in
    let y = get_or ys k 0 in
    zip_longer (IsTwin c.args.twins.now) xs ys k x y (omega arith) (omega arith) (get_or_default xs k 0 x (omega arith)) (get_or_default ys k 0 y (omega arith))
    c.loop-k.invariant (c.is_twin.ensures c.if-not-is_twin.false)

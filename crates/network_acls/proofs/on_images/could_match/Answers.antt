use Rattle.std.proofs.Common.{arith}
use Rattle.std.proofs.lemmas.Bool.Decides.{nat_tests}
use Rattle.network_acls.proofs.Matching.{begins-after, block-after, block-before, ends-before}
use Rattle.network_acls.proofs.on_images.could_match.Goals as goal

pub returns-then-row-low : goal.returns-then-row-low
returns-then-row-low c = λ e. ends-before c.args.dir c.args.i.now c.args.low.now c.args.row.now c.requires.low c.if-row-low.true

pub returns-then-greatest-from : goal.returns-then-greatest-from
returns-then-greatest-from c = λ e.
    let less = c.if-greatest-from.true in
    let from = c.from.ensures in
    begins-after c.args.dir c.args.i.now c.greatest.result c.args.row.now c.greatest.ensures (omega arith)

pub returns-then-last-far_address : goal.returns-then-last-far_address
returns-then-last-far_address c = λ e.
    let less = c.if-last-far_address.true in
    let last = c.last.ensures in
    let far = c.far_address.ensures in
    block-before c.args.dir c.args.i.now c.args.low.now c.args.row.now c.requires.low (omega arith)

pub returns : goal.returns
returns c = λ e.
    let first = c.first.ensures.value in
    block-after c.args.dir c.args.i.now c.greatest-2.result c.far_side.result c.args.row.now c.far_side.ensures.far c.greatest-2.ensures (grind (arith, nat_tests))

use Rattle.std.proofs.Common.{arith}
use Rattle.header_boxes.proofs.Pieces.{count_apart, piece_of_bound}
use Rattle.header_boxes.proofs.division.pieces.Goals as goal

pub overflow_sub-result : goal.overflow_sub-result
overflow_sub-result c =
    let apart = count_apart c.args.cuts.now (c.args.first, c.args.last) c.args.last c.requires.valid in
    omega (arith, apart, c.count_up_to.ensures, c.count_up_to-2.ensures)

pub overflow_add-result : goal.overflow_add-result
overflow_add-result c =
    let apart = count_apart c.args.cuts.now (c.args.first, c.args.last) c.args.last c.requires.valid in
    let bound = piece_of_bound c.args.cuts.now (c.args.first, c.args.last) c.args.last c.requires.ascending c.requires.valid in
    omega (arith, apart, bound, c.count_up_to.ensures, c.count_up_to-2.ensures)

pub returns-clause-value : goal.returns-clause-value
returns-clause-value c =
    let apart = count_apart c.args.cuts.now (c.args.first, c.args.last) c.args.last c.requires.valid in
    omega (arith, apart, c.count_up_to.ensures, c.count_up_to-2.ensures)

pub returns-clause-bound : goal.returns-clause-bound
returns-clause-bound c =
    let apart = count_apart c.args.cuts.now (c.args.first, c.args.last) c.args.last c.requires.valid in
    let bound = piece_of_bound c.args.cuts.now (c.args.first, c.args.last) c.args.last c.requires.ascending c.requires.valid in
    omega (arith, apart, bound, c.count_up_to.ensures, c.count_up_to-2.ensures)

use Rattle.std.proofs.Common.{◌+◌, ◌∙◌, arith, sym}
use Rattle.number_tables.proofs.Pairs.{any-as_far}
use Rattle.number_tables.proofs.sets.NumberSet.is_same_above.Goals as goal

pub returns : goal.returns
returns c same k most =
    let first = c.args.first in
    let other = c.args.other_first in
    sym (c.until-numbers.ensures (first + k) (omega arith) ∙ c.from.ensures.same (first + k) (omega arith))
    ∙ any-as_far first other k c.until-numbers.result.now c.until-others.result.now (c.are_as_far_above.ensures same)
    ∙ (c.until-others.ensures (other + k) (omega arith) ∙ c.from-2.ensures.same (other + k) (omega arith))

use Rattle.std.proofs.Common.{◌∙◌}
use Rattle.reference_check.proofs.NumberLemmas.{first-all, first-none, first-step}
use Rattle.reference_check.proofs.first_numbers.FirstNumbers.of.Goals as goal

pub loop-number-init : goal.loop-number-init
loop-number-init g c = λ id. rw c.new-numbers.ensures (first-none g.R.Naming.name_of c.args.rows.now id)

pub loop-number-preserved : goal.loop-number-preserved
loop-number-preserved g c = λ id.
    rw (c.in_ok-add.ensures, c.name.ensures)
    (first-step g.R.Naming.name_of c.args.rows.now c.loop-number.number c.index-rows-number.result c.loop-number.numbers id c.loop-number-test.true c.index-rows-number.is
    ∙ c.loop-number.invariant id)

pub returns : goal.returns
returns g c = λ id. first-all g.R.Naming.name_of c.args.rows.now c.loop-number.number c.loop-number.numbers id c.loop-number-test.false (c.loop-number.invariant id)

use Rattle.std.proofs.Common.{◌≡◌, ◌-◌, ◌∙◌, ap, arith}
use Rattle.made_network.specs.Made.{for_each}
use Rattle.made_network.proofs.Ranges.{for_each-more}
use Rattle.made_network.proofs.network.rows.Goals.{else-loop-number-test, then-loop-number-test+in_ok-made+in_ok-add+else-number-n}
use Rattle.made_network.proofs.network.rows.Goals as goal

pub loop-number-preserved : goal.loop-number-preserved
loop-number-preserved g c =
    let more = for_each-more g.R.MadeRow.row_of c.loop-number.rows.items c.add.new.rows.items c.loop-number.number c.in_ok-made.field-0 c.loop-number.auto.number c.loop-number.invariant.0 c.in_ok-made.ensures c.in_ok-add.ensures in
    (more ∙ ap (for_each g.R.MadeRow.row_of) (omega arith), omega (arith, c.loop-number-test.true))

pub returns : goal.returns
returns g c =
    c.of.ensures
    ∙ elim c.loop-number-test.branch [
      | else-loop-number-test w ↦
          let past : c.loop-number.number - 1 ≡ c.args.n = omega (arith, w.loop-number-test, c.loop-number.auto.number, c.loop-number.invariant.1) in
          ap (λ v. v.items) w.rows-is ∙ c.loop-number.invariant.0 ∙ ap (for_each g.R.MadeRow.row_of) past
      | then-loop-number-test+in_ok-made+in_ok-add+else-number-n w ↦
          let more = for_each-more g.R.MadeRow.row_of c.loop-number.rows.items w.add.new.rows.items c.loop-number.number w.in_ok-made.field-0 c.loop-number.auto.number c.loop-number.invariant.0 w.in_ok-made.ensures w.in_ok-add.ensures in
          ap (λ v. v.items) w.rows-is ∙ more ∙ ap (for_each g.R.MadeRow.row_of) (omega (arith, w.loop-number-test))
    ]

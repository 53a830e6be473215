use Rattle.std.proofs.Common.{◌∙◌, ap, arith}
use Rattle.vpc_laws.specs.Types.{Description}
use Rattle.fabric.proofs.Numbered.{few-tables}
use Rattle.fabric.proofs.gateway_tables.gateways_of.Goals as goal

pub overflow_cast-number : goal.overflow_cast-number
overflow_cast-number c =
    let same = c.as_slice-tables.ensures ∙ ap (λ (d : Description). d.tables) c.description.ensures.value in
    let few = few-tables c.args.n.now c.as_slice-tables.result.now c.loop-number.number c.description.ensures.accepted same (omega (arith, c.loop-number-test.true)) in
    omega (arith, few)

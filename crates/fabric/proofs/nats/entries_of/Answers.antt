use Rattle.std.proofs.Common.{◌∙◌, ap, arith}
use Rattle.vpc_laws.specs.Types.{Description}
use Rattle.fabric.proofs.NatRows.{few-nats}
use Rattle.fabric.proofs.nats.entries_of.Goals as goal

pub overflow_cast-number : goal.overflow_cast-number
overflow_cast-number c =
    let same = c.as_slice-nats.ensures ∙ ap (λ (d : Description). d.nats) c.description.ensures.value in
    let few = few-nats c.args.n.now c.as_slice-nats.result.now c.loop-number.number c.description.ensures.accepted same (omega (arith, c.loop-number-test.true)) in
    omega (arith, few)

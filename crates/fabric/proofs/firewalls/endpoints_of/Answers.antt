use Rattle.std.proofs.Common.{◌∙◌, ap, arith}
use Rattle.vpc_laws.proofs.Lengths.{accepted_has_short_lists}
use Rattle.vpc_laws.specs.Types.{Description}
use Rattle.fabric.proofs.RowFacts.{few-rows}
use Rattle.fabric.proofs.firewalls.endpoints_of.Goals as goal

pub overflow_cast-number : goal.overflow_cast-number
overflow_cast-number c =
    let d = c.args.n.now in
    let same = c.as_slice-appliances.ensures ∙ ap (λ (x : Description). x.appliances) c.description.ensures.value in
    let lists = accepted_has_short_lists d c.description.ensures.accepted in
    let few = few-rows c.as_slice-appliances.result.now d.appliances same lists.appliances in
    omega (arith, few, c.loop-number-test.true)

use Rattle.std.proofs.Common.{◌∙◌, List, ap, arith, bytes_eq, sym, ℕ}
use Rattle.vpc_laws.proofs.Lengths.{accepted_has_short_lists}
use Rattle.vpc_laws.specs.Types.{Description, Subnet}
use Rattle.vpc_model.specs.Lookup.{has_subnet}
use Rattle.vpc_model.specs.Step.Nat.{own_subnet}
use Rattle.fabric.proofs.RowFacts.{few-rows, number-past}
use Rattle.fabric.proofs.sites.subnet_of_nat.Goals as goal

pub overflow_cast-result : goal.overflow_cast-result
overflow_cast-result c =
    let d = c.args.n.now in
    let same = c.as_slice.ensures ∙ ap (λ (x : Description). x.subnets) c.description.ensures.value in
    let lists = accepted_has_short_lists d c.description.ensures.accepted in
    let few = few-rows c.as_slice.result.now d.subnets same lists.subnets in
    omega (arith, few)

pub returns-in-None : goal.returns-in-None
returns-in-None c =
    let d = c.args.n.now in
    let same = c.as_slice.ensures ∙ ap (λ (x : Description). x.subnets) c.description.ensures.value in
    ap (λ (k : ℕ). record { 0 = k }) (number-past (λ (row : Subnet). bytes_eq row.id (own_subnet c.args.nat.now.life)) c.as_slice.result.now d.subnets same
    (ap (λ (id : List ℕ). has_subnet d id) (sym c.own_subnet.ensures) ∙ sym c.in-None.ensures.found))

use Rattle.std.proofs.Common.{◌∙◌, List, ap, arith, bytes_eq, sym, ℕ}
use Rattle.vpc_laws.proofs.Lengths.{accepted_has_short_lists}
use Rattle.vpc_laws.specs.Types.{Description, InternetGateway}
use Rattle.vpc_model.specs.Lookup.{has_igw}
use Rattle.fabric.proofs.RowFacts.{few-rows, number-past}
use Rattle.fabric.proofs.targets.igw_number.Goals as goal

pub overflow_cast-result : goal.overflow_cast-result
overflow_cast-result c =
    let d = c.args.n.now in
    let same = c.as_slice.ensures ∙ ap (λ (x : Description). x.igws) c.description.ensures.value in
    let lists = accepted_has_short_lists d c.description.ensures.accepted in
    let few = few-rows c.as_slice.result.now d.igws same lists.igws in
    omega (arith, few)

pub returns-in-None : goal.returns-in-None
returns-in-None c =
    let d = c.args.n.now in
    let same = c.as_slice.ensures ∙ ap (λ (x : Description). x.igws) c.description.ensures.value in
    number-past (λ (row : InternetGateway). bytes_eq row.id c.args.id.now) c.as_slice.result.now d.igws same
    (ap (λ (id : List ℕ). has_igw d id) (sym c.bytes.ensures.value) ∙ sym c.in-None.ensures.found)

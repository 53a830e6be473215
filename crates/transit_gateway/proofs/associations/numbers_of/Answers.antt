use Rattle.std.proofs.Common.{◌≡◌, ◌∙◌, ap, subst}
use Rattle.std.specs.Prelude.{IfOk, List, bytes_eq, position, ℕ}
use Rattle.reference_check.specs.FirstNumbers.{number_in}
use Rattle.vpc_laws.specs.Types.{Association, Description}
use Rattle.transit_gateway.proofs.associations.numbers_of.Goals as goal

pub returns : goal.returns
returns c =
    subst (λ (rows : List Association). IfOk c.of.result (λ n. (id : List ℕ) → number_in n id ≡ position (λ x. bytes_eq x.attachment id) rows))
    (c.as_slice-rows.ensures ∙ ap (λ (d : Description). d.associations) c.description.ensures.value) c.of.ensures

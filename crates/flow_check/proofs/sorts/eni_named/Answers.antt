use Rattle.std.proofs.Common.{◌≡◌, IfSome, subst, true}
use Rattle.vpc_laws.specs.Types.{Description}
use Rattle.vpc_laws.proofs.Numbering.{named-lies}
use Rattle.vpc_model.specs.Sound.{is_eni}
use Rattle.flow_check.proofs.sorts.eni_named.Goals as goal

pub returns-clause-described : goal.returns-clause-described
returns-clause-described c =
    subst (λ (d : Description). IfSome c.eni.result (λ i. is_eni d i ≡ true)) c.network.ensures
    (named-lies c.network.result.now c.args.id.now c.eni.result c.eni.ensures.found c.eni.ensures.number)

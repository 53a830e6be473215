use Rattle.std.proofs.Common.{◌∙◌, ap, sym}
use Rattle.vpc_model.specs.Lookup.{has_peering}
use Rattle.vpc_model.specs.declared.rows.Description.{Description}
use Rattle.reference_check.proofs.Beside.{no-vpc_of_peering}
use Rattle.reference_check.proofs.network.Network.vpc_of_peering.Goals as goal

pub returns-in-None-clause-number : goal.returns-in-None-clause-number
returns-in-None-clause-number c =
    let id = c.args.id.now in
    no-vpc_of_peering c.args.self.now id (ap (λ (d : Description). has_peering d id) (sym c.directory.ensures.value) ∙ sym c.in-None.ensures.found)

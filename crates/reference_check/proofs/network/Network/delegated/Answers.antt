use Rattle.std.proofs.Common.{◌≡◌, [], subst, sym}
use Rattle.vpc_model.specs.Accepted.{duplicate_ids}
use Rattle.vpc_model.specs.declared.rows.Description.{Description}
use Rattle.vpc_laws.proofs.Accepting.{accepted_is_faultless}
use Rattle.reference_check.proofs.network.Network.delegated.Goals as goal

pub delegated-requires-clause-differ : goal.delegated-requires-clause-differ
delegated-requires-clause-differ c =
    let faultless = accepted_is_faultless c.self.inside.rows c.self.invariant.accepted in
    subst (λ (d : Description). duplicate_ids d ≡ []) (sym c.description.ensures) faultless.ids

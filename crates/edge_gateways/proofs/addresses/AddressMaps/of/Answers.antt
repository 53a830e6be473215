use Rattle.edge_gateways.proofs.Publics.{has_pairs_of}
use Rattle.edge_gateways.proofs.addresses.AddressMaps.of.Goals as goal

pub returns : goal.returns
returns c =
    has_pairs_of c.args.n.now _ c.as_slice-rows.result.now _ _ c.description.ensures.accepted c.in_ok-pairs.ensures.pairs c.in_ok-pairs.ensures.fit c.as_slice-rows.ensures.value c.in_ok-publics.ensures c.in_ok-owners.ensures

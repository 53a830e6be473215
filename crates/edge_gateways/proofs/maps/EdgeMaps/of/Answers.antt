use Rattle.edge_gateways.proofs.Carrying.{are_edges}
use Rattle.edge_gateways.proofs.maps.EdgeMaps.of.Goals as goal

pub returns : goal.returns
returns c = are_edges c.args.n.now _ _ _ _ _ c.description.ensures.accepted c.in_ok-addresses.ensures c.in_ok-peerings.ensures c.in_ok-beyond.ensures

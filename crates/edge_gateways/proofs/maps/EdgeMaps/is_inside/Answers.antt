use Rattle.std.proofs.Common.{◌∙◌, ap}
use Rattle.edge_gateways.specs.Edges.{EdgeLists}
use Rattle.edge_gateways.specs.Sides.{has_address}
use Rattle.edge_gateways.proofs.Carrying.{has_address-is}
use Rattle.edge_gateways.proofs.maps.EdgeMaps.is_inside.Goals as goal

pub returns : goal.returns
returns c = λ d edges lies.
    c.has_address.ensures
    ∙ ap (λ (m : EdgeLists). has_address m.blocks c.args.v c.args.address) c.self.view_is
    ∙ has_address-is d c.args.self.now.blocks c.args.v c.args.address edges.peerings.blocks lies

use Rattle.std.proofs.Common.{◌∙◌, List, ap}
use Rattle.address_sets.specs.declared.sets.Run.{Run}
use Rattle.edge_gateways.specs.Edges.{EdgeLists}
use Rattle.edge_gateways.specs.FarBlocks.{has_beyond}
use Rattle.edge_gateways.proofs.FarBlocks.{has_beyond-is}
use Rattle.edge_gateways.proofs.maps.EdgeMaps.is_beyond.Goals as goal

pub returns : goal.returns
returns c = λ d edges lies.
    c.is_in.ensures
    ∙ ap (λ (sets : List (List Run)). has_beyond sets c.args.k c.args.address) c.as_slice.ensures.value
    ∙ ap (λ (m : EdgeLists). has_beyond m.beyond c.args.k c.args.address) c.self.view_is
    ∙ has_beyond-is d c.args.self.now.beyond c.args.k c.args.address edges.beyond lies

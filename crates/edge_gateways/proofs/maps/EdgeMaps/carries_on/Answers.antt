use Rattle.std.proofs.Common.{subst}
use Rattle.box_images.specs.Answers.{Answers}
use Rattle.box_images.specs.Images.{header_at}
use Rattle.edge_gateways.specs.Edges.{EdgeLists, carry}
use Rattle.edge_gateways.specs.OnImages.{DivideSides}
use Rattle.edge_gateways.proofs.maps.EdgeMaps.carries_on.Goals as goal

pub returns : goal.returns
returns c =
    subst (λ (m : EdgeLists). Answers (DivideSides m.blocks m.sides c.args.x c.args.sender) (λ h. carry m c.args.x c.args.sender (header_at c.args.i.now h)) c.args.i.now.part c.carries_on.result)
    c.self.view_is c.carries_on.ensures

use Rattle.std.proofs.Common.{is_some, subst}
use Rattle.box_images.specs.Answers.{Answers}
use Rattle.box_images.specs.Images.{header_at}
use Rattle.cut_laws.specs.Dividing.{CutOut}
use Rattle.edge_gateways.specs.Edges.{EdgeLists, owner_in}
use Rattle.edge_gateways.proofs.maps.EdgeMaps.in_addr_on.Goals as goal

pub returns : goal.returns
returns c =
    subst (λ (m : EdgeLists). Answers (CutOut (λ a. is_some (owner_in m a))) (λ h. owner_in m (header_at c.args.i.now h).dst) c.args.i.now.part c.owner_on.result)
    c.self.view_is c.owner_on.ensures

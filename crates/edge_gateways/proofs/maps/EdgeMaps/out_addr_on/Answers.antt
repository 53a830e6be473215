use Rattle.std.proofs.Common.{is_some, subst}
use Rattle.box_images.specs.Answers.{Answers}
use Rattle.box_images.specs.Images.{header_at}
use Rattle.cut_laws.specs.Dividing.{CutOut}
use Rattle.edge_gateways.specs.Edges.{EdgeLists, public_in}
use Rattle.edge_gateways.proofs.maps.EdgeMaps.out_addr_on.Goals as goal

pub returns : goal.returns
returns c =
    subst (λ (m : EdgeLists). Answers (CutOut (λ a. is_some (public_in m c.args.v a))) (λ h. public_in m c.args.v (header_at c.args.i.now h).src) c.args.i.now.part c.public_on.result)
    c.self.view_is c.public_on.ensures

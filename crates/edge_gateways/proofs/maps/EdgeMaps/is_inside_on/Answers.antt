use Rattle.std.proofs.Common.{subst}
use Rattle.box_images.specs.Answers.{Answers}
use Rattle.box_images.specs.Fields.{number_of}
use Rattle.box_images.specs.Images.{header_at}
use Rattle.cut_laws.specs.Dividing.{DivideTurns}
use Rattle.vpc_model.specs.Peerings.{has_block}
use Rattle.edge_gateways.specs.Edges.{EdgeLists}
use Rattle.edge_gateways.specs.Sides.{has_address}
use Rattle.edge_gateways.proofs.Carrying.{has_address-is}
use Rattle.edge_gateways.proofs.OnImages.{answers_standing}
use Rattle.edge_gateways.proofs.Standing.{vpc-divides}
use Rattle.edge_gateways.proofs.maps.EdgeMaps.is_inside_on.Goals as goal

pub returns : goal.returns
returns c = λ d edges lies.
    let m = c.args.self.now in
    let v = c.args.v in
    let i = c.args.i.now in
    answers_standing d (has_address m.blocks v) (has_block d v) i c.args.side c.address_on.result (vpc-divides d m v edges lies) (λ a. has_address-is d m.blocks v a edges.peerings.blocks lies)
    (subst (λ (n : EdgeLists). Answers (DivideTurns (has_address n.blocks v)) (λ h. has_address n.blocks v (number_of (header_at i h) c.args.side)) i.part c.address_on.result) c.self.view_is c.address_on.ensures)

use Rattle.std.proofs.Common.{◌∙◌, List, ap, subst}
use Rattle.address_sets.specs.declared.sets.Run.{Run}
use Rattle.box_images.specs.Answers.{Answers}
use Rattle.box_images.specs.Fields.{number_of}
use Rattle.box_images.specs.Images.{header_at}
use Rattle.cut_laws.specs.Dividing.{DivideTurns}
use Rattle.vpc_model.specs.Far.{blocks_beyond, is_within}
use Rattle.vpc_model.specs.Lookup.{far_at}
use Rattle.edge_gateways.specs.Edges.{EdgeLists}
use Rattle.edge_gateways.specs.FarBlocks.{has_beyond}
use Rattle.edge_gateways.proofs.FarBlocks.{far-divides, has_beyond-is}
use Rattle.edge_gateways.proofs.OnImages.{answers_standing}
use Rattle.edge_gateways.proofs.maps.EdgeMaps.is_beyond_on.Goals as goal

pub returns : goal.returns
returns c = λ d edges lies.
    let m = c.args.self.now in
    let k = c.args.k in
    let i = c.args.i.now in
    answers_standing d (has_beyond m.beyond k) (is_within (blocks_beyond d (far_at d k))) i c.args.side c.is_in_on.result (far-divides d m.beyond k edges.beyond lies) (λ a. has_beyond-is d m.beyond k a edges.beyond lies)
    (subst (λ (sets : List (List Run)). Answers (DivideTurns (has_beyond sets k)) (λ h. has_beyond sets k (number_of (header_at i h) c.args.side)) i.part c.is_in_on.result)
    (c.as_slice.ensures.value ∙ ap (λ (n : EdgeLists). n.beyond) c.self.view_is) c.is_in_on.ensures)

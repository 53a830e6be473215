use Rattle.std.proofs.Common.{List, subst}
use Rattle.address_sets.specs.declared.sets.Run.{Run}
use Rattle.box_images.specs.Answers.{Answers}
use Rattle.box_images.specs.Fields.{number_of}
use Rattle.box_images.specs.Images.{header_at}
use Rattle.cut_laws.specs.Dividing.{DivideTurns}
use Rattle.edge_gateways.specs.Sides.{has_address}
use Rattle.edge_gateways.proofs.peerings.PeeringMaps.address_on.Goals as goal

pub returns : goal.returns
returns c =
    subst (λ (sets : List (List Run)). Answers (DivideTurns (has_address sets c.args.v)) (λ h. has_address sets c.args.v (number_of (header_at c.args.i.now h) c.args.side)) c.args.i.now.part c.is_in_on.result)
    c.as_slice.ensures.value c.is_in_on.ensures

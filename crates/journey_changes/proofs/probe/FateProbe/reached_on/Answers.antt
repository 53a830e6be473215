use Rattle.std.proofs.Common.{◌∙◌, None, sym}
use Rattle.header_boxes.specs.Boxes.{low_of}
use Rattle.vpc_base.specs.Cuts.{AreAmong}
use Rattle.journey_changes.specs.Sent.{near, reached}
use Rattle.journey_changes.proofs.Asked.{absent_reached, told_all}
use Rattle.journey_changes.proofs.probe.FateProbe.reached_on.Goals as goal

pub returns-in-None : goal.returns-in-None
returns-in-None g c =
    let q = c.args.self.now.sent in
    told_all (AreAmong (near q (low_of c.args.sides.now))) (reached q) c.args.sides.now None c.requires (λ h. absent_reached q h (sym c.start.ensures ∙ c.in-None.is))

use Rattle.std.proofs.Common.{◌∙◌, Err, sym}
use Rattle.header_boxes.specs.Boxes.{low_of}
use Rattle.vpc_base.specs.Cuts.{AreAmong}
use Rattle.journey_changes.specs.Sent.{fate, near}
use Rattle.journey_changes.specs.declared.fates.Barrier.TheVariants as barriers
use Rattle.journey_changes.proofs.Asked.{absent_fate, told_all}
use Rattle.journey_changes.proofs.probe.FateProbe.fate_on.Goals as goal

pub returns-in-None : goal.returns-in-None
returns-in-None g c =
    let q = c.args.self.now.sent in
    told_all (AreAmong (near q (low_of c.args.sides.now))) (fate q) c.args.sides.now (Err barriers.Absent) c.requires (λ h. absent_fate q h (sym c.start.ensures ∙ c.in-None.is))

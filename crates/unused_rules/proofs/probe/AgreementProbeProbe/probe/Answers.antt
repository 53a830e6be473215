use Rattle.std.proofs.Common.{◌∙◌, subst}
use Rattle.box_walk.specs.Asking.{asked_by, homes_by}
use Rattle.header_boxes.specs.Cells.{IsAligned}
use Rattle.header_boxes.proofs.Held.{within_trans}
use Rattle.vpc_laws.specs.Types.{Header}
use Rattle.unused_rules.specs.Probe.{near_cuts_of}
use Rattle.unused_rules.proofs.Needing.{aligned_to_both, told-both}
use Rattle.unused_rules.proofs.probe.AgreementProbeProbe.probe.Goals as goal

pub returns-clause-within : goal.returns-clause-within
returns-clause-within g c = within_trans c.probe-other.result.0 c.probe-one.result.0 c.args.sides.now c.probe-other.ensures.within c.probe-one.ensures.within

pub returns-clause-low : goal.returns-clause-low
returns-clause-low g c = c.probe-other.ensures.low ∙ c.probe-one.ensures.low

pub returns-clause-aligned : goal.returns-clause-aligned
returns-clause-aligned g c =
    let b = asked_by c.args.self.now.after.now.fabric.now (homes_by c.args.self.now.after.now.links.now c.args.self.now.after.now.start) c.args.self.now.after.now.goal in
    aligned_to_both _ _ c.probe-other.result.0 c.probe-one.result.0 c.args.sides.now c.probe-one.ensures.aligned
    (subst (λ (h : Header). IsAligned (near_cuts_of b h) c.probe-other.result.0 c.probe-one.result.0) c.probe-one.ensures.low c.probe-other.ensures.aligned)

pub returns-clause-means : goal.returns-clause-means
returns-clause-means g c =
    told-both
    (asked_by c.args.self.now.before.now.fabric.now (homes_by c.args.self.now.before.now.links.now c.args.self.now.before.now.start) c.args.self.now.before.now.goal)
    (asked_by c.args.self.now.after.now.fabric.now (homes_by c.args.self.now.after.now.links.now c.args.self.now.after.now.start) c.args.self.now.after.now.goal)
    c.probe-other.result.0 c.probe-one.result.0 c.probe-one.result.1 c.probe-other.result.1 c.unless_apart.result
    c.unless_apart.ensures c.probe-other.ensures.within c.probe-one.ensures.means c.probe-other.ensures.means

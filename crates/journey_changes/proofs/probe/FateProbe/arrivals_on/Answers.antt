use Rattle.std.proofs.Common.{◌∙◌, sym}
use Rattle.box_walk.specs.Asking.{homes_by}
use Rattle.box_walk.specs.Open.{starting_by}
use Rattle.journey_changes.proofs.LetInAlike.{come_if}
use Rattle.journey_changes.proofs.probe.FateProbe.arrivals_on.Goals as goal

pub returns-in-Any : goal.returns-in-Any
returns-in-Any g c =
    let p = c.args.self.now in
    let asks = starting_by p.open.fabric.now (homes_by p.open.links.now p.open.start) in
    come_if p.sent c.in_ok-start.field-0 asks c.args.sides.now c.arrivals_on.result (sym c.start.ensures ∙ c.in_ok-start.was) p.same_open
    (sym c.toward.ensures ∙ c.in-Any.is) c.arrivals_on.ensures

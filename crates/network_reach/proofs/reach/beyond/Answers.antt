-- As many rows as a report may have, and none of all gets through.
use Rattle.std.proofs.Common.{◌∙◌, subst}
use Rattle.header_boxes.specs.Rows.{IsFirst}
use Rattle.vpc_laws.specs.Types.{Description}
use Rattle.vpc_model.specs.Accepted.{IsAccepted}
use Rattle.vpc_model.specs.Report.{IsCellCount}
use Rattle.network_reach.proofs.Reports.{more_is, none_unstopped}
use Rattle.network_reach.specs.Reached.{meaning_in}
use Rattle.network_reach.proofs.reach.beyond.Goals as goal

pub returns-in_ok-cells-in-None : goal.returns-in_ok-cells-in-None
returns-in_ok-cells-in-None g c =
    more_is c.args.f.now c.args.query.now c.args.rows c.args.next _ (subst IsAccepted c.network.ensures c.description.ensures.accepted) c.requires.query
    (subst (λ (d : Description). IsCellCount d c.args.query.now.sides c.in_ok-cells-in-None.cells) (c.description.ensures.value ∙ c.network.ensures) c.in_ok-cells-in-None.ensures)
    c.requires.more
    (none_unstopped c.args.f.now c.args.query.now (subst (IsFirst (meaning_in c.args.f.now c.args.query.now) c.args.query.now.sides) c.in-None.is c.in_ok-h.ensures))

use Rattle.std.proofs.Common.{◌∙◌, None, ap}
use Rattle.journey_changes.specs.Sent.{Sent}
use Rattle.change_report.proofs.gathered.walks_of.Goals as goal

pub returns : goal.returns
returns g c = record {
  before_is = ap (λ (s : Sent). record s { start = None }) (c.of.ensures.before ∙ c.probe_before.ensures);
  after_is = ap (λ (s : Sent). record s { start = None }) (c.of.ensures.after ∙ c.probe_after.ensures);
}

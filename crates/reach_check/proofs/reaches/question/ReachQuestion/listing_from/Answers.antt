use Rattle.std.proofs.Common.{◌∙◌, ap, sym}
use Rattle.journey_changes.specs.Sent.{Sent}
use Rattle.reach_check.proofs.reaches.question.ReachQuestion.listing_from.Goals as goal

pub of-requires : goal.of-requires
of-requires g c = ap (λ (s : Sent). s.network) c.walks_from.ensures ∙ sym c.network.ensures

pub returns : goal.returns
returns g c = c.of.ensures ∙ c.walks_from.ensures

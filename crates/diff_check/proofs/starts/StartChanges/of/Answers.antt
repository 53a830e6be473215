use Rattle.std.proofs.Common.{◌∙◌, ap, subst, sym}
use Rattle.journey_changes.specs.Sent.{Sent}
use Rattle.vpc_laws.specs.Types.{Description}
use Rattle.vpc_model.specs.Accepted.{IsAccepted}
use Rattle.diff_check.proofs.Agreeing.{tellable-from}
use Rattle.diff_check.proofs.starts.StartChanges.of.Goals as goal

pub invariant_of-result : goal.invariant_of-result
invariant_of-result g c =
    let walks = c.of.result in
    let first = c.of.ensures.before ∙ c.walks_before.ensures in
    let second = c.of.ensures.after ∙ c.walks_after.ensures in
    record {
      same_before = ap (λ (s : Sent). s.network) first ∙ sym c.before-network_before.ensures;
      same_after = ap (λ (s : Sent). s.network) second ∙ sym c.after-network_after.ensures;
      tellable = tellable-from c.args.asked.now.compared c.args.start.now walks.before.sent walks.after.sent
          (subst (λ (d : Description). IsAccepted d) c.before-network_before.ensures c.description.ensures.accepted)
          (subst (λ (d : Description). IsAccepted d) c.after-network_after.ensures c.description-2.ensures.accepted) c.requires.ends c.requires.start first second;
    }

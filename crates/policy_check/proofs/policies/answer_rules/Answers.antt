use Rattle.policy_check.proofs.Tallies.{are_judged}
use Rattle.policy_check.proofs.policies.answer_rules.Goals as goal

pub returns : goal.returns
returns g c =
    are_judged c.args.f.now c.args.rules.now c.new-text.result.items c.put_all_judged.new.out.items c.put_tally.new.out.items c.in_ok-tally.tally c.status.result
    c.new-text.ensures.items c.in_ok-tally.ensures c.in_ok-put_tally.ensures c.status.ensures

use Rattle.security_groups.proofs.GroupCuts.{has_rule_cuts}
use Rattle.security_groups.proofs.Meaning.{has_rules}
use Rattle.security_groups.proofs.index.GroupIndex.of.Goals as goal

pub returns-clause-rules : goal.returns-clause-rules
returns-clause-rules c = has_rules c.args.n.now _ (record { lists = c.in_ok-rules.ensures; members = c.in_ok-membership.ensures.members })

pub returns-clause-cuts : goal.returns-clause-cuts
returns-clause-cuts c = has_rule_cuts c.args.n.now _ (record { lists = c.in_ok-rules.ensures; members = c.in_ok-membership.ensures.members })

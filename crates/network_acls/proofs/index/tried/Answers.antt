use Rattle.network_acls.proofs.Directions.{acl_verdict-tried, are_tried}
use Rattle.network_acls.proofs.index.tried.Goals as goal

pub returns-clause-tried : goal.returns-clause-tried
returns-clause-tried c = are_tried c.args.dir c.args.rows.now _ _ c.in_ok-kept.ensures c.sort.ensures.same c.in_ok-sort.ensures.sorted

pub returns-clause-verdicts : goal.returns-clause-verdicts
returns-clause-verdicts c = λ h. acl_verdict-tried c.args.rows.now _ _ c.args.dir h c.in_ok-kept.ensures c.sort.ensures.same c.in_ok-sort.ensures.sorted c.sort.ensures.stable

use Rattle.std.proofs.Common.{IfOk, subst}
use Rattle.query_words.specs.declared.queries.Query.{Query}
use Rattle.vpc_laws.specs.Types.{Description}
use Rattle.unused_rules.specs.Needed.{IsNeed}
use Rattle.unused_rules.proofs.judging.needed.Goals as goal

pub returns : goal.returns
returns g c =
    subst (λ (d : Description). IfOk c.needed_by.result (IsNeed d c.args.rule.now c.args.query.now)) c.of.ensures.network
    (subst (λ (q : Query). IfOk c.needed_by.result (IsNeed c.of.result.fabric.now c.args.rule.now q)) c.of.ensures.query c.needed_by.ensures)

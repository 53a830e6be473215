use Rattle.std.proofs.Common.{◌≡◌, ◌∙◌, IfOk, Option, ap, map, subst}
use Rattle.query_words.specs.Events.{words_of}
use Rattle.policy_check.proofs.RuleLemmas.{rule_in-taken}
use Rattle.policy_check.specs.Rules.{rule_in, rule_of}
use Rattle.policy_check.specs.declared.rules.PolicyRule.{PolicyRule}
use Rattle.policy_check.proofs.rules.rule_of.Goals as goal

-- the rule of the words that were taken is that of all words of the line
pub returns-clause-rule : goal.returns-clause-rule
returns-clause-rule c =
    let d = c.args.n.now in
    let number = c.args.number in
    let line = c.args.line.now in
    let same : rule_in d number (map (λ w. w.now) c.as_slice.result.now) ≡ rule_of d (number, line) =
    ap (λ ws. rule_in d number (map (λ w. w.now) ws)) c.as_slice.ensures.value ∙ (ap (rule_in d number) c.in_ok-words.ensures ∙ rule_in-taken d number (words_of line)) in
    subst (λ (o : Option PolicyRule). IfOk c.rule_in.result (λ r. r ≡ o)) same c.rule_in.ensures.rule

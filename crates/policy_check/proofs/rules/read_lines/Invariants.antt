use Rattle.std.proofs.Common.{◌≡◌, ◌+◌, ◌++◌, drop, is_none, map, not}
use Rattle.std.specs.List.{All, enumerate_from, filter, filter_map, find}
use Rattle.network_reach.specs.Reached.{IsQueryIn}
use Rattle.policy_check.specs.Rules.{is_passed_over, rule_of}
use Rattle.policy_check.proofs.rules.read_lines.Given as goal

-- the rules so far and those of the remaining lines are all, and the first bad line is among the remaining ones
abbrev pub invariant-loop-k : goal.invariant-loop-k
invariant-loop-k l = record {
  rules : l.rules.items ++ filter_map (rule_of l.n) (filter (λ t. not (is_passed_over t.1)) (enumerate_from (l.k + 1) (map (λ t. t.now) (drop l.k l.lines))))
      ≡ filter_map (rule_of l.n) (filter (λ t. not (is_passed_over t.1)) (enumerate_from 1 (map (λ t. t.now) l.lines)));
  bad : find (λ t. is_none (rule_of l.n t)) (filter (λ t. not (is_passed_over t.1)) (enumerate_from (l.k + 1) (map (λ t. t.now) (drop l.k l.lines))))
      ≡ find (λ t. is_none (rule_of l.n t)) (filter (λ t. not (is_passed_over t.1)) (enumerate_from 1 (map (λ t. t.now) l.lines)));
  known : All (λ rule. IsQueryIn l.n rule.query) l.rules.items;
}

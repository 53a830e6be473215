use Rattle.std.proofs.Common.{◌≡◌, ◌++◌, [], drop, map, Ok}
use Rattle.serde_json.specs.View.{view}
use Rattle.json_fields.specs.FieldFault.{and_then}
use Rattle.reference_check.specs.FirstNumbers.{number_in}
use Rattle.read_filters.specs.GroupRules.{rules_from}
use Rattle.read_filters.proofs.group_rules.rules_among.Given as goal

-- the rules so far and those of the remaining rows, or the first fault there, are the whole answer
abbrev pub invariant-loop-number : goal.invariant-loop-number
invariant-loop-number l =
    and_then (rules_from (number_in l.numbers) l.seen l.number (map (λ r. view r.now) (drop l.number l.rows))) (λ others. Ok (l.rules.items ++ others))
    ≡ rules_from (number_in l.numbers) [] 0 (map (λ r. view r.now) l.rows)

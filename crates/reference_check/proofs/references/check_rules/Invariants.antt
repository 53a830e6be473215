use Rattle.std.proofs.Common.{◌≡◌, drop}
use Rattle.std.specs.List.{flat_map}
use Rattle.reference_check.specs.Missing.{missing_of_rule}
use Rattle.reference_check.proofs.references.check_rules.Given as goal

abbrev pub invariant-loop-rule : goal.invariant-loop-rule
invariant-loop-rule l = flat_map (missing_of_rule l.rows l.from) (drop l.rule-index l.rules) ≡ flat_map (missing_of_rule l.rows l.from) l.rules

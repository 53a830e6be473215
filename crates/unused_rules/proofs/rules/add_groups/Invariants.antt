use Rattle.std.proofs.Common.{◌≡◌, ◌++◌, drop}
use Rattle.std.specs.List.{enumerate_from, flat_map}
use Rattle.unused_rules.specs.Rules.{rules_of_group}
use Rattle.unused_rules.proofs.rules.add_groups.Given as goal

-- those that remain make the list whole
abbrev pub invariant-loop-number : goal.invariant-loop-number
invariant-loop-number l =
    l.rules.items ++ flat_map rules_of_group (enumerate_from l.number (drop l.number l.groups))
    ≡ l.initial.rules.items ++ flat_map rules_of_group (enumerate_from 0 l.groups)

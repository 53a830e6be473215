use Rattle.std.proofs.Common.{◌≡◌, ◌+◌, ◌++◌, drop, map}
use Rattle.std.specs.List.{enumerate_from}
use Rattle.unused_rules.specs.Rules.{permission, permissions_in}
use Rattle.unused_rules.proofs.rules.add_permissions.Given as goal

-- those that remain make the list whole
abbrev pub invariant-loop-before : goal.invariant-loop-before
invariant-loop-before l =
    l.rules.items ++ map (permission l.group l.dir) (enumerate_from (l.before + 1) (drop l.before l.permissions))
    ≡ l.initial.rules.items ++ permissions_in l.group l.dir l.permissions

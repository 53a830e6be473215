use Rattle.std.proofs.Common.{◌≡◌, ◌++◌, drop}
use Rattle.std.specs.List.{enumerate_from, flat_map}
use Rattle.unused_rules.specs.Rules.{rules_of_acl}
use Rattle.unused_rules.proofs.rules.add_acls.Given as goal

-- those that remain make the list whole
abbrev pub invariant-loop-number : goal.invariant-loop-number
invariant-loop-number l =
    l.rules.items ++ flat_map rules_of_acl (enumerate_from l.number (drop l.number l.acls))
    ≡ l.initial.rules.items ++ flat_map rules_of_acl (enumerate_from 0 l.acls)

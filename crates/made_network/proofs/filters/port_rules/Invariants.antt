use Rattle.std.proofs.Common.{◌≡◌, map}
use Rattle.std.specs.List.{range_with_len}
use Rattle.made_network.specs.Made.{port_rule}
use Rattle.made_network.proofs.filters.port_rules.Given as goal

abbrev pub invariant-loop-hundred : goal.invariant-loop-hundred
invariant-loop-hundred l = l.rules.items ≡ map (port_rule l.number) (range_with_len 0 l.hundred)

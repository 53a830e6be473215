use Rattle.std.proofs.Common.{◌≡◌, take}
use Rattle.std.specs.List.{filter_map}
use Rattle.security_groups.specs.Members.{number_of}
use Rattle.security_groups.proofs.members.group_numbers.Given as goal

abbrev pub invariant-loop-id : goal.invariant-loop-id
invariant-loop-id l = l.numbers.items ≡ filter_map (number_of l.n) (take l.id-index l.ids)

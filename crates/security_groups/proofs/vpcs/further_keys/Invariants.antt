use Rattle.std.proofs.Common.{◌≡◌, take}
use Rattle.std.specs.List.{flat_map}
use Rattle.security_groups.specs.Ids.{place_of}
use Rattle.security_groups.specs.Members.{number_of}
use Rattle.security_groups.specs.NumberKeys.{key_if}
use Rattle.security_groups.proofs.vpcs.further_keys.Given as goal

abbrev pub invariant-loop-further : goal.invariant-loop-further
invariant-loop-further l = l.keys.items ≡ flat_map (λ x. key_if (number_of l.n x.group) (place_of l.ids x.vpc)) (take l.further-index l.n.scope.vpcs)

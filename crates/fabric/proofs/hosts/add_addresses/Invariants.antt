use Rattle.std.proofs.Common.{◌≡◌, ◌++◌, ◌<◌, ◌^◌, All, map, take}
use Rattle.fabric.specs.Hosts.{host_entry}
use Rattle.fabric.proofs.hosts.add_addresses.Given as goal

abbrev pub invariant-loop-address : goal.invariant-loop-address
invariant-loop-address l =
    (l.entries.items ≡ l.initial.entries.items ++ map (host_entry l.v l.i) (take l.address-index l.addresses))
    × All (λ x. x.0 < 2 ^ 32) (take l.address-index l.addresses)

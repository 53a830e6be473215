use Rattle.std.proofs.Common.{◌≡◌}
use Rattle.described_hosts.proofs.HostLemmas.{hosts_below}
use Rattle.described_hosts.proofs.hosts.hosts_of.Given as goal

abbrev pub invariant-loop-number : goal.invariant-loop-number
invariant-loop-number l = l.hosts.items ≡ hosts_below l.n l.number

use Rattle.described_hosts.proofs.HostLemmas.{hosts_by_id}
use Rattle.described_hosts.proofs.hosts.hosts_by_id.Goals as goal

pub returns : goal.returns
returns c = hosts_by_id c.args.n.now c.in_ok-hosts.hosts.items c.sort_by_id.new.hosts.items c.description.ensures.accepted c.in_ok-hosts.ensures c.sort_by_id.ensures.same c.sort_by_id.ensures.sorted

use Rattle.std.proofs.Common.{◌∙◌, ap}
use Rattle.number_tables.specs.Entries.{value_at}
use Rattle.fabric.proofs.HostRows.{are_hosts}
use Rattle.fabric.proofs.hosts.hosts_by_address.Goals as goal

pub returns : goal.returns
returns c = are_hosts c.args.n.now c.in_ok-table.table c.description.ensures.accepted c.in_ok-entries.ensures.fit (λ k. c.in_ok-table.ensures k ∙ ap (value_at k) c.in_ok-entries.ensures.entries)

use Rattle.std.proofs.Common.{◌∙◌, ap}
use Rattle.number_tables.specs.Entries.{value_at}
use Rattle.fabric.proofs.NatRows.{are_nats}
use Rattle.fabric.proofs.nats.nats_by_interface.Goals as goal

pub returns : goal.returns
returns c = are_nats c.args.n.now c.in_ok-table.table c.description.ensures.accepted (λ k. c.in_ok-table.ensures k ∙ ap (value_at k) c.in_ok-entries.ensures)

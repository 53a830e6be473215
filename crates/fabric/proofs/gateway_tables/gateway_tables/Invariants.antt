use Rattle.std.proofs.Common.{◌≡◌, map, take}
use Rattle.vpc_model.specs.Firewalls.{edge_table}
use Rattle.fabric.proofs.gateway_tables.gateway_tables.Given as goal

abbrev pub invariant-loop-igw : goal.invariant-loop-igw
invariant-loop-igw l = l.tables.items ≡ map (λ g. edge_table l.n g.id) (take l.igw-index l.igws)

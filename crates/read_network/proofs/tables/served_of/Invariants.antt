use Rattle.std.proofs.Common.{◌≡◌, ◌++◌}
use Rattle.std.specs.Vec.Iter.{into_iter_items}
use Rattle.read_network.specs.Tables.{gateways_of, subnets_of}
use Rattle.read_network.proofs.tables.served_of.Given as goal

abbrev pub invariant-loop-association : goal.invariant-loop-association
invariant-loop-association l = record {
  subnets : l.subnets.items ++ subnets_of (into_iter_items l.association-iterator) ≡ subnets_of l.fn.associations.items;
  gateways : l.gateways.items ++ gateways_of (into_iter_items l.association-iterator) ≡ gateways_of l.fn.associations.items;
}

use Rattle.std.proofs.Common.{◌≡◌, ◌++◌, map}
use Rattle.std.specs.Vec.Iter.{into_iter_items}
use Rattle.json_fields.specs.Kept.{those_there}
use Rattle.read_gateways.specs.Outside.{far_endpoint, firewall_of_endpoint}
use Rattle.read_gateways.proofs.outside.outside_by.Given as goal

abbrev pub invariant-loop-endpoint : goal.invariant-loop-endpoint
invariant-loop-endpoint l = record {
  fars : l.fars.items ++ those_there (map far_endpoint (into_iter_items l.endpoint-iterator)) ≡ l.fn.leading.items ++ those_there (map far_endpoint l.fn.endpoints.items);
  firewalls : l.firewalls.items ++ those_there (map firewall_of_endpoint (into_iter_items l.endpoint-iterator)) ≡ those_there (map firewall_of_endpoint l.fn.endpoints.items);
}

use Rattle.std.proofs.Common.{◌≡◌, drop, take}
use Rattle.std.specs.List.{flat_map}
use Rattle.vpc_model.specs.Accepted.{private_addresses, repeats, repeats_after, same_address}
use Rattle.reference_check.specs.Keys.{AreKeys, addresses_of}
use Rattle.reference_check.proofs.addresses.assigned_keys.Given as goal

abbrev pub invariant-loop-interface : goal.invariant-loop-interface
invariant-loop-interface l = record {
  keys : AreKeys l.d (flat_map (addresses_of l.d) (take l.interface-index l.d.interfaces)) l.keys;
  rest : repeats_after same_address (flat_map (addresses_of l.d) (take l.interface-index l.d.interfaces)) (flat_map (addresses_of l.d) (drop l.interface-index l.d.interfaces)) ≡ repeats same_address (private_addresses l.d);
}

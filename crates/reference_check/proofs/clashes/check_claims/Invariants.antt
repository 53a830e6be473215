use Rattle.std.proofs.Common.{◌≡◌, drop, take}
use Rattle.std.specs.List.{flat_map}
use Rattle.vpc_model.specs.Accepted.{claims_of, clashes_after, duplicate_addresses}
use Rattle.reference_check.specs.Taken.{AreTaken}
use Rattle.reference_check.proofs.clashes.check_claims.Given as goal

abbrev pub invariant-loop-interface : goal.invariant-loop-interface
invariant-loop-interface l = record {
  taken : AreTaken l.d (flat_map (claims_of l.d) (take l.interface-index l.d.interfaces)) l.taken;
  rest : clashes_after l.d (flat_map (claims_of l.d) (take l.interface-index l.d.interfaces)) (drop l.interface-index l.d.interfaces) ≡ duplicate_addresses l.d;
}

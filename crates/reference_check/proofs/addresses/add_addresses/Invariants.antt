use Rattle.std.proofs.Common.{◌++◌, ◌≡◌, List, drop, take, ℕ}
use Rattle.vpc_model.specs.Accepted.{repeats_after, same_address}
use Rattle.reference_check.specs.Keys.{AreKeys, addresses_in}
use Rattle.reference_check.proofs.addresses.add_addresses.Given as goal

abbrev pub invariant-loop-address : goal.invariant-loop-address
invariant-loop-address l =
    (earlier : List (List ℕ × ℕ))
    → AreKeys l.d earlier l.fn.keys
    → AreKeys l.d (earlier ++ addresses_in l.vpc (take l.address-index l.addresses)) l.keys
    × (repeats_after same_address (earlier ++ addresses_in l.vpc (take l.address-index l.addresses)) (addresses_in l.vpc (drop l.address-index l.addresses)) ≡ repeats_after same_address earlier (addresses_in l.vpc l.addresses))

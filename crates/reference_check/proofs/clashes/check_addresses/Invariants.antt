use Rattle.std.proofs.Common.{◌++◌, ◌≡◌, All, List, drop, take}
use Rattle.vpc_model.specs.Accepted.{Claim, address_clashes}
use Rattle.reference_check.specs.Claimed.{alone_in, run_at}
use Rattle.reference_check.specs.Taken.{AreTaken, IsFree}
use Rattle.reference_check.proofs.clashes.check_addresses.Given as goal

abbrev pub invariant-loop-address : goal.invariant-loop-address
invariant-loop-address l = record {
  own : AreTaken l.d (alone_in l.vpc (take l.address-index l.addresses)) l.own;
  free : All (λ x. IsFree l.taken l.v (run_at x.0)) (take l.address-index l.addresses);
  rest : (claims : List Claim)
      → AreTaken l.d claims l.taken
      → address_clashes (claims ++ alone_in l.vpc (take l.address-index l.addresses)) (alone_in l.vpc (drop l.address-index l.addresses)) ≡ address_clashes claims (alone_in l.vpc l.addresses);
}

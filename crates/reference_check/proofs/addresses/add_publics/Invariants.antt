use Rattle.std.proofs.Common.{◌++◌, ◌==◌, ◌≡◌, drop}
use Rattle.std.specs.List.{filter_map}
use Rattle.vpc_model.specs.Accepted.{repeats_after}
use Rattle.reference_check.proofs.addresses.add_publics.Given as goal

abbrev pub invariant-loop-public : goal.invariant-loop-public
invariant-loop-public l = record {
  rest : repeats_after (λ a b. a == b) l.publics (filter_map (λ x. x.1) (drop l.public-index l.addresses)) ≡ repeats_after (λ a b. a == b) l.fn.publics (filter_map (λ x. x.1) l.addresses);
  all : l.publics ++ filter_map (λ x. x.1) (drop l.public-index l.addresses) ≡ l.fn.publics ++ filter_map (λ x. x.1) l.addresses;
}

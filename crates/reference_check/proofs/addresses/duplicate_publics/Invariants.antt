use Rattle.std.proofs.Common.{◌==◌, ◌≡◌, drop}
use Rattle.std.specs.List.{filter_map, flat_map}
use Rattle.vpc_model.specs.Accepted.{public_addresses, repeats, repeats_after}
use Rattle.reference_check.proofs.addresses.duplicate_publics.Given as goal

abbrev pub invariant-loop-interface : goal.invariant-loop-interface
invariant-loop-interface l =
    repeats_after (λ a b. a == b) l.publics (flat_map (λ e. filter_map (λ x. x.1) e.addresses) (drop l.interface-index l.d.interfaces)) ≡ repeats (λ a b. a == b) (public_addresses l.d)

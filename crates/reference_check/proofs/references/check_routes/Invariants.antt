use Rattle.std.proofs.Common.{◌≡◌, drop}
use Rattle.std.specs.List.{flat_map}
use Rattle.vpc_model.specs.Accepted.{missing_of_route}
use Rattle.reference_check.proofs.references.check_routes.Given as goal

abbrev pub invariant-loop-route : goal.invariant-loop-route
invariant-loop-route l = flat_map (missing_of_route l.rows l.t) (drop l.route-index l.route-items) ≡ flat_map (missing_of_route l.rows l.t) l.t.routes

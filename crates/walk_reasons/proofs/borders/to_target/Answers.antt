use Rattle.std.proofs.Common.{◌∙◌, ap, sym}
use Rattle.fabric.proofs.Routing.{eni-lies, nat-lies, peering-lies}
use Rattle.fabric.specs.Targets.{route_at}
use Rattle.vpc_laws.specs.Types.{Route}
use Rattle.vpc_model.specs.Lookup.{table_at}
use Rattle.walk_reasons.proofs.borders.to_target.Goals as goal

pub to_nat-requires-clause-nat : goal.to_nat-requires-clause-nat
to_nat-requires-clause-nat c =
    let d = c.args.f.now in
    let is = ap (λ (r : Route). r.target) (sym c.route_at.ensures) ∙ c.in-Nat.is in
    nat-lies d (table_at d c.args.t).vpc (route_at d c.args.t c.args.k).target c.in-Nat.field-0 c.target_number-in-Nat.result is c.requires.there c.target_number-in-Nat.ensures

pub to_peer-requires-clause-peering : goal.to_peer-requires-clause-peering
to_peer-requires-clause-peering c =
    let d = c.args.f.now in
    let is = ap (λ (r : Route). r.target) (sym c.route_at.ensures) ∙ c.in-Peer.is in
    peering-lies d (table_at d c.args.t).vpc (route_at d c.args.t c.args.k).target c.in-Peer.field-0 c.target_number-in-Peer.result is c.requires.there c.target_number-in-Peer.ensures

pub subnet_of-requires : goal.subnet_of-requires
subnet_of-requires c =
    let d = c.args.f.now in
    let is = ap (λ (r : Route). r.target) (sym c.route_at.ensures) ∙ c.in-Interface.is in
    eni-lies d (table_at d c.args.t).vpc (route_at d c.args.t c.args.k).target c.in-Interface.field-0 c.target_number-in-Interface.result is c.requires.there c.target_number-in-Interface.ensures

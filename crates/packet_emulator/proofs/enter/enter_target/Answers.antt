use Rattle.std.proofs.Common.{◌∙◌, ap, sym, ℕ}
use Rattle.fabric.proofs.Routing.{eni-lies}
use Rattle.fabric.specs.Targets.{route_at, target_number}
use Rattle.vpc_laws.specs.Types.{EniNo, Route}
use Rattle.vpc_model.specs.Lookup.{table_at}
use Rattle.vpc_model.specs.Step.Enter.{enter_interface, enter_target}
use Rattle.packet_emulator.proofs.enter.enter_target.Goals as goal

pub enter_interface-requires : goal.enter_interface-requires
enter_interface-requires c =
    let d = c.args.f.now in
    let is = ap (λ (r : Route). r.target) (sym c.route_at.ensures) ∙ c.in-Interface.is in
    eni-lies d (table_at d c.args.t).vpc (route_at d c.args.t c.args.k).target c.in-Interface.field-0 c.target_number.result is c.requires.there c.target_number.ensures

pub returns-in-Interface : goal.returns-in-Interface
returns-in-Interface c =
    let d = c.args.f.now in
    let h = c.args.h.now in
    let is = ap (λ (r : Route). r.target) (sym c.route_at.ensures) ∙ c.in-Interface.is in
    c.enter_interface.ensures
    ∙ ap (λ (n : ℕ). let e : EniNo = record { 0 = n } in enter_interface d h e) (c.target_number.ensures ∙ ap (target_number d) is)
    ∙ sym (ap (enter_target d c.args.v h c.args.t c.args.k) is)

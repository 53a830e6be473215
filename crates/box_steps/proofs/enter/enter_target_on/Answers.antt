use Rattle.std.proofs.Common.{◌∙◌, ap, refl, sym, ℕ}
use Rattle.fabric.proofs.Routing.{eni-lies}
use Rattle.fabric.specs.Targets.{route_at, target_number}
use Rattle.vpc_laws.specs.Types.{EniNo, Route}
use Rattle.vpc_model.specs.Firewalls.{firewall_of}
use Rattle.vpc_model.specs.Lookup.{host_of, table_at}
use Rattle.vpc_model.specs.Step.Enter.{enter_firewall, enter_host, enter_interface, enter_target}
use Rattle.vpc_model.specs.declared.rows.Target.TheVariants as targets
use Rattle.box_steps.proofs.RouterAnswers.{answers_by_one}
use Rattle.box_steps.proofs.enter.enter_target_on.Goals as goal
use Rattle.box_steps.specs.Cuts.{Standing}

pub enter_interface_on-requires-clause-eni : goal.enter_interface_on-requires-clause-eni
enter_interface_on-requires-clause-eni c =
    let d = c.args.f.now in
    let is = ap (λ (r : Route). r.target) (sym c.route_at.ensures) ∙ c.in-Interface.is in
    eni-lies d (table_at d c.args.t).vpc (route_at d c.args.t c.args.k).target c.in-Interface.field-0 c.target_number.result is c.requires.there c.target_number.ensures

pub returns-in-Local : goal.returns-in-Local
returns-in-Local c =
    let d = c.args.f.now in
    let v = c.args.v in
    let is = ap (λ (r : Route). r.target) (sym c.route_at.ensures) ∙ c.in-Local.is in
    answers_by_one (Standing d) (λ h g. enter_target d v h c.args.t c.args.k g) (route_at d c.args.t c.args.k).target targets.Local (λ h. enter_host d v h (host_of d v h.dst)) c.args.i.now c.enter_host_on.result is
    (λ h. refl) c.enter_host_on.ensures

pub returns-in-Interface : goal.returns-in-Interface
returns-in-Interface c =
    let d = c.args.f.now in
    let v = c.args.v in
    let e : EniNo = record { 0 = c.target_number.result } in
    let is = ap (λ (r : Route). r.target) (sym c.route_at.ensures) ∙ c.in-Interface.is in
    answers_by_one (Standing d) (λ h g. enter_target d v h c.args.t c.args.k g) (route_at d c.args.t c.args.k).target (targets.Interface c.in-Interface.field-0) (λ h. enter_interface d h e) c.args.i.now c.enter_interface_on.result is
    (λ h. ap (λ (k : ℕ). let e : EniNo = record { 0 = k } in enter_interface d h e) (c.target_number.ensures ∙ ap (target_number d) is)) c.enter_interface_on.ensures

pub returns-in-Other : goal.returns-in-Other
returns-in-Other c =
    let d = c.args.f.now in
    let v = c.args.v in
    let id = c.in-Other.id in
    let is = ap (λ (r : Route). r.target) (sym c.route_at.ensures) ∙ c.in-Other.is in
    answers_by_one (Standing d) (λ h g. enter_target d v h c.args.t c.args.k g) (route_at d c.args.t c.args.k).target (targets.Other id) (λ h. enter_firewall d h c.args.t c.args.k (firewall_of d v id)) c.args.i.now c.enter_firewall_on.result is
    (λ h. refl) c.enter_firewall_on.ensures

use Rattle.std.proofs.Common.{◌∙◌, ap, refl, sym, ℕ}
use Rattle.fabric.proofs.Routing.{eni-lies, nat-lies, peering-lies}
use Rattle.fabric.specs.Targets.{route_at, target_number}
use Rattle.vpc_laws.specs.Types.{EniNo, IgwNo, NatNo, PeerNo, Route, VpcNo}
use Rattle.vpc_model.specs.Far.{far_of_id}
use Rattle.vpc_model.specs.Lookup.{host_of, nat_at, peering_at, table_at}
use Rattle.vpc_model.specs.Step.Router.{to_host, to_interface, to_internet, to_nat, to_other, to_peer, to_target, to_transit}
use Rattle.vpc_model.specs.Transit.{attachment_for}
use Rattle.vpc_model.specs.declared.rows.Target.TheVariants as targets
use Rattle.box_steps.proofs.RouterAnswers.{answers_by_one}
use Rattle.box_steps.proofs.router.to_target_on.Goals as goal
use Rattle.box_steps.specs.Cuts.{Standing}

pub to_nat_on-requires-clause-nat : goal.to_nat_on-requires-clause-nat
to_nat_on-requires-clause-nat c =
    let d = c.args.f.now in
    let is = ap (λ (r : Route). r.target) (sym c.route_at.ensures) ∙ c.in-Nat.is in
    nat-lies d (table_at d c.args.t).vpc (route_at d c.args.t c.args.k).target c.in-Nat.field-0 c.target_number-in-Nat.result is c.requires.there c.target_number-in-Nat.ensures

pub to_peer_on-requires-clause-peering : goal.to_peer_on-requires-clause-peering
to_peer_on-requires-clause-peering c =
    let d = c.args.f.now in
    let is = ap (λ (r : Route). r.target) (sym c.route_at.ensures) ∙ c.in-Peer.is in
    peering-lies d (table_at d c.args.t).vpc (route_at d c.args.t c.args.k).target c.in-Peer.field-0 c.target_number-in-Peer.result is c.requires.there c.target_number-in-Peer.ensures

pub to_interface_on-requires-clause-eni : goal.to_interface_on-requires-clause-eni
to_interface_on-requires-clause-eni c =
    let d = c.args.f.now in
    let is = ap (λ (r : Route). r.target) (sym c.route_at.ensures) ∙ c.in-Interface.is in
    eni-lies d (table_at d c.args.t).vpc (route_at d c.args.t c.args.k).target c.in-Interface.field-0 c.target_number-in-Interface.result is c.requires.there c.target_number-in-Interface.ensures

pub returns-in-Local : goal.returns-in-Local
returns-in-Local c =
    let d = c.args.f.now in
    let s = c.args.s in
    let is = ap (λ (r : Route). r.target) (sym c.route_at.ensures) ∙ c.in-Local.is in
    answers_by_one (Standing d) (λ h g. to_target d s h c.args.t c.args.k g) (route_at d c.args.t c.args.k).target targets.Local (λ h. to_host d s h (host_of d c.vpc_of-v.result h.dst)) c.args.i.now c.to_local_on.result is
    (λ h. ap (λ (v : VpcNo). to_host d s h (host_of d v h.dst)) c.vpc_of-v.ensures.number) c.to_local_on.ensures

pub returns-in-Internet : goal.returns-in-Internet
returns-in-Internet c =
    let d = c.args.f.now in
    let s = c.args.s in
    let g : IgwNo = record { 0 = c.target_number.result } in
    let is = ap (λ (r : Route). r.target) (sym c.route_at.ensures) ∙ c.in-Internet.is in
    answers_by_one (Standing d) (λ h g. to_target d s h c.args.t c.args.k g) (route_at d c.args.t c.args.k).target (targets.Internet c.in-Internet.field-0) (λ h. to_internet d s h g) c.args.i.now c.to_internet_on.result is
    (λ h. ap (λ (k : ℕ). let g : IgwNo = record { 0 = k } in to_internet d s h g) (c.target_number.ensures ∙ ap (target_number d) is)) c.to_internet_on.ensures

pub returns-in-Nat : goal.returns-in-Nat
returns-in-Nat c =
    let d = c.args.f.now in
    let s = c.args.s in
    let n : NatNo = record { 0 = c.target_number-in-Nat.result } in
    let is = ap (λ (r : Route). r.target) (sym c.route_at.ensures) ∙ c.in-Nat.is in
    answers_by_one (Standing d) (λ h g. to_target d s h c.args.t c.args.k g) (route_at d c.args.t c.args.k).target (targets.Nat c.in-Nat.field-0) (λ h. to_nat d s h n (nat_at d n).life) c.args.i.now c.to_nat_on.result is
    (λ h. ap (λ (k : ℕ). let n : NatNo = record { 0 = k } in to_nat d s h n (nat_at d n).life) (c.target_number-in-Nat.ensures ∙ ap (target_number d) is)) c.to_nat_on.ensures

pub returns-in-Peer : goal.returns-in-Peer
returns-in-Peer c =
    let d = c.args.f.now in
    let s = c.args.s in
    let x : PeerNo = record { 0 = c.target_number-in-Peer.result } in
    let is = ap (λ (r : Route). r.target) (sym c.route_at.ensures) ∙ c.in-Peer.is in
    answers_by_one (Standing d) (λ h g. to_target d s h c.args.t c.args.k g) (route_at d c.args.t c.args.k).target (targets.Peer c.in-Peer.field-0) (λ h. to_peer d s h x (peering_at d x).pair) c.args.i.now c.to_peer_on.result is
    (λ h. ap (λ (k : ℕ). let x : PeerNo = record { 0 = k } in to_peer d s h x (peering_at d x).pair) (c.target_number-in-Peer.ensures ∙ ap (target_number d) is)) c.to_peer_on.ensures

pub returns-in-Interface : goal.returns-in-Interface
returns-in-Interface c =
    let d = c.args.f.now in
    let s = c.args.s in
    let e : EniNo = record { 0 = c.target_number-in-Interface.result } in
    let is = ap (λ (r : Route). r.target) (sym c.route_at.ensures) ∙ c.in-Interface.is in
    answers_by_one (Standing d) (λ h g. to_target d s h c.args.t c.args.k g) (route_at d c.args.t c.args.k).target (targets.Interface c.in-Interface.field-0) (λ h. to_interface d s h e) c.args.i.now c.to_interface_on.result is
    (λ h. ap (λ (k : ℕ). let e : EniNo = record { 0 = k } in to_interface d s h e) (c.target_number-in-Interface.ensures ∙ ap (target_number d) is)) c.to_interface_on.ensures

pub returns-in-Transit : goal.returns-in-Transit
returns-in-Transit c =
    let d = c.args.f.now in
    let s = c.args.s in
    let id = c.in-Transit.id in
    let is = ap (λ (r : Route). r.target) (sym c.route_at.ensures) ∙ c.in-Transit.is in
    answers_by_one (Standing d) (λ h g. to_target d s h c.args.t c.args.k g) (route_at d c.args.t c.args.k).target (targets.Transit id) (λ h. to_transit d s h c.args.t c.args.k (attachment_for d id s)) c.args.i.now c.to_transit_on.result is
    (λ h. refl) c.to_transit_on.ensures

pub returns-in-Other : goal.returns-in-Other
returns-in-Other c =
    let d = c.args.f.now in
    let s = c.args.s in
    let id = c.in-Other.id in
    let is = ap (λ (r : Route). r.target) (sym c.route_at.ensures) ∙ c.in-Other.is in
    answers_by_one (Standing d) (λ h g. to_target d s h c.args.t c.args.k g) (route_at d c.args.t c.args.k).target (targets.Other id) (λ h. to_other d s h c.args.t c.args.k id (far_of_id d id)) c.args.i.now c.to_other_on.result is
    (λ h. refl) c.to_other_on.ensures

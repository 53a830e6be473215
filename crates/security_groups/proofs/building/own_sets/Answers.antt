use Rattle.std.proofs.Common.{[], List, ap, arith, get_or, length, subst, ℕ}
use Rattle.vpc_laws.proofs.Lengths.{accepted_has_short_lists}
use Rattle.vpc_model.specs.Lookup.{group_at}
use Rattle.security_groups.specs.Resolved.{IsSetOf}
use Rattle.security_groups.proofs.IdPlaces.{id-at, own-place}
use Rattle.security_groups.proofs.SetLemmas.{own-many, own-vpc, until-all, until-next}
use Rattle.security_groups.proofs.building.own_sets.Goals as goal

pub overflow_cast-k : goal.overflow_cast-k
overflow_cast-k c =
    let many = own-many c.args.n.now c.args.named.now.naming.vpcs c.requires.naming.vpcs in
    let seen = ap length c.as_slice-own.ensures.value in
    let short = (accepted_has_short_lists c.args.n.now c.description.ensures.accepted).groups in
    omega arith

pub rules_in-requires-clause-group : goal.rules_in-requires-clause-group
rules_in-requires-clause-group c =
    let many = own-many c.args.n.now c.args.named.now.naming.vpcs c.requires.naming.vpcs in
    let seen = ap length c.as_slice-own.ensures.value in
    omega arith

pub rules_in-requires-clause-vpc : goal.rules_in-requires-clause-vpc
rules_in-requires-clause-vpc c =
    let d = c.args.n.now in
    let vpcs = c.args.named.now.naming.vpcs in
    let many = own-many d vpcs c.requires.naming.vpcs in
    let seen = ap length c.as_slice-own.ensures.value in
    own-place vpcs.ids (group_at d (record { 0 = c.loop-k.k })).vpc (get_or c.as_slice-own.result.now c.loop-k.k 0) (own-vpc d vpcs c.loop-k.k c.as_slice-own.result.now c.requires.naming.vpcs (omega arith) c.as_slice-own.ensures.value)

pub loop-k-preserved : goal.loop-k-preserved
loop-k-preserved c =
    let d = c.args.n.now in
    let vpcs = c.args.named.now.naming.vpcs in
    let k = c.loop-k.k in
    let row = group_at d (record { 0 = k }) in
    let many = own-many d vpcs c.requires.naming.vpcs in
    let seen = ap length c.as_slice-own.ensures.value in
    let own = get_or c.as_slice-own.result.now k 0 in
    let at = own-vpc d vpcs k c.as_slice-own.result.now c.requires.naming.vpcs (omega arith) c.as_slice-own.ensures.value in
    until-next d c.loop-k.sets.items c.push.new.self.items k c.in_ok-rules_in.field-0 c.loop-k.invariant
    (subst (λ (v : List ℕ). IsSetOf d k v c.in_ok-rules_in.field-0) (id-at vpcs.ids row.vpc [] own at) c.in_ok-rules_in.ensures) c.in_ok-push.ensures.items

pub returns : goal.returns
returns c =
    let many = own-many c.args.n.now c.args.named.now.naming.vpcs c.requires.naming.vpcs in
    let seen = ap length c.as_slice-own.ensures.value in
    until-all c.args.n.now c.loop-k.sets.items c.loop-k.k c.loop-k.invariant (omega arith)

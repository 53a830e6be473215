use Rattle.std.proofs.Common.{Contains, List, arith, get_or, subst, take, ℕ}
use Rattle.std.proofs.lemmas.List.{get_or_default}
use Rattle.vpc_base.proofs.Members.{row_has}
use Rattle.vpc_base.proofs.Zips.{zip_next}
use Rattle.vpc_model.specs.Groups.{vpc_of_rules}
use Rattle.vpc_model.specs.Lookup.{group_at}
use Rattle.security_groups.specs.Sets.{IsSetFor}
use Rattle.security_groups.proofs.IdPlaces.{zip-weaker}
use Rattle.security_groups.proofs.SetLemmas.{group-within, set-kept}
use Rattle.security_groups.proofs.sets.sets_of.Goals as goal

pub set_of-requires-clause-group : goal.set_of-requires-clause-group
set_of-requires-clause-group c =
    let groups = c.args.groups.now in
    let i = c.loop-group.group-index in
    let g = get_or groups i 0 in
    let has = row_has groups i g (omega arith) (get_or_default groups i 0 g (omega arith)) in
    group-within c.args.n.now c.args.interface.now g (subst (λ (ns : List ℕ). Contains ns g) c.requires.groups has)

pub loop-group-preserved : goal.loop-group-preserved
loop-group-preserved c =
    let d = c.args.n.now in
    let ids = c.args.vpcs.now.ids in
    let e = c.args.interface.now in
    let groups = c.args.groups.now in
    let i = c.loop-group.group-index in
    let g = get_or groups i 0 in
    let old = c.loop-group.further in
    let new = c.set_of.new.further in
    let before = zip-weaker (IsSetFor d ids old e) (IsSetFor d ids new e) (λ x s. set-kept d ids old new s x (vpc_of_rules d e (group_at d (record { 0 = x }))) c.in_ok-set.ensures.kept) (take i groups) c.loop-group.sets.items c.loop-group.invariant.sets in
    record {
      kept = λ k key at. c.in_ok-set.ensures.kept k key (c.loop-group.invariant.kept k key at);
      keys = c.in_ok-set.ensures.keys;
      sets = zip_next (IsSetFor d ids new e) groups c.loop-group.sets.items c.push.new.self.items i g c.in_ok-set.set (omega arith) (get_or_default groups i 0 g (omega arith)) before c.in_ok-set.ensures.set c.in_ok-push.ensures.items;
    }

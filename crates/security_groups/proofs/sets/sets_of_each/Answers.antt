use Rattle.std.proofs.Common.{◌≡◌, ◌∙◌, List, ap, arith, get_or, subst, sym, take, ℕ}
use Rattle.std.specs.List.{AllZip}
use Rattle.std.proofs.lemmas.List.{get_or-map}
use Rattle.vpc_base.proofs.Zips.{zip_next}
use Rattle.vpc_model.specs.declared.rows.Description.{Description}
use Rattle.vpc_model.specs.declared.rows.Interface.{Interface}
use Rattle.security_groups.specs.Members.{groups_with}
use Rattle.security_groups.specs.Sets.{IsSetFor}
use Rattle.security_groups.proofs.SetLemmas.{sets-before}
use Rattle.security_groups.proofs.Steps.{read_from}
use Rattle.security_groups.proofs.sets.sets_of_each.Goals as goal

pub loop-k-preserved : goal.loop-k-preserved
loop-k-preserved c =
    let d = c.args.n.now in
    let ids = c.args.vpcs.now.ids in
    let k = c.loop-k.k in
    let e = c.interface-item.result in
    let old = c.loop-k.further in
    let new = c.sets_of.new.further in
    let all = c.as_slice-interface-items.ensures ∙ ap (λ (x : Description). x.interfaces) c.description.ensures.value in
    let at = read_from c.as_slice-interface-items.result.now d.interfaces k e all (omega arith) c.interface-item.is in
    let named = c.index-interfaces-k.result in
    let groups : c.as_slice.result.now ≡ groups_with d e =
    c.as_slice.ensures
    ∙ c.index-interfaces-k.is
    ∙ ap (λ (l : List (List ℕ)). get_or l k named) c.requires.groups
    ∙ get_or-map (groups_with d) d.interfaces k e named at.0
    ∙ ap (groups_with d) (sym at.1) in
    record {
      keys = c.in_ok-sets.ensures.keys;
      sets = zip_next (λ (x : Interface) (ns : List ℕ). AllZip (IsSetFor d ids new x) (groups_with d x) ns) d.interfaces c.loop-k.all.items c.push.new.self.items k e c.in_ok-sets.sets at.0 at.1
          (sets-before d ids old new (take k d.interfaces) c.loop-k.all.items c.in_ok-sets.ensures.kept c.loop-k.invariant.sets)
          (subst (λ (gs : List ℕ). AllZip (IsSetFor d ids new e) gs c.in_ok-sets.sets) groups c.in_ok-sets.ensures.sets) c.in_ok-push.ensures.items;
    }

use Rattle.std.proofs.Common.{◌∙◌, [], List, ap, arith, length, refl, slice_index_or, subst}
use Rattle.vpc_base.proofs.Members.{row_has}
use Rattle.vpc_base.specs.declared.headers.Dir.TheVariants as dirs
use Rattle.vpc_laws.proofs.Lengths.{accepted_has_short_lists}
use Rattle.vpc_model.specs.Lookup.{no_group}
use Rattle.vpc_model.specs.declared.rows.Description.{Description}
use Rattle.vpc_model.specs.declared.rows.Group.{Group}
use Rattle.vpc_model.specs.declared.rows.Permission.{Permission}
use Rattle.security_groups.specs.Resolved.{HasRulesIn}
use Rattle.security_groups.proofs.Steps.{row_is}
use Rattle.security_groups.proofs.building.rules_in.Goals as goal

pub table_of-requires-clause-counted : goal.table_of-requires-clause-counted
table_of-requires-clause-counted c =
    let d = c.args.n.now in
    let row = c.index-as_slice-group.result in
    let all = c.as_slice.ensures ∙ ap (λ (x : Description). x.groups) c.description.ensures.value in
    let is = row_is c.as_slice.result.now d.groups c.args.group row row all c.requires.group c.index-as_slice-group.is in
    let short = (accepted_has_short_lists d c.description.ensures.accepted).inward_of_group row (row_has d.groups c.args.group row c.requires.group is) in
    let long = ap length c.as_slice-2.ensures in
    omega arith

pub table_of-requires-2-clause-counted : goal.table_of-requires-2-clause-counted
table_of-requires-2-clause-counted c =
    let d = c.args.n.now in
    let row = c.index-as_slice-group.result in
    let all = c.as_slice.ensures ∙ ap (λ (x : Description). x.groups) c.description.ensures.value in
    let is = row_is c.as_slice.result.now d.groups c.args.group row row all c.requires.group c.index-as_slice-group.is in
    let short = (accepted_has_short_lists d c.description.ensures.accepted).outward_of_group row (row_has d.groups c.args.group row c.requires.group is) in
    let long = ap length c.as_slice-3.ensures in
    omega arith

pub returns : goal.returns
returns c =
    let d = c.args.n.now in
    let vpc = slice_index_or c.args.named.now.naming.vpcs.ids c.args.vpc [] in
    let row = c.index-as_slice-group.result in
    let all = c.as_slice.ensures ∙ ap (λ (x : Description). x.groups) c.description.ensures.value in
    let is = row_is c.as_slice.result.now d.groups c.args.group row no_group all c.requires.group c.index-as_slice-group.is in
    record {
      group = refl;
      inward = subst (λ (ps : List Permission). HasRulesIn d dirs.Inward vpc ps c.in_ok-inward.inward) (c.as_slice-2.ensures ∙ ap (λ (g : Group). g.inward) is) c.in_ok-inward.ensures;
      outward = subst (λ (ps : List Permission). HasRulesIn d dirs.Outward vpc ps c.in_ok-outward.outward) (c.as_slice-3.ensures ∙ ap (λ (g : Group). g.outward) is) c.in_ok-outward.ensures;
    }

use Rattle.std.proofs.Common.{◌∙◌, All, AllPairs, List, subst, sym}
use Rattle.vpc_base.proofs.Results.{if_ok}
use Rattle.header_boxes.specs.Boxes.{AreDisjoint, IsValid}
use Rattle.header_boxes.specs.declared.boxes.Box5.{Box5}
use Rattle.changed_ends.proofs.BoxLemmas.{boxes_at-as, boxes_at-disjoint, boxes_at-valid}
use Rattle.changed_ends.proofs.boxes.boxes_at.Goals as goal

pub returns-clause-value : goal.returns-clause-value
returns-clause-value c =
    if_ok _ _ c.boxes_between.result
    (λ v is. is ∙ boxes_at-as c.args.compared.now c.args.targets.now c.args.start c.before-2.result.now c.after.result.now c.query.result.now c.as_slice.result.now
    c.before-2.ensures c.after.ensures c.query.ensures (c.as_slice.ensures.value ∙ c.in_ok-sources.ensures))
    c.boxes_between.ensures

pub returns-clause-valid : goal.returns-clause-valid
returns-clause-valid c =
    if_ok _ _ c.boxes_between.result
    (λ v is. subst (λ (l : List Box5). All IsValid l)
    (sym (is ∙ boxes_at-as c.args.compared.now c.args.targets.now c.args.start c.before-2.result.now c.after.result.now c.query.result.now c.as_slice.result.now
    c.before-2.ensures c.after.ensures c.query.ensures (c.as_slice.ensures.value ∙ c.in_ok-sources.ensures)))
    (boxes_at-valid c.args.compared.now c.args.targets.now c.args.start c.requires.pairs c.requires.targets))
    c.boxes_between.ensures

pub returns-clause-disjoint : goal.returns-clause-disjoint
returns-clause-disjoint c =
    if_ok _ _ c.boxes_between.result
    (λ v is. subst (λ (l : List Box5). AllPairs AreDisjoint l)
    (sym (is ∙ boxes_at-as c.args.compared.now c.args.targets.now c.args.start c.before-2.result.now c.after.result.now c.query.result.now c.as_slice.result.now
    c.before-2.ensures c.after.ensures c.query.ensures (c.as_slice.ensures.value ∙ c.in_ok-sources.ensures)))
    (boxes_at-disjoint c.args.compared.now c.args.targets.now c.args.start c.requires.pairs c.requires.targets))
    c.boxes_between.ensures

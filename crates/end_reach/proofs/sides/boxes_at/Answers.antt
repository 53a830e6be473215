use Rattle.std.proofs.Common.{◌≡◌, All, AllPairs, List, map, subst, sym}
use Rattle.vpc_base.proofs.Results.{if_ok}
use Rattle.header_boxes.specs.Boxes.{AreDisjoint, IsValid}
use Rattle.header_boxes.specs.declared.boxes.Box5.{Box5}
use Rattle.listing_text.specs.Sides.{sides_between}
use Rattle.end_reach.proofs.SideLemmas.{some_disjoint, some_valid}
use Rattle.end_reach.proofs.sides.boxes_at.Goals as goal

pub returns-in-Some-clause-valid : goal.returns-in-Some-clause-valid
returns-in-Some-clause-valid c =
    let q = c.args.query.now in
    if_ok (λ v. v.items ≡ map (sides_between q.pairs c.in-Some.src) c.args.targets.now) (λ v. All IsValid v.items) c.boxes_to.result
    (λ v is. subst (λ (l : List Box5). All IsValid l) (sym is) (some_valid c.args.n.now q.pairs q.goal c.args.targets.now c.in-Some.src c.requires.pairs c.requires.targets c.in-Some.ensures.some)) c.boxes_to.ensures

pub returns-in-Some-clause-disjoint : goal.returns-in-Some-clause-disjoint
returns-in-Some-clause-disjoint c =
    let q = c.args.query.now in
    if_ok (λ v. v.items ≡ map (sides_between q.pairs c.in-Some.src) c.args.targets.now) (λ v. AllPairs AreDisjoint v.items) c.boxes_to.result
    (λ v is. subst (λ (l : List Box5). AllPairs AreDisjoint l) (sym is) (some_disjoint c.args.n.now q.pairs q.goal c.args.targets.now c.in-Some.src c.requires.pairs c.requires.targets)) c.boxes_to.ensures

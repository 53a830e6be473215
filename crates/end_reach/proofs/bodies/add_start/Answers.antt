use Rattle.std.proofs.Common.{◌-◌, refl, subst}
use Rattle.vpc_base.proofs.Results.{on_ok_three}
use Rattle.listing_text.specs.Bodies.{IsGatheredFrom}
use Rattle.listing_text.specs.Bodies as bodies
use Rattle.ordered_cover.specs.declared.rows.Gathered.{Gathered}
use Rattle.vpc_laws.specs.Types.{Description, End}
use Rattle.vpc_model.specs.Accepted.{IsAccepted}
use Rattle.end_reach.specs.Told.{wanted}
use Rattle.end_reach.proofs.BodyLemmas.{count-as, ends-as, lines-as, part-ends, whole-ends}
use Rattle.end_reach.proofs.bodies.add_start.Goals as goal

pub add_rows-requires-clause-ends : goal.add_rows-requires-clause-ends
add_rows-requires-clause-ends g c =
    let d = c.args.f.now in
    let q = c.args.asked.now.query.now in
    let room = q.pairs.max - c.args.body.now.count in
    ends-as d c.network-in-All.result.now c.args.start c.in-All.rows.items c.as_slice.result.now c.network-in-All.ensures c.as_slice.ensures.value c.args.body.now.text.items c.args.body.now.text.items 0 0
    (whole-ends d q c.args.asked.now.targets.now c.args.start (subst (λ (x : Description). IsAccepted x) c.network.ensures c.description.ensures.accepted) c.requires.start c.requires.ends c.in-All.rows.items room
    (subst (λ (x : Gathered End). IsGatheredFrom (wanted d q c.args.asked.now.targets.now) c.args.start room x) c.in-All.is c.in_ok-rows.ensures.gathered))

pub add_rows-requires-in-More-clause-ends : goal.add_rows-requires-in-More-clause-ends
add_rows-requires-in-More-clause-ends g c =
    let d = c.args.f.now in
    let q = c.args.asked.now.query.now in
    let room = q.pairs.max - c.args.body.now.count in
    ends-as d c.network-in-More.result.now c.args.start c.in-More.rows.items c.as_slice-in-More.result.now c.network-in-More.ensures c.as_slice-in-More.ensures.value c.args.body.now.text.items c.args.body.now.text.items 0 0
    (part-ends d q c.args.asked.now.targets.now c.args.start (subst (λ (x : Description). IsAccepted x) c.network.ensures c.description.ensures.accepted) c.requires.start c.requires.ends c.in-More.rows.items c.in-More.next room
    (subst (λ (x : Gathered End). IsGatheredFrom (wanted d q c.args.asked.now.targets.now) c.args.start room x) c.in-More.is c.in_ok-rows.ensures.gathered))

pub returns-in-All-clause-added : goal.returns-in-All-clause-added
returns-in-All-clause-added g c =
    let d = c.args.f.now in
    let q = c.args.asked.now.query.now in
    let old = c.args.body.now in
    let room = q.pairs.max - old.count in
    on_ok_three _ _ _ _ c.add_rows.result
    (λ lines count next.
    bodies.added_all c.in-All.rows.items (subst (λ (x : Gathered End). IsGatheredFrom (wanted d q c.args.asked.now.targets.now) c.args.start room x) c.in-All.is c.in_ok-rows.ensures.gathered)
    (lines-as d c.network-in-All.result.now c.args.start c.in-All.rows.items c.as_slice.result.now c.network-in-All.ensures c.as_slice.ensures.value old.text.items c.add_rows.new.body.text.items old.count c.add_rows.new.body.count lines)
    (count-as d c.network-in-All.result.now c.args.start c.in-All.rows.items c.as_slice.result.now c.network-in-All.ensures c.as_slice.ensures.value old.text.items c.add_rows.new.body.text.items old.count c.add_rows.new.body.count count)
    next)
    c.add_rows.ensures.lines c.add_rows.ensures.count c.add_rows.ensures.next

pub returns-in_ok-add_rows-in-More-clause-added : goal.returns-in_ok-add_rows-in-More-clause-added
returns-in_ok-add_rows-in-More-clause-added g c =
    let d = c.args.f.now in
    let q = c.args.asked.now.query.now in
    let old = c.args.body.now in
    let new = c.add_rows-in-More.new.body in
    let room = q.pairs.max - old.count in
    let told = c.in_ok-add_rows-in-More.ensures in
    bodies.added_part c.in-More.rows.items c.in-More.next (subst (λ (x : Gathered End). IsGatheredFrom (wanted d q c.args.asked.now.targets.now) c.args.start room x) c.in-More.is c.in_ok-rows.ensures.gathered)
    (lines-as d c.network-in-More.result.now c.args.start c.in-More.rows.items c.as_slice-in-More.result.now c.network-in-More.ensures c.as_slice-in-More.ensures.value old.text.items new.text.items old.count new.count told.lines)
    (count-as d c.network-in-More.result.now c.args.start c.in-More.rows.items c.as_slice-in-More.result.now c.network-in-More.ensures c.as_slice-in-More.ensures.value old.text.items new.text.items old.count new.count told.count)
    refl

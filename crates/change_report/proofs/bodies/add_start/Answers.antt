use Rattle.std.proofs.Common.{refl, subst}
use Rattle.vpc_base.proofs.Results.{on_ok_three}
use Rattle.journey_changes.specs.declared.changes.Change.{Change}
use Rattle.listing_text.specs.Bodies.{IsGatheredFrom}
use Rattle.listing_text.specs.Bodies as bodies
use Rattle.ordered_cover.specs.declared.rows.Gathered.{Gathered}
use Rattle.vpc_laws.specs.Types.{Description}
use Rattle.vpc_model.specs.Accepted.{IsAccepted}
use Rattle.changed_ends.specs.Asked.{Comparison}
use Rattle.change_report.specs.Told.{wanted}
use Rattle.change_report.proofs.BodyLemmas.{count-same, lines-same, part-room, whole-room}
use Rattle.change_report.proofs.RowLemmas.{part_is_tellable, whole_is_tellable}
use Rattle.change_report.proofs.bodies.add_start.Goals as goal

pub add_rows-requires-clause-told : goal.add_rows-requires-clause-told
add_rows-requires-clause-told g c =
    let all : Comparison = c.args.compared.now in
    let room = c.room_after-room.result in
    whole_is_tellable all c.args.targets.now c.args.start
    (subst (λ (x : Description). IsAccepted x) c.before-2.ensures c.description.ensures.accepted)
    (subst (λ (x : Description). IsAccepted x) c.after.ensures c.description-2.ensures.accepted)
    c.requires.ends c.requires.start c.in-All.rows.items c.as_slice.result.now room c.as_slice.ensures.value
    (subst (λ (x : Gathered Change). IsGatheredFrom (wanted all c.args.targets.now) c.args.start room x) c.in-All.is c.in_ok-rows.ensures.gathered)

pub add_rows-requires-in-More-clause-told : goal.add_rows-requires-in-More-clause-told
add_rows-requires-in-More-clause-told g c =
    let all : Comparison = c.args.compared.now in
    let room = c.room_after-room.result in
    part_is_tellable all c.args.targets.now c.args.start
    (subst (λ (x : Description). IsAccepted x) c.before-2.ensures c.description.ensures.accepted)
    (subst (λ (x : Description). IsAccepted x) c.after.ensures c.description-2.ensures.accepted)
    c.requires.ends c.requires.start c.in-More.rows.items c.as_slice-in-More.result.now c.in-More.next room c.as_slice-in-More.ensures.value
    (subst (λ (x : Gathered Change). IsGatheredFrom (wanted all c.args.targets.now) c.args.start room x) c.in-More.is c.in_ok-rows.ensures.gathered)

pub returns-in-All-clause-added : goal.returns-in-All-clause-added
returns-in-All-clause-added g c =
    let all : Comparison = c.args.compared.now in
    let old = c.args.body.now in
    let room = c.room_after-room.result in
    on_ok_three _ _ _ _ c.add_rows.result
    (λ lines count next.
    bodies.added_all c.in-All.rows.items
    (whole-room all c.args.targets.now c.args.start c.in-All.rows.items room old.count c.room_after-room.ensures
    (subst (λ (x : Gathered Change). IsGatheredFrom (wanted all c.args.targets.now) c.args.start room x) c.in-All.is c.in_ok-rows.ensures.gathered))
    (lines-same all c.args.start c.in-All.rows.items c.as_slice.result.now c.as_slice.ensures.value old.text.items c.add_rows.new.body.text.items old.count c.add_rows.new.body.count lines)
    (count-same all c.args.start c.in-All.rows.items c.as_slice.result.now c.as_slice.ensures.value old.text.items c.add_rows.new.body.text.items old.count c.add_rows.new.body.count count)
    next)
    c.add_rows.ensures.lines c.add_rows.ensures.count c.add_rows.ensures.next

pub returns-in_ok-add_rows-in-More-clause-added : goal.returns-in_ok-add_rows-in-More-clause-added
returns-in_ok-add_rows-in-More-clause-added g c =
    let all : Comparison = c.args.compared.now in
    let old = c.args.body.now in
    let new = c.add_rows-in-More.new.body in
    let room = c.room_after-room.result in
    let told = c.in_ok-add_rows-in-More.ensures in
    bodies.added_part c.in-More.rows.items c.in-More.next
    (part-room all c.args.targets.now c.args.start c.in-More.rows.items room old.count c.room_after-room.ensures c.in-More.next
    (subst (λ (x : Gathered Change). IsGatheredFrom (wanted all c.args.targets.now) c.args.start room x) c.in-More.is c.in_ok-rows.ensures.gathered))
    (lines-same all c.args.start c.in-More.rows.items c.as_slice-in-More.result.now c.as_slice-in-More.ensures.value old.text.items new.text.items old.count new.count told.lines)
    (count-same all c.args.start c.in-More.rows.items c.as_slice-in-More.result.now c.as_slice-in-More.ensures.value old.text.items new.text.items old.count new.count told.count)
    refl

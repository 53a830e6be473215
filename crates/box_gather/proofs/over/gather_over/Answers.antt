use Rattle.std.proofs.Common.{◌≡◌, ◌+◌, List, rules, subst, take}
use Rattle.std.proofs.lemmas.List.{get_or_default}
use Rattle.header_boxes.specs.declared.boxes.Box5.{Box5}
use Rattle.box_gather.specs.Pile.{IsPile}
use Rattle.box_gather.proofs.Trims.{all_taken, few_all, few_taken, gathered_over, pile_from_gathered, pile_more, pile_shortened, pile_trimmed}
use Rattle.box_gather.proofs.over.gather_over.Goals as goal

pub loop-part-preserved : goal.loop-part-preserved
loop-part-preserved g c =
    let meaning = g.P.Probe.meaning c.args.p.now in
    let cuts = g.P.Probe.cuts c.args.p.now in
    let boxes = c.args.boxes.now in
    let k = c.loop-part.part-index in
    let part = pile_from_gathered meaning cuts _ c.args.room c.in_ok-more.more c.pile_of.result.rows.items c.pile_of.result.next c.in_ok-more.ensures c.pile_of.ensures in
    pile_shortened meaning cuts (take (k + 1) boxes) c.args.room c.join.new.self.rows.items c.shorten.new.self.rows.items c.join.new.self.next c.shorten.new.self.next (few_taken boxes c.requires.disjoint (k + 1))
    (pile_more meaning cuts boxes c.args.room k _ c.loop-part.pile.rows.items c.pile_of.result.rows.items c.join.new.self.rows.items c.loop-part.pile.next c.pile_of.result.next c.join.new.self.next c.requires.disjoint
    (search rules) (get_or_default boxes k _ _ (search rules)) c.loop-part.invariant part c.in_ok-join.ensures.next c.in_ok-join.ensures.rows)
    c.shorten.ensures

pub returns : goal.returns
returns g c =
    let meaning = g.P.Probe.meaning c.args.p.now in
    let boxes = c.args.boxes.now in
    let upto = c.loop-part-test.false in
    let within = c.loop-part.auto.part-index-end in
    let all : take c.loop-part.part-index boxes ≡ boxes = all_taken boxes c.loop-part.part-index upto within in
    let cuts = g.P.Probe.cuts c.args.p.now in
    gathered_over meaning cuts c.args.boxes.now c.args.room c.gathered.result c.trim.new.self.rows.items c.trim.new.self.next (few_all c.args.boxes.now c.requires.disjoint)
    (pile_trimmed meaning cuts c.args.boxes.now c.args.room c.loop-part.pile.rows.items c.trim.new.self.rows.items c.loop-part.pile.next c.trim.new.self.next (few_all c.args.boxes.now c.requires.disjoint)
    (subst (λ (l : List Box5). IsPile meaning cuts l c.args.room c.loop-part.pile.rows.items c.loop-part.pile.next) all c.loop-part.invariant) c.trim.ensures)
    c.gathered.ensures

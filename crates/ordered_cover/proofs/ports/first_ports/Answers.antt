use Rattle.std.proofs.Common.{◌<◌, ◌∙◌, not, ap, arith, subst}
use Rattle.vpc_base.specs.declared.headers.Header.{Header}
use Rattle.header_boxes.specs.Boxes.{low_of}
use Rattle.header_boxes.proofs.Held.{valid_if_within, within_trans}
use Rattle.ordered_cover.specs.Passed.{ahead}
use Rattle.ordered_cover.proofs.Passing.{ahead_falls, asking_at_start, asking_next, decided_closed, decided_open}
use Rattle.ordered_cover.proofs.ports.first_ports.Goals as goal

pub asked-init : goal.asked-init
asked-init g c = asking_at_start c.requires

pub probe-word-requires : goal.probe-word-requires
probe-word-requires g c = valid_if_within c.asked.asked c.args.sides c.asked.invariant.within

pub returns-then-is_none : goal.returns-then-is_none
returns-then-is_none g c =
    let e = c.probe-word.ensures in
    decided_open c.asked.invariant e.within e.low e.means (c.is_none.ensures ∙ ap not c.if-is_none.true)

pub after-requires : goal.after-requires
after-requires g c = within_trans c.probe-word.result.0 c.asked.asked c.args.sides c.probe-word.ensures.within c.asked.invariant.within

pub asked-smaller : goal.asked-smaller
asked-smaller g c =
    let part = c.probe-word.result.0 in
    let within = within_trans part c.asked.asked c.args.sides c.probe-word.ensures.within c.asked.invariant.within in
    subst (λ (h : Header). ahead c.args.sides (low_of c.in-Some.next) < ahead c.args.sides h) c.probe-word.ensures.low
    (rw c.in-Some.is at (ahead_falls (omega arith) (omega arith) (omega arith) within c.after.ensures))

pub asked-preserved : goal.asked-preserved
asked-preserved g c =
    let e = c.probe-word.ensures in
    rw c.in-Some.is at (asking_next c.asked.invariant e.within e.low e.means (c.is_none.ensures ∙ ap not c.if-is_none.false) c.after.ensures)

pub returns-in-None : goal.returns-in-None
returns-in-None g c =
    let e = c.probe-word.ensures in
    decided_closed c.asked.invariant e.within e.low e.means (c.is_none.ensures ∙ ap not c.if-is_none.false) c.after.ensures c.in-None.is

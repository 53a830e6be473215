use Rattle.std.proofs.Common.{List, arith, length, subst, sym, ℕ}
use Rattle.std.specs.Prelude.{All}
use Rattle.std.proofs.lemmas.List.{take_all}
use Rattle.header_boxes.specs.Boxes.{IsValid}
use Rattle.header_boxes.specs.declared.rows.Row.{Row}
use Rattle.listing_check.proofs.Counted.{item_is, length-listed, rows-upto}
use Rattle.listing_check.proofs.Starts.{found_if_passed, none_passed, overlap_room, overlap_step, passed_step, step_at, untrue_room}
use Rattle.listing_check.specs.Asked.{listed_of}
use Rattle.listing_check.specs.Found.{IsFound}
use Rattle.listing_check.specs.declared.looks.Look.TheVariants as looks
use Rattle.listing_check.proofs.found.check_lists.Goals as goal

pub loop-list-init : goal.loop-list-init
loop-list-init g c = rw c.none-passed.ensures (none_passed (listed_of (g.Q.Question.asked c.args.q.now) c.args.lists.now))

pub look-requires-clause-start : goal.look-requires-clause-start
look-requires-clause-start g c =
    let count = c.requires.count in
    let starts = c.loop-list.invariant.starts in
    omega (arith, count, starts)

pub look-requires-clause-rows : goal.look-requires-clause-rows
look-requires-clause-rows g c =
    let lists = c.args.lists.now in
    let k = c.loop-list.list-index in
    let rows = c.as_slice-rows.result.now in
    let at = item_is lists k c.list-item.result rows (omega arith) c.as_slice-rows.ensures c.list-item.is in
    subst (λ (xs : List (Row (List ℕ))). All (λ (r : Row (List ℕ)). IsValid r.part) xs) (sym at) (c.requires.valid k rows (omega arith))

pub look-requires-clause-few : goal.look-requires-clause-few
look-requires-clause-few g c =
    let lists = c.args.lists.now in
    let k = c.loop-list.list-index in
    let rows = c.as_slice-rows.result.now in
    let at = item_is lists k c.list-item.result rows (omega arith) c.as_slice-rows.ensures c.list-item.is in
    let upto = rows-upto (g.Q.Question.asked c.args.q.now) lists k rows c.requires.count (omega arith) at c.requires.few in
    omega (arith, upto)

pub returns-in-Overlap : goal.returns-in-Overlap
returns-in-Overlap g c =
    let asked = g.Q.Question.asked c.args.q.now in
    let lists = c.args.lists.now in
    let step = step_at asked lists c.loop-list.list-index c.loop-list.passed c.list-item.result c.as_slice-rows.result.now _ (looks.Overlap c.in-Overlap.i c.in-Overlap.j) c.requires.count c.requires.few (omega arith) c.as_slice-rows.ensures c.list-item.is c.loop-list.invariant c.in_ok-i.ensures c.in-Overlap.is in
    overlap_step (listed_of asked lists) c.loop-list.list-index c.loop-list.passed c.as_slice-rows.result.now c.in-Overlap.i c.in-Overlap.j c.loop-list.invariant step

pub loop-list-preserved : goal.loop-list-preserved
loop-list-preserved g c =
    let asked = g.Q.Question.asked c.args.q.now in
    let lists = c.args.lists.now in
    let step = step_at asked lists c.loop-list.list-index c.loop-list.passed c.list-item.result c.as_slice-rows.result.now _ (looks.Apart c.in-Apart.untrue c.in-Apart.unlisted) c.requires.count c.requires.few (omega arith) c.as_slice-rows.ensures c.list-item.is c.loop-list.invariant c.in_ok-i.ensures c.in-Apart.is in
    passed_step (listed_of asked lists) c.loop-list.list-index c.loop-list.passed c.with-passed.result c.as_slice-rows.result.now c.in-Apart.untrue c.in-Apart.unlisted c.loop-list.invariant step
    c.with-passed.ensures.starts c.with-passed.ensures.rows c.with-passed.ensures.untrue c.with-passed.ensures.left_out

pub returns : goal.returns
returns g c =
    let asked = g.Q.Question.asked c.args.q.now in
    let listed = listed_of asked c.args.lists.now in
    let p = c.loop-list.passed in
    let count = length-listed asked c.args.lists.now c.requires.count in
    subst (IsFound listed) (sym c.found.ensures) (found_if_passed listed c.loop-list.list-index p (take_all c.loop-list.list-index listed (omega (arith, count))) c.loop-list.invariant)

pub overflow_add-result-in-Overlap : goal.overflow_add-result-in-Overlap
overflow_add-result-in-Overlap g c =
    let asked = g.Q.Question.asked c.args.q.now in
    let lists = c.args.lists.now in
    let step = step_at asked lists c.loop-list.list-index c.loop-list.passed c.list-item.result c.as_slice-rows.result.now _ (looks.Overlap c.in-Overlap.i c.in-Overlap.j) c.requires.count c.requires.few (omega arith) c.as_slice-rows.ensures c.list-item.is c.loop-list.invariant c.in_ok-i.ensures c.in-Overlap.is in
    let room = overlap_room (listed_of asked lists) c.loop-list.list-index c.loop-list.passed c.as_slice-rows.result.now c.in-Overlap.i c.in-Overlap.j step in
    omega (arith, room.0, room.1)

pub overflow_add-result-in-Overlap-2 : goal.overflow_add-result-in-Overlap-2
overflow_add-result-in-Overlap-2 g c =
    let asked = g.Q.Question.asked c.args.q.now in
    let lists = c.args.lists.now in
    let step = step_at asked lists c.loop-list.list-index c.loop-list.passed c.list-item.result c.as_slice-rows.result.now _ (looks.Overlap c.in-Overlap.i c.in-Overlap.j) c.requires.count c.requires.few (omega arith) c.as_slice-rows.ensures c.list-item.is c.loop-list.invariant c.in_ok-i.ensures c.in-Overlap.is in
    let room = overlap_room (listed_of asked lists) c.loop-list.list-index c.loop-list.passed c.as_slice-rows.result.now c.in-Overlap.i c.in-Overlap.j step in
    omega (arith, room.0, room.1)

pub overflow_add-result-in-Overlap-3 : goal.overflow_add-result-in-Overlap-3
overflow_add-result-in-Overlap-3 g c =
    let asked = g.Q.Question.asked c.args.q.now in
    let lists = c.args.lists.now in
    let step = step_at asked lists c.loop-list.list-index c.loop-list.passed c.list-item.result c.as_slice-rows.result.now _ (looks.Overlap c.in-Overlap.i c.in-Overlap.j) c.requires.count c.requires.few (omega arith) c.as_slice-rows.ensures c.list-item.is c.loop-list.invariant c.in_ok-i.ensures c.in-Overlap.is in
    let room = overlap_room (listed_of asked lists) c.loop-list.list-index c.loop-list.passed c.as_slice-rows.result.now c.in-Overlap.i c.in-Overlap.j step in
    omega (arith, room.0, room.1)

pub with-passed-requires-clause-rows : goal.with-passed-requires-clause-rows
with-passed-requires-clause-rows g c =
    let asked = g.Q.Question.asked c.args.q.now in
    let lists = c.args.lists.now in
    let step = step_at asked lists c.loop-list.list-index c.loop-list.passed c.list-item.result c.as_slice-rows.result.now _ (looks.Apart c.in-Apart.untrue c.in-Apart.unlisted) c.requires.count c.requires.few (omega arith) c.as_slice-rows.ensures c.list-item.is c.loop-list.invariant c.in_ok-i.ensures c.in-Apart.is in
    step.room

pub with-passed-requires-clause-untrue : goal.with-passed-requires-clause-untrue
with-passed-requires-clause-untrue g c =
    let asked = g.Q.Question.asked c.args.q.now in
    let lists = c.args.lists.now in
    let step = step_at asked lists c.loop-list.list-index c.loop-list.passed c.list-item.result c.as_slice-rows.result.now _ (looks.Apart c.in-Apart.untrue c.in-Apart.unlisted) c.requires.count c.requires.few (omega arith) c.as_slice-rows.ensures c.list-item.is c.loop-list.invariant c.in_ok-i.ensures c.in-Apart.is in
    untrue_room (listed_of asked lists) c.loop-list.list-index c.loop-list.passed c.as_slice-rows.result.now c.in-Apart.untrue c.in-Apart.unlisted step

use Rattle.std.proofs.Common.{◌+◌, ◌∙◌, Some, ap, arith, subst, sym}
use Rattle.vpc_base.proofs.Members.{row_has}
use Rattle.box_images.specs.Images.{header_at}
use Rattle.image_tests.proofs.Answering.{answers_map}
use Rattle.image_tests.proofs.Trying.{IsTrying, low_of_rest, trying_first, trying_last, trying_next, trying_passed}
use Rattle.vpc_model.specs.Acls.{verdict_of_row}
use Rattle.network_acls.proofs.Matching.{answer_of_row, first_match, match_found, no_match_yet, none_of_rest, row_test}
use Rattle.network_acls.proofs.on_images.first_verdict_on.Goals as goal
use Rattle.network_acls.proofs.on_images.first_verdict_on.Goals.{else-could_match, then-could_match+else-matched}
use Rattle.network_acls.specs.Tried.{DivideRows}

pub loop-row-init : goal.loop-row-init
loop-row-init c = trying_first (DivideRows c.args.rows.now) (first_match c.args.dir c.args.i.now) c.args.rows.now c.args.i.now c.requires.valid c.requires.walk

pub loop-row-preserved : goal.loop-row-preserved
loop-row-preserved c =
    let rows = c.args.rows.now in
    let dir = c.args.dir in
    let i = c.args.i.now in
    let k = c.loop-row.row-index in
    let rest = c.loop-row.rest in
    let row = c.row-item.result in
    let trying = IsTrying (DivideRows rows) (first_match dir i rows) (first_match dir i) rows i (k + 1) in
    elim c.if-could_match.branch [
      | then-could_match+else-matched w ↦
          let x = w.matches_on-matched.result in
          let has = row_has rows k row (omega arith) c.row-item.is in
          subst trying (sym w.rest-is)
          (trying_next (DivideRows rows) (first_match dir i rows) (first_match dir i) (row_test dir i) (no_match_yet dir i) rows i k rest row x
          w.keep.new.self (omega arith) c.row-item.is w.if-matched.false w.keep.ensures.image w.keep.ensures.valid w.keep.ensures.kind
          c.loop-row.invariant (answer_of_row rows dir i rest row x has c.loop-row.invariant.image w.matches_on-matched.ensures))
      | else-could_match w ↦
          subst trying (sym w.rest-is)
          (trying_passed (DivideRows rows) (first_match dir i rows) (first_match dir i) (row_test dir i) (no_match_yet dir i) rows i k rest row
          (omega arith) c.row-item.is (none_of_rest dir i rest row c.loop-row.invariant.image (c.could_match.ensures w.if-could_match.false))
          c.loop-row.invariant)
    ]

pub could_match-requires-clause-low : goal.could_match-requires-clause-low
could_match-requires-clause-low c =
    let dir = c.args.dir in
    let i = c.args.i.now in
    let rows = c.args.rows.now in
    low_of_rest (DivideRows rows) (first_match dir i rows) (first_match dir i) rows i c.loop-row.row-index c.loop-row.rest c.value-low.result
    (c.value-low.ensures.value ∙ ap (header_at i) c.low.ensures.value) c.loop-row.invariant

pub returns-then-matched : goal.returns-then-matched
returns-then-matched c =
    let rows = c.args.rows.now in
    let dir = c.args.dir in
    let i = c.args.i.now in
    let k = c.loop-row.row-index in
    let row = c.row-item.result in
    let x = c.matches_on-matched.result in
    let has = row_has rows k row (omega arith) c.row-item.is in
    answers_map verdict_of_row (DivideRows rows) (first_match dir i rows) i.part (record { body = x.body; told = Some row })
    (trying_last (DivideRows rows) (first_match dir i rows) (first_match dir i) (row_test dir i) rows i k c.loop-row.rest row x (Some row)
    (match_found dir i row) (omega arith) c.row-item.is c.if-matched.true
    c.loop-row.invariant (answer_of_row rows dir i c.loop-row.rest row x has c.loop-row.invariant.image c.matches_on-matched.ensures))

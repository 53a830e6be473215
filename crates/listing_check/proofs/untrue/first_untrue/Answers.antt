use Rattle.std.proofs.Common.{All, List, Option, Some, arith, subst, ℕ}
use Rattle.std.proofs.lemmas.List.{take_all}
use Rattle.header_boxes.specs.Rows.{HasWord}
use Rattle.header_boxes.specs.declared.rows.Row.{Row}
use Rattle.vpc_base.specs.declared.headers.Header.{Header}
use Rattle.listing_check.proofs.TrueRows.{true_more, untrue_at}
use Rattle.listing_check.specs.Looks.{IsOther}
use Rattle.listing_check.proofs.untrue.first_untrue.Goals as goal

pub returns-in-Some : goal.returns-in-Some
returns-in-Some g c =
    let told = g.L.Listing.told c.args.listing.now in
    let row = c.row-item.result in
    let text = c.as_slice.result.now in
    let found = subst (λ (o : Option Header). IsOther told (Some text) row.part o) c.in-Some.is c.in_ok-h.ensures in
    untrue_at told c.args.rows.now c.loop-row.row-index c.loop-row.number row text c.in-Some.h c.loop-row.invariant.number (omega arith) c.row-item.is c.loop-row.invariant.before
    c.as_slice.ensures found

pub loop-row-preserved : goal.loop-row-preserved
loop-row-preserved g c =
    let told = g.L.Listing.told c.args.listing.now in
    let row = c.row-item.result in
    let text = c.as_slice.result.now in
    let none = subst (λ (o : Option Header). IsOther told (Some text) row.part o) c.in_default.is c.in_ok-h.ensures in
    record {
      number = omega arith;
      before = true_more told c.args.rows.now c.loop-row.row-index row text (omega arith) c.row-item.is c.loop-row.invariant.before c.as_slice.ensures none;
    }

pub returns : goal.returns
returns g c =
    let told = g.L.Listing.told c.args.listing.now in
    subst (λ (rows : List (Row (List ℕ))). All (HasWord told) rows) (take_all c.loop-row.row-index c.args.rows.now (omega arith)) c.loop-row.invariant.before

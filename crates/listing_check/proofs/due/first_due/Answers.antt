use Rattle.std.proofs.Common.{◌<◌, List, arith, length, subst}
use Rattle.std.proofs.lemmas.List.{get_or_default, take_all}
use Rattle.header_boxes.specs.declared.boxes.Box5.{Box5}
use Rattle.listing_check.proofs.FirstDue.{IsFoundIn, first_if_found, found_in_none, found_more}
use Rattle.listing_check.specs.Due.{IsDue}
use Rattle.listing_check.proofs.due.first_due.Goals as goal

pub loop-part-init : goal.loop-part-init
loop-part-init g c = found_in_none (g.L.Listing.told c.args.listing.now) c.args.asked.now c.args.gap.now

pub loop-part-preserved : goal.loop-part-preserved
loop-part-preserved g c =
    let asked = c.args.asked.now in
    let k = c.loop-part.part-index in
    let below : k < length asked = omega arith in
    found_more (g.L.Listing.told c.args.listing.now) asked k _ below (get_or_default asked k _ _ below) c.args.gap.now c.loop-part.found _ c.loop-part.invariant c.in_ok-found.ensures

pub returns : goal.returns
returns g c =
    let told = g.L.Listing.told c.args.listing.now in
    let asked = c.args.asked.now in
    let gap = c.args.gap.now in
    first_if_found (IsDue told asked) gap c.loop-part.found
    (subst (λ (boxes : List Box5). IsFoundIn (IsDue told boxes) gap c.loop-part.found) (take_all c.loop-part.part-index asked (omega arith)) c.loop-part.invariant)

use Rattle.std.proofs.Common.{◌<◌, arith, length, slice_index_or}
use Rattle.std.proofs.lemmas.List.{get_or_default}
use Rattle.std.proofs.lemmas.List.Edits.{map_over_more}
use Rattle.box_steps.proofs.moment.narrow_entries.Goals as goal
use Rattle.box_steps.specs.Moments.{entry_over}

pub loop-e-preserved : goal.loop-e-preserved
loop-e-preserved c =
    let test = c.loop-e-test.true in
    let same = c.loop-e.auto.entries in
    let within : c.loop-e.e-index < length c.loop-e.entries = omega arith in
    map_over_more (entry_over c.args.body.now) c.args.entries.now c.loop-e.entries c.loop-e.e-index (slice_index_or c.loop-e.entries c.loop-e.e-index _) test c.loop-e.invariant
    (get_or_default c.loop-e.entries c.loop-e.e-index _ _ within)

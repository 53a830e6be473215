use Rattle.std.proofs.Common.{◌<◌, arith, length, slice_index_or}
use Rattle.std.proofs.lemmas.List.{get_or_default}
use Rattle.std.proofs.lemmas.List.Edits.{map_over_more}
use Rattle.box_steps.proofs.moment.narrow_nats.Goals as goal
use Rattle.box_steps.specs.Moments.{nat_over}

pub loop-t-preserved : goal.loop-t-preserved
loop-t-preserved c =
    let test = c.loop-t-test.true in
    let same = c.loop-t.auto.nats in
    let within : c.loop-t.t-index < length c.loop-t.nats = omega arith in
    map_over_more (nat_over c.args.body.now) c.args.nats.now c.loop-t.nats c.loop-t.t-index (slice_index_or c.loop-t.nats c.loop-t.t-index _) test c.loop-t.invariant
    (get_or_default c.loop-t.nats c.loop-t.t-index _ _ within)

use Rattle.std.proofs.Common.{arith, length, slice_index_or, ◌<◌}
use Rattle.std.proofs.lemmas.List.{get_or_default}
use Rattle.edge_gateways.proofs.Ranges.{stretch-after, stretch-here, stretch-next}
use Rattle.edge_gateways.proofs.internet.stretch.Goals as goal

pub returns-then-a-run : goal.returns-then-a-run
returns-then-a-run c =
    let runs = c.args.runs.now in
    let n = c.loop-run.run-index in
    let within : n < length runs = omega (arith, c.loop-run-test.true) in
    stretch-next c.args.a runs n (slice_index_or runs n _) c.requires c.loop-run.invariant within (get_or_default runs n _ _ within) c.if-a-run.true

pub returns-then-a-run-2 : goal.returns-then-a-run-2
returns-then-a-run-2 c =
    let runs = c.args.runs.now in
    let n = c.loop-run.run-index in
    let within : n < length runs = omega (arith, c.loop-run-test.true) in
    stretch-here c.args.a runs n (slice_index_or runs n _) c.requires c.loop-run.invariant within (get_or_default runs n _ _ within) c.if-a-run.false c.if-a-run-2.true

pub returns : goal.returns
returns c = stretch-after c.args.a c.args.runs.now c.loop-run.run-index (omega (arith, c.ranges.a.fits)) c.requires c.loop-run.invariant (omega (arith, c.loop-run-test.false, c.loop-run.auto.run-index-end))

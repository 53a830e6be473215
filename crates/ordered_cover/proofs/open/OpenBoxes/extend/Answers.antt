use Rattle.std.proofs.Common.{◌<◌, length, arith}
use Rattle.ordered_cover.proofs.Lists.{IsPermutation-add_more}
use Rattle.ordered_cover.proofs.open.OpenBoxes.extend.Goals as goal

pub loop-b-preserved : goal.loop-b-preserved
loop-b-preserved c =
    let within : c.loop-b.b-index < length c.args.boxes.now = omega arith in
    IsPermutation-add_more c.args.self.now c.args.boxes.now c.loop-b.self c.push.new.self c.loop-b.b-index _ within c.loop-b.invariant c.in_ok-push.ensures

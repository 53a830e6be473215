use Rattle.prefix_text.proofs.Bounds.{block_of_is_block}
use Rattle.std.proofs.Common.{◌<◌, ◌-◌, ◌^◌}
use Rattle.prefix_text.proofs.blocks.Prefix.of.Goals as goal

pub invariant_of-result : goal.invariant_of-result
invariant_of-result c =
    let some : 0 < 2 ^ (32 - c.args.length) = rw c.size.ensures.value at c.size.ensures.some in
    rw (c.from.ensures, c.size.ensures.value) (block_of_is_block c.args.addr c.args.length c.ranges.addr.fits c.requires some)

use Rattle.std.proofs.Common.{le_antisymm}
use Rattle.ordered_cover.specs.Passed.{at_dst, at_end, at_p, at_proto, at_src}
use Rattle.ordered_cover.proofs.ports.after.Goals as goal

pub returns-then-part-sides : goal.returns-then-part-sides
returns-then-part-sides c = at_p c.if-part-sides.true

pub returns-then-part-sides-2 : goal.returns-then-part-sides-2
returns-then-part-sides-2 c = at_dst (le_antisymm c.requires.p.ends c.if-part-sides.false) c.if-part-sides-2.true

pub returns-then-part-sides-3 : goal.returns-then-part-sides-3
returns-then-part-sides-3 c = at_src (le_antisymm c.requires.p.ends c.if-part-sides.false) (le_antisymm c.requires.dst.ends c.if-part-sides-2.false) c.if-part-sides-3.true

pub returns-then-part-sides-4 : goal.returns-then-part-sides-4
returns-then-part-sides-4 c =
    at_proto (le_antisymm c.requires.p.ends c.if-part-sides.false) (le_antisymm c.requires.dst.ends c.if-part-sides-2.false) (le_antisymm c.requires.src.ends c.if-part-sides-3.false) c.if-part-sides-4.true

pub returns : goal.returns
returns c =
    at_end (le_antisymm c.requires.p.ends c.if-part-sides.false) (le_antisymm c.requires.dst.ends c.if-part-sides-2.false) (le_antisymm c.requires.src.ends c.if-part-sides-3.false)
    (le_antisymm c.requires.proto.ends c.if-part-sides-4.false)

use Rattle.std.proofs.Common.{◌∙◌}
use Rattle.header_boxes.specs.Boxes.{low_of}
use Rattle.image_tests.proofs.Stretches.{value-number}
use Rattle.image_tests.proofs.sets.low_on.Goals as goal

pub returns : goal.returns
returns c = c.least.ensures ∙ value-number c.args.i.now (low_of c.args.i.now.part) c.args.side

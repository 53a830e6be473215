use Rattle.image_tests.proofs.Stretches.{ends-by}
use Rattle.image_tests.proofs.sets.up_to.Goals as goal

pub returns : goal.returns
returns c =
    ends-by c.args.i.now c.args.side c.args.low c.args.last c.narrow.result c.requires.valid c.requires.walk c.requires.address c.requires.low c.requires.ordered
    c.narrow.ensures.told c.narrow.ensures.body c.narrow.ensures.ends

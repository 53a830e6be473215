use Rattle.address_sets.proofs.Searching.{has-none, has-some}
use Rattle.address_sets.proofs.sets.AddressSet.has.Goals as goal

pub returns-then-begun-gt0 : goal.returns-then-begun-gt0
returns-then-begun-gt0 c =
    has-some c.args.address c.self.inside.runs.items c.args.self.now c.begun-begun.result c.index.result.now c.self.invariant.apart c.self.view_is c.begun-begun.ensures
    c.if-begun-gt0.true c.index.ensures

pub returns-else-begun-gt0 : goal.returns-else-begun-gt0
returns-else-begun-gt0 c = has-none c.args.address c.args.self.now c.begun-begun.result c.if-begun-gt0.false c.begun-begun.ensures

use Rattle.std.proofs.Common.{◌∙◌}
use Rattle.number_tables.proofs.Among.{is_among}
use Rattle.number_tables.proofs.sets.NumberSet.has.Goals as goal

pub returns : goal.returns
returns c =
    c.is_ok.ensures.value
    ∙ is_among c.args.number c.self.inside.numbers.items c.deref.result.now c.args.self.now c.binary_search.result c.self.invariant c.deref.ensures.value c.self.view_is c.binary_search.ensures.position

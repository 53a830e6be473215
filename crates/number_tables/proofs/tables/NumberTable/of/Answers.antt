use Rattle.number_tables.proofs.Searching.{value_at-stable}
use Rattle.number_tables.proofs.tables.NumberTable.of.Goals as goal

pub returns : goal.returns
returns g c = λ k. value_at-stable k _ _ c.sort.ensures.stable

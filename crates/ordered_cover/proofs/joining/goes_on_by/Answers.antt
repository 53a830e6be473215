use Rattle.std.proofs.Common.{◌↔◌, IsTrue, subst, sym}
use Rattle.ordered_cover.specs.Kept.{GoesOnBy}
use Rattle.ordered_cover.specs.declared.joining.Along.{Along}
use Rattle.ordered_cover.proofs.joining.goes_on_by.Goals as goal

pub returns-in-Q : goal.returns-in-Q
returns-in-Q c = subst (λ (a : Along). IsTrue c.goes_on.result ↔ GoesOnBy a c.args.other.now c.args.part.now) (sym c.in-Q.is) c.goes_on.ensures

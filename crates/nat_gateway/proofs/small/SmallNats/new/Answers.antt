use Rattle.std.proofs.Common.{subst, sym}
use Rattle.vpc_laws.proofs.Books.{IsBook-nil}
use Rattle.vpc_laws.specs.Translations.{IsBook}
use Rattle.nat_gateway.proofs.small.SmallNats.new.Goals as goal

pub invariant_of-result : goal.invariant_of-result
invariant_of-result c = subst IsBook (sym c.new.ensures) IsBook-nil

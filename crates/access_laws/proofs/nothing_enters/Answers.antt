use Rattle.std.proofs.Common.{subst, sym}
use Rattle.vpc_laws.specs.Types.{Place}
use Rattle.vpc_model.specs.Terms.{step_at}
use Rattle.access_laws.proofs.Shutting.{came-owned, nothing-enters}
use Rattle.access_laws.specs.Shut.{Ends}
use Rattle.access_laws.proofs.nothing_enters.Goals as goal

pub returns : goal.returns
returns c = λ d appliances label v sent came accepted have is.
    subst (λ (p : Place). Ends (step_at d appliances label p came).next) (sym is.to)
    (nothing-enters d v came.header have (came-owned d appliances label v sent came accepted is))

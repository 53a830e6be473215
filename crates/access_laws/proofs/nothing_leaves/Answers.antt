use Rattle.std.proofs.Common.{find, refl, subst, sym, ℕ, ◌==◌}
use Rattle.vpc_laws.specs.Types.{Place}
use Rattle.vpc_model.specs.Terms.{pairs_in, step_at}
use Rattle.access_laws.proofs.Shutting.{nothing-leaves}
use Rattle.access_laws.specs.Shut.{Ends}
use Rattle.access_laws.proofs.nothing_leaves.Goals as goal

pub returns : goal.returns
returns c = λ d appliances label v m have at.
    subst (λ (p : Place). Ends (step_at d appliances label p m).next) (sym at)
    (nothing-leaves d v m.header (find (λ (p : ℕ × ℕ). p.0 == m.header.src) (pairs_in d v)) have refl)

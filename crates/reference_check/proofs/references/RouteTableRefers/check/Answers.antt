use Rattle.std.proofs.Common.{◌≡◌, [], subst}
use Rattle.std.proofs.lemmas.Result.{err_from_is_err_and}
use Rattle.vpc_model.specs.Accepted.{wanted}
use Rattle.reference_check.proofs.Told.{told_subnets}
use Rattle.reference_check.proofs.references.RouteTableRefers.check.Goals as goal

pub returns-in_err-want_subnets : goal.returns-in_err-want_subnets
returns-in_err-want_subnets c =
    let p = err_from_is_err_and c.from_residual-in_err-want_subnets.result c.from_residual-in_err-want_subnets.ensures.1 in
    let none = subst (λ there. wanted there c.args.self.now.id c.args.self.now.vpc ≡ []) c.has.ensures c.in_ok-want.ensures in
    rw (p.1, p.2) (told_subnets c.args.rows.now c.args.self.now _ none (rw c.as_slice.ensures at c.in_err-want_subnets.ensures))

use Rattle.std.proofs.Common.{◌≡◌, [], subst}
use Rattle.std.proofs.lemmas.Result.{err_from_is_err_and}
use Rattle.vpc_model.specs.Accepted.{wanted}
use Rattle.reference_check.proofs.Told.{told_inward}
use Rattle.reference_check.proofs.references.GroupRefers.check.Goals as goal

pub returns-in_err-check_rules : goal.returns-in_err-check_rules
returns-in_err-check_rules c =
    let p = err_from_is_err_and c.from_residual-in_err-check_rules.result c.from_residual-in_err-check_rules.ensures.1 in
    let none = subst (λ there. wanted there c.args.self.now.id c.args.self.now.vpc ≡ []) c.has.ensures c.in_ok-want.ensures in
    rw (p.1, p.2) (told_inward c.args.rows.now c.args.self.now _ none (rw c.as_slice.ensures at c.in_err-check_rules.ensures))

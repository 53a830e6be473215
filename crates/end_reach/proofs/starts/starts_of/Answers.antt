use Rattle.std.proofs.Common.{◌≡◌, ◌∷◌, [], All, IfSome, IsTrue, Option, subst, true}
use Rattle.vpc_base.proofs.Results.{if_ok}
use Rattle.vpc_laws.specs.Types.{End}
use Rattle.vpc_model.specs.Sound.{is_end}
use Rattle.end_reach.specs.Asked.{AreAllStarts}
use Rattle.end_reach.proofs.StartLemmas.{given_is_described, starts_are_described}
use Rattle.end_reach.proofs.starts.starts_of.Goals as goal

pub returns-in-None-clause-described : goal.returns-in-None-clause-described
returns-in-None-clause-described c =
    if_ok (λ v. AreAllStarts c.args.n.now c.args.src c.args.goal v.items) (λ v. All (λ e. IsTrue (is_end c.args.n.now e)) v.items) c.all_starts.result
    (λ v are. starts_are_described c.args.n.now c.args.src c.args.goal v.items are) c.all_starts.ensures

pub returns-in-Some-clause-described : goal.returns-in-Some-clause-described
returns-in-Some-clause-described c =
    if_ok (λ v. v.items ≡ c.in-Some.start ∷ []) (λ v. All (λ e. IsTrue (is_end c.args.n.now e)) v.items) c.only.result
    (λ v is. given_is_described c.args.n.now c.in-Some.start v.items (subst (λ (o : Option End). IfSome o (λ e. is_end c.args.n.now e ≡ true)) c.in-Some.is c.requires) is) c.only.ensures

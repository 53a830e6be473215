-- What is told of causes one after another, of a result that is one of them.
use Rattle.std.proofs.Common.{◌≡◌, ◌++◌, [], Err, List, Result, subst, sym}
use Rattle.vpc_model.specs.declared.refusals.Refusal.{Refusal}
use Rattle.vpc_model.specs.Accepted.{first_cause}
use Rattle.reference_check.specs.Told.{IsTold, Tells}
use Rattle.reference_check.proofs.Told.{told_first}

-- a cause among the first
pub tells_first : {A : Type 0} (xs ys : List Refusal) (r : Result A Refusal) (cause : Refusal) → r ≡ Err cause → IsTold (first_cause xs) cause → Tells (xs ++ ys) r
tells_first xs ys r cause e h = subst (Tells (xs ++ ys)) (sym e) (told_first xs ys cause h)

-- a cause among the later ones
pub tells_later : {A : Type 0} (xs ys : List Refusal) (r : Result A Refusal) → xs ≡ [] → Tells ys r → Tells (xs ++ ys) r
tells_later {A = A} xs ys r e h =
    let P : List Refusal → Type 0 = λ t. Tells {A = A} (t ++ ys) r in
    subst P (sym e) h

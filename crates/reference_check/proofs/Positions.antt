-- The numbers of items that pass a test.
use Rattle.std.proofs.Common.{◌≡◌, ◌∙◌, ◌+◌, ◌++◌, ◌∷◌, [], ℕ, Bool, List, None, Option, Some, ap, arith, cond, false, length, position, refl, sym, true}
use Rattle.std.specs.List.{count_by, list_any, position_from}
use Rattle.std.proofs.lemmas.Bool.{or_parts}
use Rattle.std.proofs.lemmas.Iterator.Adapters.{position_from-zero}
use Rattle.vpc_base.proofs.Tests.{count_by-cons}
use Rattle.vpc_model.specs.Choice.{or_else}

-- one more item
from-push : {X : Type 0} (p : X → Bool) (xs : List X) (x : X) (i : ℕ) → position_from p i (xs ++ x ∷ []) ≡ or_else (position_from p i xs) (cond (p x) (Some (i + length xs)) None)
from-push p [] x i = ap (λ (n : ℕ). cond (p x) (Some n) None) (omega arith)
from-push {X} p (y ∷ ys) x i = by (p y) (from-push p ys x (i + 1) ∙ ap (λ (n : ℕ). or_else (position_from p (i + 1) ys) (cond (p x) (Some n) None)) (omega arith))
  where
    by : (b : Bool) → position_from p (i + 1) (ys ++ x ∷ []) ≡ or_else (position_from p (i + 1) ys) (cond (p x) (Some (i + length (y ∷ ys))) None)
        → cond b (Some i) (position_from p (i + 1) (ys ++ x ∷ [])) ≡ or_else (cond b (Some i) (position_from p (i + 1) ys)) (cond (p x) (Some (i + length (y ∷ ys))) None)
    by true next = refl
    by false next = next

pub position-push : {X : Type 0} (p : X → Bool) (xs : List X) (x : X) (n : ℕ) → length xs ≡ n → position p (xs ++ x ∷ []) ≡ or_else (position p xs) (cond (p x) (Some n) None)
position-push p xs x n long =
    position_from-zero p (xs ++ x ∷ [])
    ∙ from-push p xs x 0
    ∙ ap (λ (o : Option ℕ). or_else o (cond (p x) (Some (0 + length xs)) None)) (sym (position_from-zero p xs))
    ∙ ap (λ (m : ℕ). or_else (position p xs) (cond (p x) (Some m) None)) (omega arith)

pub count-none : {X : Type 0} (p : X → Bool) (xs : List X) → list_any p xs ≡ false → count_by p xs ≡ 0
count-none p [] none = refl
count-none p (x ∷ xs) none =
    let parts = or_parts (p x) (list_any p xs) none in
    let rest = count-none p xs parts.1 in
    let all = count_by-cons p x xs in
    let here : cond {A = ℕ} (p x) 1 0 ≡ 0 = ap {B = ℕ} (λ b. cond b 1 0) parts.0 in
    omega arith

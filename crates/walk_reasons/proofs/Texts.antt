-- Texts put one after the other.
use Rattle.std.proofs.Common.{◌≡◌, ◌++◌, ◌∙◌, [], Err, List, Ok, OnOk, Result, ap, append-nil, append_assoc, sym, ℕ}

-- an equal text was added
pub put_as : {E : Type 0} (r : Result (Unit {0}) E) (old a b new : List ℕ) → a ≡ b → OnOk r (new ≡ old ++ a) → OnOk r (new ≡ old ++ b)
put_as (Ok u) old a b new same put = put ∙ ap (λ (t : List ℕ). old ++ t) same
put_as (Err e) old a b new same put = tt

-- a text that was added after another one
pub put_after : {E : Type 0} (r : Result (Unit {0}) E) (old a b first second : List ℕ) → first ≡ old ++ a → OnOk r (second ≡ first ++ b) → OnOk r (second ≡ old ++ (a ++ b))
put_after (Ok u) old a b first second one two = two ∙ (ap (λ (t : List ℕ). t ++ b) one ∙ append_assoc old a b)
put_after (Err e) old a b first second one two = tt

-- a text and nothing after it
pub put_one : {E : Type 0} (r : Result (Unit {0}) E) (old a new : List ℕ) → OnOk r (new ≡ old ++ a) → OnOk r (new ≡ old ++ (a ++ []))
put_one r old a new put = put_as r old a (a ++ []) new (sym (append-nil a)) put

-- nothing
pub put_none : (old : List ℕ) → old ≡ old ++ []
put_none old = sym (append-nil old)

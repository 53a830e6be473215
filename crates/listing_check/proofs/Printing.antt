-- Texts put one after the other.
use Rattle.std.proofs.Common.{◌++◌, ◌≡◌, ◌∙◌, Err, List, Ok, OnOk, Result, ap, append_assoc, ℕ}
use Rattle.block_report.proofs.Texts.{append_parts}

-- three texts that were added after another one
pub three_after : {E : Type 0} (r : Result (Unit {0}) E) (old p a b c first second : List ℕ) → first ≡ old ++ p → OnOk r (second ≡ ((first ++ a) ++ b) ++ c)
    → OnOk r (second ≡ old ++ (((p ++ a) ++ b) ++ c))
three_after (Ok u) old p a b c first second one two =
    two ∙ (ap (λ (t : List ℕ). ((t ++ a) ++ b) ++ c) one ∙ (ap (λ (t : List ℕ). (t ++ b) ++ c) (append_assoc old p a) ∙ append_parts old (p ++ a) b c))
three_after (Err e) old p a b c first second one two = tt

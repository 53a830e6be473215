-- Texts put one after the other.
use Rattle.std.proofs.Common.{◌≡◌, ◌++◌, ℕ, Result, Ok, Err, OnOk, List, append_assoc, ap, ◌∙◌}

pub append_parts : (old a b c : List ℕ) → ((old ++ a) ++ b) ++ c ≡ old ++ ((a ++ b) ++ c)
append_parts old a b c = rw (append_assoc old a b, append_assoc old (a ++ b) c)

-- a text that was added after two others
pub after_two : {E : Type 0} (r : Result (Unit {0}) E) (old a b c first second third : List ℕ) → first ≡ old ++ a → second ≡ first ++ b → OnOk r (third ≡ second ++ c) → OnOk r (third ≡ old ++ ((a ++ b) ++ c))
after_two (Ok u) old a b c first second third one two three =
    three ∙ (ap (λ (t : List ℕ). t ++ c) (two ∙ ap (λ (t : List ℕ). t ++ b) one) ∙ append_parts old a b c)
after_two (Err e) old a b c first second third one two three = tt

-- a text that was added after three others
pub after_three : {E : Type 0} (r : Result (Unit {0}) E) (old a b c d first second third fourth : List ℕ) → first ≡ old ++ a → second ≡ first ++ b → third ≡ second ++ c → OnOk r (fourth ≡ third ++ d) → OnOk r (fourth ≡ old ++ (((a ++ b) ++ c) ++ d))
after_three r old a b c d first second third fourth one two three four =
    after_two r old (a ++ b) c d second third fourth (two ∙ ap (λ (t : List ℕ). t ++ b) one ∙ append_assoc old a b) three four

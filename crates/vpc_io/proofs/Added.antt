-- Texts that are added piece by piece.
use Rattle.std.proofs.Common.{◌≡◌, ℕ, ◌+◌, ◌-◌, List, Option, Some, None, ◌++◌, take, drop, length, refl, ap, append_assoc, arith, ◌∙◌, sym}
use Rattle.std.proofs.Math.Seq.{take-add}
use Rattle.std.proofs.lemmas.Grind.{common_steps}
use Rattle.vpc_io.specs.Sink.{with_text}

-- what is left of a text, cut to its length
take-drop : (text : List ℕ) (at : ℕ) → take (length text - at) (drop at text) ≡ drop at text
take-drop text at = grind (arith, common_steps)

-- a prefix, and then bytes from the front of what is left
pub with_text-with_text : (held : Option (List ℕ)) (text : List ℕ) (at n : ℕ) → with_text (with_text held (take at text)) (take n (take (length text - at) (drop at text))) ≡ with_text held (take (at + n) text)
with_text-with_text None text at n = refl
with_text-with_text (Some h) text at n = rw (take-drop text at) (ap Some (append_assoc h (take at text) (take n (drop at text)) ∙ ap (λ (t : List ℕ). h ++ t) (sym (take-add at n text))))

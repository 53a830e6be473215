-- The pieces of a text between newlines, one after the other.
use Rattle.std.proofs.Common.{◌≡◌, ◌∙◌, ◌==◌, ◌+◌, ◌<◌, ◌∷◌, [], All, Bool, List, None, Some, ap, arith, drop, false, get_or, length, refl, subst, suc, sym, take, true, ℕ}
use Rattle.std.proofs.Math.Seq.{split_at}
use Rattle.std.proofs.lemmas.List.{get_or-take, length-take-le}
use Rattle.std.proofs.lemmas.List.Elements.{All-from_get_or}
use Rattle.std.proofs.lemmas.List.Splits.{slice_split_at, slice_split_none}
use Rattle.memchr.specs.Find.{IsFirstByte, is_byte}
use Rattle.report_reader.specs.Reports.{pieces_of}

no_newline : (b : Bool) → (b ≡ true → ⊥) → b ≡ false
no_newline true not = absurd (not refl)
no_newline false not = refl

-- the first piece, and those of what follows its newline
pub piece_next : (text : List ℕ) (at : ℕ) → IsFirstByte (is_byte 10) text (Some at) → pieces_of text ≡ take at text ∷ pieces_of (drop (at + 1) text)
piece_next text at first =
    let within : at < length text = first.0.high in
    let next : suc at ≡ at + 1 = omega arith in
    let before : All (λ c. (c == 10) ≡ false) (take at text) =
    All-from_get_or (λ c. (c == 10) ≡ false) (take at text) 0 λ i below.
    let short : i < at = omega (arith, below, length-take-le at text (omega (arith, within))) in
    subst (λ (c : ℕ). (c == 10) ≡ false) (sym (get_or-take at text i 0 short)) (no_newline (get_or text i 0 == 10) (first.0.before i (omega arith) short)) in
    ap pieces_of (split_at text at 0 within) ∙ slice_split_at (λ c. c == 10) (take at text) (get_or text at 0) (drop (suc at) text) before first.1
    ∙ ap (λ (n : ℕ). take at text ∷ pieces_of (drop n text)) next

-- a text without one is one piece
pub piece_last : (text : List ℕ) → IsFirstByte (is_byte 10) text None → pieces_of text ≡ text ∷ []
piece_last text none =
    slice_split_none (λ c. c == 10) text
    (All-from_get_or (λ c. (c == 10) ≡ false) text 0 λ i below. no_newline (get_or text i 0 == 10) (none i (omega arith) below))

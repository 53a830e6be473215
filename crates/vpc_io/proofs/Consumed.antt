-- Bytes that a reader gives piece by piece.
use Rattle.std.proofs.Common.{◌≡◌, ℕ, ◌<◌, List, Option, Some, None, ◌++◌, length, append_assoc, arith, ◌∙◌, sym, ap}
use Rattle.std.proofs.lemmas.Grind.{common_steps}
use Rattle.std.specs.Io.KnownBytes.{Consumes, IsAtEnd}
use Rattle.vpc_io.specs.Told.{IfTold}

-- one more piece
pub Consumes-append : (known old new : Option (List ℕ)) (bytes piece : List ℕ) → Consumes known old bytes → Consumes old new piece → Consumes known new (bytes ++ piece)
Consumes-append None old new bytes piece before now = tt
Consumes-append (Some xs) None new bytes piece before now = absurd before
Consumes-append (Some xs) (Some ys) None bytes piece before now = absurd now
Consumes-append (Some xs) (Some ys) (Some zs) bytes piece before now = before ∙ (ap (λ (t : List ℕ). bytes ++ t) now ∙ sym (append_assoc bytes piece zs))

-- at the end these are all
pub Consumes-all : (known left : Option (List ℕ)) (bytes : List ℕ) → Consumes known left bytes → IsAtEnd left → IfTold known (λ all. bytes ≡ all)
Consumes-all None left bytes consumed end = tt
Consumes-all (Some xs) None bytes consumed end = absurd consumed
Consumes-all (Some xs) (Some ys) bytes consumed end = grind (arith, common_steps)

-- there were no fewer
pub Consumes-more : (known left : Option (List ℕ)) (bytes : List ℕ) (max : ℕ) → Consumes known left bytes → max < length bytes → IfTold known (λ all. max < length all)
Consumes-more None left bytes max consumed more = tt
Consumes-more (Some xs) None bytes max consumed more = absurd consumed
Consumes-more (Some xs) (Some ys) bytes max consumed more = grind (arith, common_steps)

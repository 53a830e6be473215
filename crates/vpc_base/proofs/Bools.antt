-- Tests that are joined.
use Rattle.std.proofs.Common.{◌≡◌, ◌&&◌, Bool, ap, false, refl, true}

-- the first two of three tests settle the answer
pub and-fails_early : (a b c : Bool) → (a && b) ≡ false → (a && (b && c)) ≡ false
and-fails_early true b c h = ap (λ (v : Bool). v && c) h
and-fails_early false b c h = refl

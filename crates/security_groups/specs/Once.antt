-- Numbers without repeats.
use Rattle.std.specs.List.{list_any}
use Rattle.std.specs.Prelude.{◌++◌, ◌==◌, ◌∷◌, [], if◌then◌else◌, List, ℕ}

-- those that aren't kept yet, after those that are
abbrev pub once_after : List ℕ → List ℕ → List ℕ
once_after kept [] = kept
once_after kept (n ∷ ns) = once_after (if list_any (λ k. n == k) kept then kept else kept ++ n ∷ []) ns

-- the numbers in their order, each where it stands first
abbrev pub once : List ℕ → List ℕ
once ns = once_after [] ns

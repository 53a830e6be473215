-- Numbers that stand as far above one number as others do above another.
use Rattle.std.specs.List.{AllZip}
use Rattle.std.specs.Prelude.{◌+◌, ◌≡◌, List, ℕ}

-- those of one list above the first number, those of the other above the second, place by place
abbrev pub AreAsFarAbove : ℕ → List ℕ → ℕ → List ℕ → Type 0
AreAsFarAbove first numbers other_first others = AllZip (λ n m. n + other_first ≡ m + first) numbers others

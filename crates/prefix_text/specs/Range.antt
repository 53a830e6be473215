-- Ranges of ports as text.
use Rattle.std.specs.Prelude.{◌≡◌, ℕ, ◌^◌, ◌<◌, ◌==◌, List, ◌++◌, codes, decimal, Option, Some}
use Rattle.std.specs.List.{before_first, after_first}
use Rattle.std.specs.Option.{option_zip}
use Rattle.prefix_text.specs.Number.{number_of}

-- the two ends in decimal, with a dash between them
abbrev pub range_text : ℕ × ℕ → List ℕ
range_text r = decimal r.0 ++ codes "-" ++ decimal r.1

-- the two ends that the text writes: numbers up to 65535 joined by a dash
abbrev pub range_of : List ℕ → Option (ℕ × ℕ)
range_of text =
    option_zip (number_of (before_first (λ c. c == 45) text) 65535)
    (number_of (after_first (λ c. c == 45) text) 65535)

-- a range of ports reads as itself
abbrev pub RangesReadBack : Type 0
RangesReadBack =
    (r : ℕ × ℕ) → r.0 < 2 ^ 16 → r.1 < 2 ^ 16 → range_of (range_text r) ≡ Some r

-- a text that reads as a range is that range's text
abbrev pub RangesHaveOneText : Type 0
RangesHaveOneText =
    (text : List ℕ) (r : ℕ × ℕ) → range_of text ≡ Some r
    → (text ≡ range_text r) × (r.0 < 2 ^ 16) × (r.1 < 2 ^ 16)

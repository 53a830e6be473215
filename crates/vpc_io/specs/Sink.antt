-- What a sink holds.
use Rattle.std.specs.Prelude.{ℕ, ◌≡◌, ◌<◌, ◌++◌, List, Option, option_map, length, take}

-- what is held once this text was added, where the sink tells what it holds
abbrev pub with_text : Option (List ℕ) → List ℕ → Option (List ℕ)
with_text held text = option_map (λ bytes. bytes ++ text) held

-- a proper prefix of the text was added
abbrev pub AddsProperPrefix : Option (List ℕ) → Option (List ℕ) → List ℕ → Type 0
AddsProperPrefix old new text = (n : ℕ) × (n < length text) × (new ≡ with_text old (take n text))

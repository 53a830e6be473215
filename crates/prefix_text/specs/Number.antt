-- Decimal numbers as text.
use Rattle.std.specs.Prelude.{◌≡◌, ℕ, ◌^◌, ◌<◌, ◌≤◌, Bool, ◌&&◌, ◌||◌, not, ◌==◌, nat_le, List, length, slice_index, Option, Some, None, if◌then◌else◌, decimal}
use Rattle.std.specs.Str.{all_ascii_digits}
use Rattle.std.specs.Str.Parse.{digits_value}

-- one to ten digits, and no zero before another digit
abbrev pub is_number : List ℕ → Bool
is_number text =
    all_ascii_digits text && (nat_le 1 (length text) && nat_le (length text) 10)
    && (length text == 1 || not (slice_index text 0 == 48))

-- the number that the text writes, if it writes one up to max
abbrev pub number_of : List ℕ → ℕ → Option ℕ
number_of text max =
    if is_number text && nat_le (digits_value 10 text) max then Some (digits_value 10 text)
    else None

-- a number of at most ten digits reads as itself
abbrev pub NumbersReadBack : Type 0
NumbersReadBack = (n max : ℕ) → n ≤ max → n < 10 ^ 10 → number_of (decimal n) max ≡ Some n

-- a text that reads as a number is that number in decimal
abbrev pub NumbersHaveOneText : Type 0
NumbersHaveOneText =
    (text : List ℕ) (max n : ℕ) → number_of text max ≡ Some n
    → (text ≡ decimal n) × (n ≤ max) × (n < 10 ^ 10)

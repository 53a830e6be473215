-- IPv4 addresses as text.
use Rattle.std.specs.Prelude.{◌≡◌, ℕ, ◌<◌, ◌+◌, ◌*◌, ◌/◌, ◌%◌, ◌^◌, ◌==◌, List, [], ◌∷◌, map, Option, Some, None}
use Rattle.std.specs.List.{slice_split}
use Rattle.std.specs.Net.Text.{dotted_text}
use Rattle.prefix_text.specs.Number.{number_of}

-- the address of four octets, the high one first
abbrev pub addr_at : ℕ → ℕ → ℕ → ℕ → ℕ
addr_at a b c d = ((a * 256 + b) * 256 + c) * 256 + d

-- the four octets in decimal, with dots between them
abbrev pub addr_text : ℕ → List ℕ
addr_text addr =
    dotted_text (addr / 2 ^ 24) (addr / 2 ^ 16 % 256) (addr / 2 ^ 8 % 256) (addr % 256)

-- the address of these octets, if there are four and each was read
abbrev pub addr_of_octets : List (Option ℕ) → Option ℕ
addr_of_octets (Some a ∷ Some b ∷ Some c ∷ Some d ∷ []) = Some (addr_at a b c d)
addr_of_octets _ = None

-- the address that the text writes: four numbers up to 255 joined by dots
abbrev pub addr_of : List ℕ → Option ℕ
addr_of text = addr_of_octets (map (λ part. number_of part 255) (slice_split (λ c. c == 46) text))

-- an address reads as itself
abbrev pub AddrsReadBack : Type 0
AddrsReadBack = (addr : ℕ) → addr < 2 ^ 32 → addr_of (addr_text addr) ≡ Some addr

-- a text that reads as an address is that address's text
abbrev pub AddrsHaveOneText : Type 0
AddrsHaveOneText =
    (text : List ℕ) (addr : ℕ) → addr_of text ≡ Some addr → (text ≡ addr_text addr) × (addr < 2 ^ 32)

-- Boxes as they stand in reports: five ranges, none of which is empty.
use Rattle.std.specs.Prelude.{◌==◌, ◌&&◌, ◌+◌, if◌then◌else◌, Bool, List, None, Option, Some, nat_le, slice_index_or, ℕ, []}
use Rattle.std.specs.List.{after_first, before_first}
use Rattle.std.specs.Option.{option_zip}
use Rattle.vpc_laws.specs.Types.{Box5}
use Rattle.prefix_text.specs.Addr.{addr_of}
use Rattle.prefix_text.specs.Range.{range_of}

-- what is read after something that was read
infixl 10 ◌>>=◌
abbrev pub ◌>>=◌ : {A B : Type 0} → Option A → (A → Option B) → Option B
(Some a) >>= next = next a
None >>= next = None

-- the word with this number, from 0
abbrev pub word_at : List (List ℕ) → ℕ → List ℕ
word_at words n = slice_index_or words n []

-- a range that isn't empty
abbrev pub range_between : ℕ × ℕ → Option (ℕ × ℕ)
range_between r = if nat_le r.0 r.1 then Some r else None

-- a range of addresses, two of them joined by a dash
abbrev pub addresses_of : List ℕ → Option (ℕ × ℕ)
addresses_of text = do
  r ← option_zip (addr_of (before_first (λ c. c == 45) text)) (addr_of (after_first (λ c. c == 45) text))
  range_between r

-- a range of ports
abbrev pub ports_of : List ℕ → Option (ℕ × ℕ)
ports_of text = do
  r ← range_of text
  range_between r

-- a range of protocols, whose numbers have eight bits
abbrev pub protos_of : List ℕ → Option (ℕ × ℕ)
protos_of text = do
  r ← ports_of text
  if nat_le r.1 255 then Some r else None

-- the box of five words: protocols, sources, destinations, p and q
abbrev pub box_of : List ℕ → List ℕ → List ℕ → List ℕ → List ℕ → Option Box5
box_of proto src dst p q = do
  proto ← protos_of proto
  src ← addresses_of src
  dst ← addresses_of dst
  p ← ports_of p
  q ← ports_of q
  Some (record { proto = proto; src = src; dst = dst; p = p; q = q })

-- the box of five words of a line, the first of which has this number
abbrev pub box_at : List (List ℕ) → ℕ → Option Box5
box_at words n =
    box_of (word_at words n) (word_at words (n + 1)) (word_at words (n + 2)) (word_at words (n + 3)) (word_at words (n + 4))

-- a range lies in another
abbrev pub lies_in : ℕ × ℕ → ℕ × ℕ → Bool
lies_in part whole = nat_le whole.0 part.0 && nat_le part.1 whole.1

-- each range of the box lies in that of the other
abbrev pub is_inside : Box5 → Box5 → Bool
is_inside part whole =
    lies_in part.proto whole.proto
    && (lies_in part.src whole.src && (lies_in part.dst whole.dst && (lies_in part.p whole.p && lies_in part.q whole.q)))

-- The pairs of `ask`: `proto PROTO`, `src PREFIX`, `dst PREFIX`, `sport A-B`, `port A-B`, `max N`, in this order
-- and each at most once.
use Rattle.std.specs.Prelude.{◌&&◌, ◌+◌, ◌≤◌, if◌then◌else◌, Bool, Err, IfSome, List, None, Ok, Option, Result, Some, bytes_eq, codes, length, nat_le, nat_lt, option_map, ℕ}
use Rattle.prefix_text.specs.Block.{Block, last_of, prefix_of}
use Rattle.prefix_text.specs.Number.{number_of}
use Rattle.prefix_text.specs.Range.{range_of}
use Rattle.query_words.specs.declared.pairs.Pairs.{Pairs}
use Rattle.query_words.specs.declared.pairs.Taken.{Taken}
use Rattle.query_words.specs.declared.refusal.QueryRefusal.{QueryRefusal}
use Rattle.query_words.specs.declared.refusal.QueryRefusal.TheVariants as refusals
use Rattle.query_words.specs.Refusal.{◌>>=◌}
use Rattle.query_words.specs.Words.{has_ports, proto_of, read_as, word_at}

-- ---- a pair

-- the word with this number and the next are a pair with this name
abbrev pub has_pair : List ℕ → List (List ℕ) → ℕ → Bool
has_pair name words n = nat_lt n (length words) && bytes_eq (word_at words n) name

-- what the pair with this name gives, or else what is meant without it, and the number of the word after it
abbrev pub pair_or : {A : Type 0} → A → List ℕ → (List (List ℕ) → ℕ → Result A QueryRefusal) → List (List ℕ) → ℕ → Result (Taken A) QueryRefusal
pair_or absent name read words n =
    if has_pair name words n then read words (n + 1) >>= (λ a. Ok (record { value = a; next = n + 2 }))
    else Ok (record { value = absent; next = n })

-- no word is left
abbrev pub no_more : List (List ℕ) → ℕ → Result (Unit {0}) QueryRefusal
no_more words n = if nat_le n (length words) then Err (refusals.BadWord n) else Ok tt

-- ---- values

-- the addresses of a block, which is one side of a box
abbrev pub side_of : Block → ℕ × ℕ
side_of b = (b.first, last_of b)

-- PREFIX
abbrev pub read_side : List (List ℕ) → ℕ → Result (Option (ℕ × ℕ)) QueryRefusal
read_side words n = read_as (λ w. option_map (λ b. Some (side_of b)) (prefix_of w)) words n

-- a range that isn't empty
abbrev pub some_ports : ℕ → ℕ × ℕ → Result (ℕ × ℕ) QueryRefusal
some_ports n r = if nat_le r.0 r.1 then Ok r else Err (refusals.EmptyRange n)

-- A-B
abbrev pub read_ports : List (List ℕ) → ℕ → Result (ℕ × ℕ) QueryRefusal
read_ports words n = do
  ports ← read_as range_of words n
  some_ports n ports

-- a number of boxes, at most so many
abbrev pub some_max : ℕ → ℕ → Result ℕ QueryRefusal
some_max most m = if nat_le 1 m && nat_le m most then Ok m else Err refusals.MaxOutOfRange

-- N, a number of at most ten digits, and at most so many
abbrev pub read_max_to : ℕ → List (List ℕ) → ℕ → Result ℕ QueryRefusal
read_max_to most words n = do
  m ← read_as (λ w. number_of w 9999999999) words n
  some_max most m

-- the rows that `reach` and `diff` may print
abbrev pub read_max : List (List ℕ) → ℕ → Result ℕ QueryRefusal
read_max words n = read_max_to 20000 words n

-- the boxes that a report of `ask` may have: more than 20,000 are the leaves of a tree
abbrev pub read_most_boxes : List (List ℕ) → ℕ → Result ℕ QueryRefusal
read_most_boxes words n = read_max_to 100000 words n

-- ---- the pairs

-- `sport` and `port`; a protocol without ports has 0 alone, and none of the two words
abbrev pub ports_pair : ℕ → List ℕ → List (List ℕ) → ℕ → Result (Taken (ℕ × ℕ)) QueryRefusal
ports_pair proto name words n =
    if has_ports proto then pair_or (0, 65535) name read_ports words n
    else Ok (record { value = (0, 0); next = n })

-- the pairs from the seventh word on, or the first word that can't be taken
abbrev pub pairs_of : List (List ℕ) → Result Pairs QueryRefusal
pairs_of words = do
  proto ← pair_or 6 (codes "proto") (read_as proto_of) words 7
  src ← pair_or None (codes "src") read_side words proto.next
  dst ← pair_or None (codes "dst") read_side words src.next
  p ← ports_pair proto.value (codes "sport") words dst.next
  q ← ports_pair proto.value (codes "port") words p.next
  max ← pair_or 20000 (codes "max") read_most_boxes words q.next
  end ← no_more words max.next
  Ok (record { proto = proto.value; src = src.value; dst = dst.value; p = p.value; q = q.value; max = max.value })

-- ---- what was taken

-- a side of a box that isn't empty
abbrev pub IsSide : ℕ × ℕ → Type 0
IsSide r = r.0 ≤ r.1

-- no side is empty, and the number of boxes is in its range
pub record AreTaken (pairs : Pairs) : Type 0 where
  pub src : IfSome pairs.src IsSide
  pub dst : IfSome pairs.dst IsSide
  pub p : IsSide pairs.p
  pub q : IsSide pairs.q
  pub least : 1 ≤ pairs.max
  pub most : pairs.max ≤ 100000

-- The words of a command that are read by a grammar alone.
use Rattle.std.specs.Prelude.{◌==◌, ◌-◌, ◌||◌, [], if◌then◌else◌, Bool, Err, List, None, Ok, Option, Result, Some, bytes_eq, codes, ok_or, slice_index_or, ℕ}
use Rattle.prefix_text.specs.Number.{number_of}
use Rattle.vpc_base.specs.declared.headers.Label.{Label}
use Rattle.vpc_base.specs.declared.headers.Label.TheVariants.{Answer, Opening}
use Rattle.query_words.specs.declared.refusal.QueryRefusal.{QueryRefusal}
use Rattle.query_words.specs.declared.refusal.QueryRefusal.TheVariants as refusals

-- ---- grammars

-- a packet's label
abbrev pub label_of : List ℕ → Option Label
label_of word =
    if bytes_eq word (codes "open") then Some Opening
    else (if bytes_eq word (codes "answer") then Some Answer else None)

-- a protocol by name or number
abbrev pub proto_of : List ℕ → Option ℕ
proto_of word =
    if bytes_eq word (codes "tcp") then Some 6
    else (if bytes_eq word (codes "udp") then Some 17
    else (if bytes_eq word (codes "icmp") then Some 1 else number_of word 255))

-- protocols other than ICMP, TCP and UDP have no ports
abbrev pub has_ports : ℕ → Bool
has_ports proto = (proto == 1) || ((proto == 6) || (proto == 17))

-- the greatest number in the place of a port
abbrev pub port_limit : ℕ → ℕ
port_limit proto = if has_ports proto then 65535 else 0

-- a port of the protocol
abbrev pub port_of : ℕ → List ℕ → Option ℕ
port_of proto word = number_of word (port_limit proto)

-- ---- words in their places

-- the word with this number, from 1
abbrev pub word_at : List (List ℕ) → ℕ → List ℕ
word_at words n = slice_index_or words (n - 1) []

-- what the word with this number is by the grammar of its place
abbrev pub read_as : {A : Type 0} → (List ℕ → Option A) → List (List ℕ) → ℕ → Result A QueryRefusal
read_as grammar words n = ok_or (grammar (word_at words n)) (refusals.BadWord n)

-- the word that belongs in this place
abbrev pub expect_word : List ℕ → List (List ℕ) → ℕ → Result (Unit {0}) QueryRefusal
expect_word wanted words n =
    if bytes_eq (word_at words n) wanted then Ok tt else Err (refusals.BadWord n)

-- What a line of a flow log says: version 2, in the default format (VPC User Guide, "Flow log records").
use Rattle.std.specs.List.{list_any}
use Rattle.std.specs.Option.{option_zip}
use Rattle.std.specs.Prelude.{◌==◌, ◌&&◌, ◌||◌, if◌then◌else◌, Bool, List, None, Option, Some, bytes_eq, codes, length, not, option_map, ℕ}
use Rattle.prefix_text.specs.Addr.{addr_of}
use Rattle.prefix_text.specs.Number.{number_of}
use Rattle.query_words.specs.Events.{words_of}
use Rattle.query_words.specs.Words.{word_at}
use Rattle.vpc_model.specs.Id.{is_id}
use Rattle.flow_check.specs.declared.records.Action.{Action}
use Rattle.flow_check.specs.declared.records.Action.TheVariants as actions
use Rattle.flow_check.specs.declared.records.Flow.{Flow}
use Rattle.flow_check.specs.declared.records.Ports.{Ports}
use Rattle.flow_check.specs.declared.records.Record.{Record}
use Rattle.flow_check.specs.declared.records.Record.TheVariants as records

-- what is read after a word that was taken
infixl 10 ◌>>=◌
abbrev pub ◌>>=◌ : {A B : Type 0} → Option A → (A → Option B) → Option B
(Some a) >>= next = next a
None >>= next = None

-- a line has fourteen words, with one blank between each two
abbrev pub has_fields : List (List ℕ) → Bool
has_fields words = (length words == 14) && not (list_any (λ w. length w == 0) words)

-- ---- the words

-- the id of an interface
abbrev pub eni_of : List ℕ → Option (List ℕ)
eni_of word = if is_id word then Some word else None

-- an IPv4 address; a word with a colon is one of IPv6, of which nothing is read
abbrev pub address_of : List ℕ → Option (Option ℕ)
address_of word = if list_any (λ c. c == 58) word then Some None else option_map (λ a. Some a) (addr_of word)

-- TCP or UDP, whose packets have a source port and a destination port
abbrev pub has_ports : ℕ → Bool
has_ports proto = (proto == 6) || (proto == 17)

-- a port; of other protocols the word is not read, and 0 stands in its place
abbrev pub port_of : ℕ → List ℕ → Option ℕ
port_of proto word = if has_ports proto then number_of word 65535 else Some 0

-- what became of the packets
abbrev pub action_of : List ℕ → Option Action
action_of word =
    if bytes_eq word (codes "ACCEPT") then Some actions.Accept
    else (if bytes_eq word (codes "REJECT") then Some actions.Reject else None)

-- ---- the line

-- the protocol and its ports: SRCPORT DSTPORT PROTOCOL are the words 6 to 8
abbrev pub ports_in : List (List ℕ) → Option Ports
ports_in words = do
  proto ← number_of (word_at words 8) 255
  p ← port_of proto (word_at words 6)
  q ← port_of proto (word_at words 7)
  Some (record { proto = proto; p = p; q = q })

-- the flow: INTERFACE-ID SRCADDR DSTADDR are the words 3 to 5, and ACTION is word 13
abbrev pub flow_in : List (List ℕ) → Option Flow
flow_in words = do
  eni ← eni_of (word_at words 3)
  ends ← option_zip (address_of (word_at words 4)) (address_of (word_at words 5))
  ports ← ports_in words
  action ← action_of (word_at words 13)
  Some (record { eni = eni; src = ends.0; dst = ends.1; ports = ports; action = action })

-- by the last word, LOG-STATUS: of an interval without packets, or of one that was left out, nothing else is read
abbrev pub record_by : List ℕ → List (List ℕ) → Option Record
record_by status words =
    if bytes_eq status (codes "NODATA") then Some records.NoData
    else (if bytes_eq status (codes "SKIPDATA") then Some records.SkipData
    else (if bytes_eq status (codes "OK") then option_map (λ f. records.Seen f) (flow_in words) else None))

-- what the words say; none where they are outside the grammar
abbrev pub record_in : List (List ℕ) → Option Record
record_in words =
    if has_fields words && bytes_eq (word_at words 1) (codes "2") then record_by (word_at words 14) words else None

-- what a line says, or none
abbrev pub record_of : List ℕ → Option Record
record_of line = record_in (words_of line)

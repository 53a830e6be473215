-- The words of a packet: `trace FILE LABEL from END PROTO SRC DST P Q`.
use Rattle.std.specs.Prelude.{List, Ok, Result, codes, ℕ}
use Rattle.prefix_text.specs.Addr.{addr_of}
use Rattle.vpc_laws.specs.Types.{Description, Event, Header}
use Rattle.query_words.specs.declared.refusal.QueryRefusal.{QueryRefusal}
use Rattle.query_words.specs.Ends.{end_of}
use Rattle.query_words.specs.Refusal.{◌>>=◌}
use Rattle.query_words.specs.Words.{expect_word, label_of, port_of, proto_of, read_as}

-- PROTO SRC DST P Q
abbrev pub header_of : List (List ℕ) → Result Header QueryRefusal
header_of words = do
  proto ← read_as proto_of words 6
  src ← read_as addr_of words 7
  dst ← read_as addr_of words 8
  p ← read_as (port_of proto) words 9
  q ← read_as (port_of proto) words 10
  Ok (record { proto = proto; src = src; dst = dst; p = p; q = q })

-- the packet, or the first word that can't be taken
abbrev pub packet_of : Description → List (List ℕ) → Result Event QueryRefusal
packet_of d words = do
  label ← read_as label_of words 3
  from ← expect_word (codes "from") words 4
  start ← end_of d words 5
  header ← header_of words
  Ok (record { label = label; start = start; header = header })

-- Lists of packets: a text with one packet a line.
use Rattle.std.specs.List.{filter_map, position_from, slice_split}
use Rattle.std.specs.Result.{result_ok}
use Rattle.std.specs.Prelude.{◌==◌, ◌≡◌, ◌-◌, ◌∷◌, [], if◌then◌else◌, Err, List, None, Ok, Option, Result, Some, codes, is_none, length, slice_index_or, take, true, ℕ}
use Rattle.std.specs.declared.vec.Vec.{Vec}
use Rattle.vpc_laws.specs.Types.{Description, Event}
use Rattle.vpc_model.specs.Place.{start_of}
use Rattle.vpc_model.specs.Sound.{is_sound}
use Rattle.query_words.specs.Packet.{packet_of}
use Rattle.query_words.specs.declared.events.EventFault.{EventFault}
use Rattle.query_words.specs.declared.events.EventFault.TheVariants as faults

-- ---- lines

-- the words of a line, with one blank between each two
abbrev pub words_of : List ℕ → List (List ℕ)
words_of line = slice_split (λ c. c == 32) line

-- a text without the newline at its end, if there is one
abbrev pub without_last_newline : List ℕ → List ℕ
without_last_newline text =
    let n = length text - 1 in
    if slice_index_or text n 0 == 10 then take n text else text

-- the lines of a text; an empty text has none, and the last line may lack its newline
abbrev pub lines_of : List ℕ → List (List ℕ)
lines_of text = if length text == 0 then [] else slice_split (λ c. c == 10) (without_last_newline text)

-- ---- packets

-- the packet of a line, `LABEL from END PROTO SRC DST P Q`, which are the words of `trace` after its name and its file
abbrev pub event_of : Description → List ℕ → Option Event
event_of d line =
    let words = words_of line in
    if length words == 8 then result_ok (packet_of d (codes "trace" ∷ [] ∷ words)) else None

-- the number, from 1, of the first line that is no packet
abbrev pub bad_line : Description → List (List ℕ) → Option ℕ
bad_line d lines = position_from (λ l. is_none (event_of d l)) 1 lines

-- the packets of the lines, or the first line that is none
abbrev pub events_in : Description → List (List ℕ) → Option ℕ → Result (List Event) ℕ
events_in d lines (Some number) = Err number
events_in d lines None = Ok (filter_map (event_of d) lines)

-- the packets of a text, one a line, or the number of the first line that is none
abbrev pub events_of : Description → List ℕ → Result (List Event) ℕ
events_of d text = let lines = lines_of text in events_in d lines (bad_line d lines)

-- ---- answers

-- the packets that are meant, or the first bad line, or memory was wanting
abbrev pub AreRead : {A : Type 0} → Result (List Event) ℕ → Result (Vec Event A) EventFault → Type 0
AreRead meant (Ok events) = meant ≡ Ok events.items
AreRead meant (Err (faults.BadLine number)) = meant ≡ Err number
AreRead meant (Err faults.Memory) = Unit {0}

-- a packet starts at a described end
abbrev pub StartsWell : Description → Event → Type 0
StartsWell d e = is_sound d (start_of e.start) ≡ true

-- What `make` answers: what the first host of a generated network reaches.
use Rattle.std.specs.List.{range_with_len}
use Rattle.std.specs.Prelude.{◌++◌, ◌-◌, ◌∷◌, ◌≡◌, ◌≤◌, [], List, None, Option, Some, codes, decimal, if◌then◌else◌, nat_le, option_and_then, ℕ}
use Rattle.block_report.specs.Words.{header_text, line_end, word}
use Rattle.header_boxes.specs.Rows.{IsFirst}
use Rattle.made_network.specs.Made.{host_address, interface_id, made}
use Rattle.network_reach.specs.Reached.{meaning_in}
use Rattle.prefix_text.specs.Addr.{addr_at}
use Rattle.prefix_text.specs.Number.{number_of}
use Rattle.query_words.specs.Words.{word_at}
use Rattle.query_words.specs.declared.queries.Query.{Query}
use Rattle.vpc_laws.specs.Types.{Description, End, Header}
use Rattle.vpc_model.specs.declared.places.End.TheVariants as places
use Rattle.command_job.specs.Lines.{line}
use Rattle.command_job.specs.declared.status.Status.{Status}
use Rattle.command_job.specs.declared.status.Status.TheVariants as ends

-- ---- the number

-- 1 to 50
abbrev pub made_count : List ℕ → Option ℕ
made_count text = option_and_then (λ n. if nat_le 1 n then Some n else None) (number_of text 50)

-- ---- what is asked

-- all TCP requests from the first host's address to some addresses
abbrev pub requests_to : End → ℕ × ℕ → Query
requests_to goal addresses = record {
  start = places.Interface (record { 0 = 0 });
  goal = goal;
  sides = record { proto = (6, 6); src = (host_address 1, host_address 1); dst = addresses; p = (0, 65535); q = (0, 65535) };
  max = 20000;
}

-- to the address of the host with this number
abbrev pub to_host : ℕ → Query
to_host k = requests_to (places.Interface (record { 0 = k - 1 })) (host_address k, host_address k)

-- to 198.51.100.0/24 on the internet
abbrev pub to_internet : Query
to_internet = requests_to places.Internet (addr_at 198 51 100 0, addr_at 198 51 100 255)

-- ---- what is printed

-- the first header that gets through, or that none does
abbrev pub found_text : Option Header → List ℕ
found_text None = word (codes "blocked")
found_text (Some h) = word (codes "reachable") ++ word (header_text h)

abbrev pub pair_text : List ℕ → Option Header → List ℕ
pair_text goal found = codes "pair eni-1" ++ word goal ++ found_text found ++ line_end

-- the line of a query to the end with this id
abbrev pub IsPair : Description → Query → List ℕ → List ℕ → Type 0
IsPair d query goal text = (found : Option Header) × (IsFirst (meaning_in d query) query.sides found × (text ≡ pair_text goal found))

-- those of the hosts with these numbers
abbrev pub ArePairs : Description → List ℕ → List ℕ → Type 0
ArePairs d [] text = text ≡ []
ArePairs d (k ∷ ks) text = (first : List ℕ) × ((rest : List ℕ) × (IsPair d (to_host k) (interface_id k) first × (ArePairs d ks rest × (text ≡ first ++ rest))))

-- such a text is added
abbrev pub Adds : (List ℕ → Type 0) → List ℕ → List ℕ → Type 0
Adds is old new = (text : List ℕ) × (is text × (new ≡ old ++ text))

-- a line for each host but the first, and one for the internet
pub record IsSurvey (n : ℕ) (text : List ℕ) : Type 0 where
  pub hosts : List ℕ
  pub internet : List ℕ
  pub pairs : ArePairs (made n) (range_with_len 2 (n - 1)) hosts
  pub last : IsPair (made n) to_internet (codes "internet") internet
  pub text_is : text ≡ line (codes "make" ++ word (decimal n)) ++ hosts ++ internet

-- the network of the number
pub record IsMadeOf (n : ℕ) (d : Description) : Type 0 where
  pub made_is : d ≡ made n
  pub least : 1 ≤ n
  pub most : n ≤ 50

-- what is answered to the number
pub record IsSurveyed (n : ℕ) (status : Status) (text : List ℕ) : Type 0 where
  pub status_is : status ≡ ends.Yes
  pub survey : IsSurvey n text

-- that the second word is no such number, or the survey of the network of the number
pub data IsMade (words : List (List ℕ)) (status : Status) (text : List ℕ) : Type 0 where
  refused : made_count (word_at words 2) ≡ None → status ≡ ends.Query → text ≡ line (codes "refused number 2") → IsMade words status text
  surveyed : (n : ℕ) → made_count (word_at words 2) ≡ Some n → IsSurveyed n status text → IsMade words status text

-- each number from 1 to 50 is answered
abbrev pub IsMakeDecided : List (List ℕ) → Status → Type 0
IsMakeDecided words status = (n : ℕ) → made_count (word_at words 2) ≡ Some n → status ≡ ends.Yes

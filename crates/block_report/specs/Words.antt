-- The words of printed lines. Each line ends with one newline. The format is this project's profile.
use Rattle.std.specs.Prelude.{◌==◌, ◌++◌, ◌∷◌, [], if◌then◌else◌, List, codes, decimal, ℕ}
use Rattle.vpc_laws.specs.Types.{Header}
use Rattle.prefix_text.specs.Addr.{addr_text}

-- a word after a blank
abbrev pub word : List ℕ → List ℕ
word text = codes " " ++ text

-- a newline
abbrev pub line_end : List ℕ
line_end = 10 ∷ []

-- a protocol by name or number
abbrev pub proto_text : ℕ → List ℕ
proto_text n = if n == 1 then codes "icmp" else (if n == 6 then codes "tcp" else (if n == 17 then codes "udp" else decimal n))

-- PROTO SRC DST P Q
abbrev pub header_text : Header → List ℕ
header_text h = proto_text h.proto ++ word (addr_text h.src) ++ word (addr_text h.dst) ++ word (decimal h.p) ++ word (decimal h.q)

-- a line of a name and a number
abbrev pub number_line : List ℕ → ℕ → List ℕ
number_line name n = name ++ word (decimal n) ++ line_end

-- a line of a name and a header
abbrev pub header_line : List ℕ → Header → List ℕ
header_line name h = name ++ word (header_text h) ++ line_end

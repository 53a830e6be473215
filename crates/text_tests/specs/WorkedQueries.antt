-- Worked commands: which packets the words of `ask` mean.
use Rattle.std.specs.Prelude.{◌==◌, ◌≡◌, ◌∷◌, [], Err, List, None, Ok, Option, Result, Some, codes, ℕ}
use Rattle.std.specs.List.{slice_split}
use Rattle.prefix_text.specs.Addr.{addr_at}
use Rattle.vpc_laws.specs.Types.{Description, End, Interface}
use Rattle.vpc_model.specs.declared.places.End.TheVariants as ends
use Rattle.vpc_model.specs.declared.rows.InterfaceKind.TheVariants as kinds
use Rattle.query_words.specs.declared.queries.Query.{Query}
use Rattle.query_words.specs.declared.refusal.QueryRefusal.{QueryRefusal}
use Rattle.query_words.specs.declared.refusal.QueryRefusal.TheVariants as refusals
use Rattle.query_words.specs.Query.{query_of}
use Rattle.text_tests.specs.WorkedPackets.{far, interface, network}

-- ---- a network

abbrev pub host : List ℕ → Option ℕ → Interface
host id primary = record (interface id kinds.Host) { primary = primary }

-- two hosts, two without a primary address, and a gateway's interface
abbrev pub asked_network : Description
asked_network = record network {
  interfaces =
      host (codes "eni-a") (Some (addr_at 10 0 1 10))
      ∷ host (codes "eni-b") (Some (addr_at 10 0 2 20))
      ∷ host (codes "eni-x") None
      ∷ host (codes "eni-y") None
      ∷ interface (codes "eni-n") kinds.Gateway
      ∷ [];
}

abbrev pub eni : ℕ → End
eni number = ends.Interface (record { 0 = number })

-- ---- rows

-- the words behind the file's name, with a blank between each two, and what they mean
abbrev pub Asks : List ℕ → Result Query QueryRefusal → Type 0
Asks text answer =
    query_of asked_network (codes "ask" ∷ codes "n.json" ∷ slice_split (λ c. c == 32) text) ≡ answer

-- each row's words mean what stands beside them
abbrev pub AskAll : List (List ℕ × Result Query QueryRefusal) → Type 0
AskAll [] = Unit {0}
AskAll (row ∷ rows) = Asks row.0 row.1 × AskAll rows

-- the words that follow two ends
abbrev pub asked : End → End → ℕ → ℕ × ℕ → ℕ × ℕ → ℕ × ℕ → ℕ × ℕ → ℕ → Result Query QueryRefusal
asked start goal proto src dst p q max = Ok (record {
  start = start;
  goal = goal;
  sides = record { proto = (proto, proto); src = src; dst = dst; p = p; q = q };
  max = max;
})

abbrev pub a_alone : ℕ × ℕ
a_alone = (addr_at 10 0 1 10, addr_at 10 0 1 10)

abbrev pub b_alone : ℕ × ℕ
b_alone = (addr_at 10 0 2 20, addr_at 10 0 2 20)

abbrev pub anywhere : ℕ × ℕ
anywhere = (0, addr_at 255 255 255 255)

abbrev pub any_port : ℕ × ℕ
any_port = (0, 65535)

-- from eni-a to eni-b over TCP
abbrev pub a_to_b : ℕ × ℕ → ℕ × ℕ → ℕ → Result Query QueryRefusal
a_to_b p q max = asked (eni 0) (eni 1) 6 a_alone b_alone p q max

-- what is meant by default, for each kind of end
abbrev pub TakesEnds : Type 0
TakesEnds = AskAll
    ((codes "from eni-a to eni-b", a_to_b any_port any_port 20000)
    ∷ (codes "from eni-a to eni-a", asked (eni 0) (eni 0) 6 a_alone a_alone any_port any_port 20000)
    ∷ (codes "from eni-a to internet", asked (eni 0) ends.Internet 6 a_alone anywhere any_port any_port 20000)
    ∷ (codes "from internet to eni-a", asked ends.Internet (eni 0) 6 anywhere anywhere any_port any_port 20000)
    ∷ (codes "from internet to eni-x", asked ends.Internet (eni 2) 6 anywhere anywhere any_port any_port 20000)
    ∷ [])

-- every address is meant at a network that isn't described, and where a packet of one goes
abbrev pub TakesFarEnds : Type 0
TakesFarEnds = AskAll
    ((codes "from eni-a to vgw-1", asked (eni 0) (far 0) 6 a_alone anywhere any_port any_port 20000)
    ∷ (codes "from vgw-1 to eni-b", asked (far 0) (eni 1) 6 anywhere anywhere any_port any_port 20000)
    ∷ (codes "from vgw-1 to eni-x", asked (far 0) (eni 2) 6 anywhere anywhere any_port any_port 20000)
    ∷ (codes "from vgw-1 to att-out", asked (far 0) (far 2) 6 anywhere anywhere any_port any_port 20000)
    ∷ (codes "from internet to vgw-1", asked ends.Internet (far 0) 6 anywhere anywhere any_port any_port 20000)
    ∷ (codes "from vgw-1 to internet", asked (far 0) ends.Internet 6 anywhere anywhere any_port any_port 20000)
    ∷ (codes "from eni-a to vpce-s3 port 443-443", asked (eni 0) (far 3) 6 a_alone anywhere any_port (443, 443) 20000)
    ∷ (
      codes "from vgw-1 to eni-b src 10.0.1.9/24 dst 10.0.2.20/32",
      asked (far 0) (eni 1) 6 (addr_at 10 0 1 0, addr_at 10 0 1 255) b_alone any_port any_port 20000,
    )
    ∷ [])

-- each pair alone, and all of them
abbrev pub TakesPairs : Type 0
TakesPairs = AskAll
    ((codes "from eni-a to eni-b proto udp", asked (eni 0) (eni 1) 17 a_alone b_alone any_port any_port 20000)
    ∷ (codes "from eni-a to eni-b proto 50", asked (eni 0) (eni 1) 50 a_alone b_alone (0, 0) (0, 0) 20000)
    ∷ (
      codes "from eni-a to eni-b proto icmp port 0-2047",
      asked (eni 0) (eni 1) 1 a_alone b_alone any_port (0, 2047) 20000,
    )
    ∷ (
      codes "from eni-a to eni-b src 10.0.1.9/24",
      asked (eni 0) (eni 1) 6 (addr_at 10 0 1 0, addr_at 10 0 1 255) b_alone any_port any_port 20000,
    )
    ∷ (codes "from eni-a to eni-b dst 0.0.0.0/0", asked (eni 0) (eni 1) 6 a_alone anywhere any_port any_port 20000)
    ∷ (codes "from eni-a to eni-b sport 0-32767", a_to_b (0, 32767) any_port 20000)
    ∷ (codes "from eni-a to eni-b port 80-80", a_to_b any_port (80, 80) 20000)
    ∷ (codes "from eni-a to eni-b max 1", a_to_b any_port any_port 1)
    ∷ (codes "from eni-a to eni-b max 20000", a_to_b any_port any_port 20000)
    ∷ (codes "from eni-a to eni-b max 100000", a_to_b any_port any_port 100000)
    ∷ (codes "from eni-a to eni-b sport 5000-5000 max 3", a_to_b (5000, 5000) any_port 3)
    ∷ (
      codes "from internet to eni-a src 198.51.100.0/24 dst 203.0.113.10/32 port 22-22",
      asked ends.Internet (eni 0) 6 (addr_at 198 51 100 0, addr_at 198 51 100 255) (addr_at 203 0 113 10, addr_at 203 0 113 10) any_port (22, 22) 20000,
    )
    ∷ (
      codes "from eni-a to eni-b proto 17 src 10.0.2.20/32 dst 10.0.1.10/32 sport 1-2 port 3-4 max 5",
      asked (eni 0) (eni 1) 17 b_alone a_alone (1, 2) (3, 4) 5,
    )
    ∷ [])

-- the first word from the left that can't be taken, among those of the ends
abbrev pub RefusesEnds : Type 0
RefusesEnds = AskAll
    ((codes "form eni-z of eni-z", Err (refusals.BadWord 3))
    ∷ (codes "from eni-z of eni-z", Err (refusals.UnknownId 4))
    ∷ (codes "from eni-n of eni-z", Err (refusals.NotAnEnd (codes "eni-n")))
    ∷ (codes "from eni-a of eni-z", Err (refusals.BadWord 5))
    ∷ (codes "from eni-a to eni-z port", Err (refusals.UnknownId 6))
    ∷ (codes "from eni-a to eni-n port 90-80", Err (refusals.NotAnEnd (codes "eni-n")))
    ∷ (codes "from internet to internet port 90-80", Err refusals.BothInternet)
    ∷ (codes "from att-in of eni-z", Err (refusals.NotAnEnd (codes "att-in")))
    ∷ (codes "from vgw-1 to att-in port 90-80", Err (refusals.NotAnEnd (codes "att-in")))
    ∷ (codes "from vpce-s3 of eni-z", Err (refusals.NotAStart 4))
    ∷ (codes "from vpce-s3 to vpce-s3", Err (refusals.NotAStart 4))
    ∷ [])

-- a name that is unknown, repeated or out of its place, or that of a pair which the protocol has not
abbrev pub RefusesNames : Type 0
RefusesNames = AskAll
    ((codes "from eni-a to eni-b ports 90-80", Err (refusals.BadWord 7))
    ∷ (codes "from eni-a to eni-b proto tcp proto tcp", Err (refusals.BadWord 9))
    ∷ (codes "from eni-a to eni-b src 10.0.0.0/8 proto tcp", Err (refusals.BadWord 9))
    ∷ (codes "from eni-a to eni-b dst 10.0.0.0/8 src 10.0.0.0/8", Err (refusals.BadWord 9))
    ∷ (codes "from eni-a to eni-b sport 1-1 dst 10.0.0.0/8", Err (refusals.BadWord 9))
    ∷ (codes "from eni-a to eni-b port 1-1 sport 1-1", Err (refusals.BadWord 9))
    ∷ (codes "from eni-a to eni-b max 1 port 1-1", Err (refusals.BadWord 9))
    ∷ (codes "from eni-a to eni-b port 80-80 port 80-80", Err (refusals.BadWord 9))
    ∷ (codes "from eni-a to eni-b max 1 max 1", Err (refusals.BadWord 9))
    ∷ (codes "from eni-a to eni-b proto 50 sport 0-0", Err (refusals.BadWord 9))
    ∷ (codes "from eni-a to eni-b proto 50 port 90-80 max 0", Err (refusals.BadWord 9))
    ∷ (
      codes "from eni-a to eni-b proto tcp src 10.0.0.0/8 dst 10.0.0.0/8 sport 1-1 port 1-1 more 1",
      Err (refusals.BadWord 17),
    )
    ∷ [])

-- a value that its pair can't have
abbrev pub RefusesValues : Type 0
RefusesValues = AskAll
    ((codes "from eni-a to eni-b proto 256", Err (refusals.BadWord 8))
    ∷ (codes "from eni-a to eni-b src 10.0.0.0", Err (refusals.BadWord 8))
    ∷ (codes "from eni-a to eni-b dst 10.0.0.0/33", Err (refusals.BadWord 8))
    ∷ (codes "from eni-a to eni-b sport 80", Err (refusals.BadWord 8))
    ∷ (codes "from eni-a to eni-b port 0-65536", Err (refusals.BadWord 8))
    ∷ (codes "from eni-a to eni-b port 90-80", Err (refusals.EmptyRange 8))
    ∷ (codes "from eni-a to eni-b sport 90-80 port 90-80", Err (refusals.EmptyRange 8))
    ∷ (codes "from eni-a to eni-b src 10.0.0.0/8 sport 2-1 max x", Err (refusals.EmptyRange 10))
    ∷ (codes "from eni-a to eni-b max 0", Err refusals.MaxOutOfRange)
    ∷ (codes "from eni-a to eni-b max 100001", Err refusals.MaxOutOfRange)
    ∷ (codes "from eni-a to eni-b max 4294967296", Err refusals.MaxOutOfRange)
    ∷ (codes "from eni-a to eni-b max 9999999999", Err refusals.MaxOutOfRange)
    ∷ (codes "from eni-a to eni-b max 10000000000", Err (refusals.BadWord 8))
    ∷ (codes "from eni-a to eni-b max 00", Err (refusals.BadWord 8))
    ∷ (codes "from eni-a to eni-b max 07", Err (refusals.BadWord 8))
    ∷ (codes "from eni-a to eni-b max 0 more 1", Err refusals.MaxOutOfRange)
    ∷ [])

-- an end without a primary address, where a default needs it; told last, the start's first
abbrev pub RefusesLackOfAddresses : Type 0
RefusesLackOfAddresses = AskAll
    ((codes "from eni-x to eni-a", Err (refusals.NoAddress (codes "eni-x")))
    ∷ (codes "from eni-a to eni-x", Err (refusals.NoAddress (codes "eni-x")))
    ∷ (codes "from eni-x to eni-y", Err (refusals.NoAddress (codes "eni-x")))
    ∷ (codes "from eni-x to eni-y src 10.0.1.10/32", Err (refusals.NoAddress (codes "eni-y")))
    ∷ (codes "from eni-x to eni-y dst 10.0.1.10/32", Err (refusals.NoAddress (codes "eni-x")))
    ∷ (
      codes "from eni-x to eni-y src 10.0.1.10/32 dst 10.0.2.20/32",
      asked (eni 2) (eni 3) 6 a_alone b_alone any_port any_port 20000,
    )
    ∷ (codes "from eni-x to internet", Err (refusals.NoAddress (codes "eni-x")))
    ∷ (codes "from eni-x to vgw-1", Err (refusals.NoAddress (codes "eni-x")))
    ∷ (codes "from eni-x to eni-y port 90-80", Err (refusals.EmptyRange 8))
    ∷ (codes "from eni-x to eni-y max 1 max 1", Err (refusals.BadWord 9))
    ∷ [])

-- Blocks of addresses (CIDR, RFC 4632).
use Rattle.std.specs.Prelude.{ℕ, ◌≡◌, ◌≤◌, ◌<◌, ◌+◌, ◌-◌, ◌%◌, ◌^◌, ◌&&◌, nat_le, Bool, ◌==◌, List, ◌++◌, codes, decimal, Option, Some, option_map}
use Rattle.std.specs.List.{before_first, after_first}
use Rattle.std.specs.Option.{option_zip}
use Rattle.prefix_text.specs.Number.{number_of}
use Rattle.prefix_text.specs.Addr.{addr_of, addr_text}

-- a block: its least address, and how many leading bits its addresses share
pub record Block : Type 0 where
  pub first : ℕ
  pub length : ℕ

-- how many addresses a block of this length holds
abbrev pub size_of : ℕ → ℕ
size_of length = 2 ^ (32 - length)

-- the greatest address of the block
abbrev pub last_of : Block → ℕ
last_of b = b.first + (size_of b.length - 1)

-- the block holds the address
abbrev pub holds : ℕ → Block → Bool
holds addr b = nat_le b.first addr && nat_le addr (last_of b)

-- the block of this length that holds the address
abbrev pub block_of : ℕ → ℕ → Block
block_of addr length = record { first = addr - addr % size_of length; length = length }

-- an address and a length in CIDR notation
abbrev pub cidr_text : ℕ → ℕ → List ℕ
cidr_text addr length = addr_text addr ++ codes "/" ++ decimal length

-- the block's least address and its length
abbrev pub block_text : Block → List ℕ
block_text b = cidr_text b.first b.length

-- the block that the text writes: an address and a length up to 32, joined by a slash
abbrev pub prefix_of : List ℕ → Option Block
prefix_of text =
    option_map (λ p. block_of p.0 p.1)
    (option_zip (addr_of (before_first (λ c. c == 47) text))
    (number_of (after_first (λ c. c == 47) text) 32))

-- the length is at most 32, the host bits are clear, and the addresses fit 32 bits
pub record IsBlock (b : Block) : Type 0 where
  pub short : b.length ≤ 32
  pub clear : b.first % size_of b.length ≡ 0
  pub fits : last_of b < 2 ^ 32

-- a block reads as itself
abbrev pub PrefixesReadBack : Type 0
PrefixesReadBack = (b : Block) → IsBlock b → prefix_of (block_text b) ≡ Some b

-- host bits that are set are cleared
abbrev pub HostBitsAreCleared : Type 0
HostBitsAreCleared =
    (addr length : ℕ) → addr < 2 ^ 32 → length ≤ 32
    → prefix_of (cidr_text addr length) ≡ Some (block_of addr length)

-- the text is an address and a length in CIDR notation, and the block is the one around the address
pub record IsPrefixText (text : List ℕ) (b : Block) : Type 0 where
  pub addr : ℕ
  pub length : ℕ
  pub addr_fits : addr < 2 ^ 32
  pub short : length ≤ 32
  pub spelled : text ≡ cidr_text addr length
  pub around : b ≡ block_of addr length

-- no other text reads as a block
abbrev pub PrefixesHaveOneForm : Type 0
PrefixesHaveOneForm =
    (text : List ℕ) (b : Block) → prefix_of text ≡ Some b → IsPrefixText text b × IsBlock b

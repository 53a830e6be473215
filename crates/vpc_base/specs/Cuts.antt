-- Cuts: numbers that divide the sides of a box. A cut c divides between c - 1 and c.
use Rattle.std.specs.Prelude.{ℕ, ◌≡◌, ◌+◌, ◌⊎◌, List, Contains, ◌++◌, [], ◌↔◌}

-- the cuts of protocols, of addresses (sources and destinations alike), of p and of q
pub record CutLists : Type 0 where
  pub proto : List ℕ
  pub addr : List ℕ
  pub p : List ℕ
  pub q : List ℕ

-- no cuts
abbrev pub no_cuts : CutLists
no_cuts = record { proto = []; addr = []; p = []; q = [] }

-- the cuts of both
abbrev pub joined_cuts : CutLists → CutLists → CutLists
joined_cuts a b = record { proto = a.proto ++ b.proto; addr = a.addr ++ b.addr; p = a.p ++ b.p; q = a.q ++ b.q }

-- each cut of the first is one of the second
pub record AreAmong (a b : CutLists) : Type 0 where
  pub proto : (c : ℕ) → Contains a.proto c → Contains b.proto c
  pub addr : (c : ℕ) → Contains a.addr c → Contains b.addr c
  pub p : (c : ℕ) → Contains a.p c → Contains b.p c
  pub q : (c : ℕ) → Contains a.q c → Contains b.q c

-- a closed range of a part begins at a cut or where the whole's begins, and ends before a cut or where the whole's ends
pub record IsSideAligned (cuts : List ℕ) (part whole : ℕ × ℕ) : Type 0 where
  pub begins : (part.0 ≡ whole.0) ⊎ Contains cuts part.0
  pub ends : (part.1 ≡ whole.1) ⊎ Contains cuts (part.1 + 1)

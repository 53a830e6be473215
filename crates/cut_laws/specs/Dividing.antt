-- Which cuts divide enough for a test of addresses, a rule or a box: at all numbers where its answer may turn.
use Rattle.std.specs.List.{flat_map}
use Rattle.std.specs.Prelude.{◌≡◌, ◌+◌, ◌<◌, ◌≤◌, ◌⊎◌, Bool, Contains, List, not, true, ℕ}
use Rattle.vpc_base.specs.Cuts.{AreAmong, CutLists, joined_cuts}
use Rattle.vpc_model.specs.Cuts.{address_cuts, cuts_of_blocks, fixed_cuts, on_sides}

-- the cuts have the others, those that lie on their sides
abbrev pub Divide : CutLists → CutLists → Type 0
Divide few cuts = AreAmong (on_sides few) cuts

-- they divide wherever the test of addresses turns
abbrev pub DivideTurns : (ℕ → Bool) → CutLists → Type 0
DivideTurns test cuts = (a : ℕ) → a < 4294967295 → test (a + 1) ≡ not (test a) → Contains cuts.addr (a + 1)

-- they divide before and after each address that passes the test
abbrev pub CutOut : (ℕ → Bool) → CutLists → Type 0
CutOut test cuts = (a : ℕ) → a ≤ 4294967295 → test a ≡ true → Divide (cuts_of_blocks (address_cuts a)) cuts

-- they divide at the first address of each piece; 0 divides nothing
abbrev pub DivideFirsts : List ℕ → CutLists → Type 0
DivideFirsts firsts cuts = (f : ℕ) → Contains firsts f → (f ≡ 0) ⊎ Contains cuts.addr f

-- they divide where every network is cut, and before and after these addresses
abbrev pub DivideAddresses : List ℕ → CutLists → Type 0
DivideAddresses addresses cuts = Divide (joined_cuts fixed_cuts (cuts_of_blocks (flat_map address_cuts addresses))) cuts

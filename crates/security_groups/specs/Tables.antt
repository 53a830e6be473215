-- Rules in runs, with the greatest last port of each.
use Rattle.std.specs.List.{All, AllZip}
use Rattle.std.specs.List.Sorted.{IsNonDecreasingBy}
use Rattle.std.specs.Prelude.{◌*◌, ◌+◌, ◌<◌, ◌≡◌, ◌≤◌, List, drop, length, slice_index_or, take, ℕ}
use Rattle.security_groups.specs.declared.rules.Rule.{Rule}

-- the rules of a run
abbrev pub run_of : ℕ → List Rule → List Rule
run_of k rules = take 16 (drop (16 * k) rules)

-- no rule's ports end after this one
abbrev pub EndBy : ℕ → List Rule → Type 0
EndBy last rules = All (λ r. r.q_to ≤ last) rules

-- a port for each run, by which its rules end
pub record AreLasts (rules : List Rule) (lasts : List ℕ) : Type 0 where
  pub cover : length rules ≤ 16 * length lasts
  pub tight : 16 * length lasts < length rules + 16
  pub ends : (k : ℕ) → k < length lasts → EndBy (slice_index_or lasts k 0) (run_of k rules)

-- for each run a port by which it and those before it end
pub record AreTops (lasts tops : List ℕ) : Type 0 where
  pub ascend : IsNonDecreasingBy (λ t. t) tops
  pub above : AllZip (λ last top. last ≤ top) lasts tops

-- the first runs of a number end before a port
pub record AreEnded (lasts : List ℕ) (q n : ℕ) : Type 0 where
  pub few : n ≤ length lasts
  pub before : (k : ℕ) → k < n → slice_index_or lasts k 0 < q

-- they ascend by their first ports
pub record IsTable (rules : List Rule) (ports highest : List ℕ) : Type 0 where
  pub ascend : IsNonDecreasingBy (λ r. r.q_from) rules
  pub lasts : AreLasts rules ports
  pub tops : AreTops ports highest

-- the rules from a number on begin after a port
abbrev pub BeginAfter : List Rule → ℕ → ℕ → Type 0
BeginAfter rules n q = All (λ r. q < r.q_from) (drop n rules)

-- all but those that begin after a port
pub record AreBegun (all : List Rule) (q : ℕ) (rules : List Rule) : Type 0 where
  pub few : length rules ≤ length all
  pub first : rules ≡ take (length rules) all
  pub later : BeginAfter all (length rules) q

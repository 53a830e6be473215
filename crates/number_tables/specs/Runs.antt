-- Values by runs of keys.
use Rattle.std.specs.List.{count_by}
use Rattle.std.specs.List.Sorted.{IsNonDecreasingBy}
use Rattle.std.specs.Prelude.{◌&&◌, ◌+◌, ◌≡◌, ◌≤◌, ◌⊎◌, All, Bool, Contains, List, Option, find, nat_le, option_map, true, ℕ}
use Rattle.number_tables.specs.declared.runs.KeyRun.{KeyRun}

-- the run has the key
abbrev pub has_key : {T : Type 0} → ℕ → KeyRun T → Bool
has_key k r = nat_le r.first k && nat_le k r.last

-- the run has some key
abbrev pub has_some : {T : Type 0} → KeyRun T → Bool
has_some r = nat_le r.first r.last

-- the value of the first run that has the key
abbrev pub value_of : {T : Type 0} → ℕ → List (KeyRun T) → Option T
value_of k runs = option_map (λ r. r.value) (find (has_key k) runs)

-- no two of the runs have a key in common
abbrev pub AreApart : {T : Type 0} → List (KeyRun T) → Type 0
AreApart runs = (k : ℕ) → count_by (has_key k) runs ≤ 1

-- such runs, each of which has some key, in ascending order
pub record AreRuns {T : Type 0} (runs : List (KeyRun T)) : Type 0 where
  pub some : All (λ r. has_some r ≡ true) runs
  pub apart : AreApart runs
  pub ascend : IsNonDecreasingBy (λ r. r.last) runs

-- from a key up to the last one all have one value, or none has any; a run ends with the last one or begins right after it
pub record IsStretch {T : Type 0} (runs : List (KeyRun T)) (k : ℕ) (x : ℕ × Option T) : Type 0 where
  pub from : k ≤ x.0
  pub alike : (j : ℕ) → k ≤ j → j ≤ x.0 → value_of j runs ≡ x.1
  pub ends : (x.0 ≡ 18446744073709551615) ⊎ ((r : KeyRun T) × Contains runs r × ((r.first ≡ x.0 + 1) ⊎ (r.last ≡ x.0)))

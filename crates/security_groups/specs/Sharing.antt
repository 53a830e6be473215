-- What two sets of keys have in common.
use Rattle.std.specs.List.{list_any}
use Rattle.std.specs.Prelude.{◌<◌, ◌==◌, ◌↔◌, ◌≡◌, ◌^◌, ◌≤◌, Bool, IsTrue, List, None, Option, Some, false, true, ℕ}
use Rattle.number_tables.specs.Entries.{value_at}
use Rattle.number_tables.specs.Keys.{key_of}
use Rattle.number_tables.specs.declared.tables.Entry.{Entry}

-- the set has two numbers as a key
abbrev pub has_pair : List ℕ → ℕ → ℕ → Bool
has_pair keys high low = list_any (λ n. n == key_of high low) keys

-- a number of 32 bits makes a key of one set with x, and one of the other with y
pub record Shares (keys : List ℕ) (x : ℕ) (others : List ℕ) (y : ℕ) : Type 0 where
  pub number : ℕ
  pub fits : number < 2 ^ 32
  pub one : has_pair keys x number ≡ true
  pub other : has_pair others y number ≡ true

-- the least number from low on that makes a key with the high one
abbrev pub IsLowFrom : List ℕ → ℕ → ℕ → Option ℕ → Type 0
IsLowFrom keys high low None = (k : ℕ) → low ≤ k → k < 2 ^ 32 → has_pair keys high k ≡ false
IsLowFrom keys high low (Some n) = (low ≤ n) × (n < 2 ^ 32) × (has_pair keys high n ≡ true) × ((k : ℕ) → low ≤ k → k < n → has_pair keys high k ≡ false)

-- one of the numbers that make keys with x shares one with y in the other set
pub record AnyShares (keys : List ℕ) (x : ℕ) (others : List ℕ) (y : ℕ) : Type 0 where
  pub number : ℕ
  pub fits : number < 2 ^ 32
  pub has : has_pair keys x number ≡ true
  pub shares : Shares others number others y

-- an entry tells whether the two numbers of its key share one
abbrev pub IsToldShare : List ℕ → Entry Bool → Type 0
IsToldShare keys e = (x y : ℕ) → x < 2 ^ 32 → y < 2 ^ 32 → e.key ≡ key_of x y → IsTrue e.value ↔ Shares keys x keys y

-- and so does what is found by a key
abbrev pub AreToldShares : List ℕ → List (Entry Bool) → Type 0
AreToldShares keys told = (x y : ℕ) (b : Bool) → x < 2 ^ 32 → y < 2 ^ 32 → value_at (key_of x y) told ≡ Some b → IsTrue b ↔ Shares keys x keys y

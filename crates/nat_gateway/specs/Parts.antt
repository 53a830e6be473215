-- The tables of a book.
use Rattle.std.specs.Prelude.{List, ℕ}
use Rattle.nat_gateway.specs.declared.parts.Afters.{Afters}
use Rattle.nat_gateway.specs.declared.parts.Befores.{Befores}
use Rattle.nat_gateway.specs.declared.parts.Counts.{Counts}
use Rattle.nat_gateway.specs.declared.sent.Sent.{Sent}
use Rattle.nat_gateway.specs.Tables.{AreAfters, AreBefores, AreCounts, ArePorts, IsFirst}
use Rattle.vpc_laws.specs.Translations.{IsBook}
use Rattle.vpc_model.specs.Nat.{Translation}

abbrev pub HasAfters : Afters → List Translation → Type 0
HasAfters a ts = AreAfters a.table ts

abbrev pub HasBefores : Befores → List Translation → Type 0
HasBefores b ts = AreBefores b.table ts

abbrev pub HasCounts : Counts → List Translation → Type 0
HasCounts c ts = AreCounts c.table ts

-- translations in order, and of each table how many first ones it has
pub record IsKept (ts : List Translation) (a : Afters) (m : ℕ) (b : Befores) (n : ℕ) (p : List (Sent × ℕ)) (k : ℕ) (c : Counts) (l : ℕ) : Type 0 where
  pub in_order : IsBook ts
  pub afters : IsFirst HasAfters a m ts
  pub befores : IsFirst HasBefores b n ts
  pub ports : IsFirst ArePorts p k ts
  pub counts : IsFirst HasCounts c l ts

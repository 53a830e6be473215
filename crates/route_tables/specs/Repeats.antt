-- Routes that use one prefix list alike. Of these the first comes before the others at every address, so they never decide.
use Rattle.std.specs.Bool.{beq}
use Rattle.std.specs.List.{list_any}
use Rattle.std.specs.Prelude.{◌&&◌, ◌∷◌, ◌++◌, [], Bool, List, None, Option, Some, bytes_eq, false, if◌then◌else◌, length, ℕ}
use Rattle.block_pieces.specs.declared.rows.BlockRow.{BlockRow}
use Rattle.vpc_laws.specs.Types.{Reach, Route}
use Rattle.vpc_model.specs.declared.rows.Reach.TheVariants as reaches
use Rattle.vpc_model.specs.Routes.{is_local}

-- how a route uses a prefix list
pub record ListUse : Type 0 where
  pub list : List ℕ
  pub propagated : Bool
  pub local : Bool

-- by the id of the list
abbrev pub same_use : ListUse → ListUse → Bool
same_use x y = (bytes_eq x.list y.list && beq x.propagated y.propagated) && beq x.local y.local

-- a route to a block uses none
abbrev pub use_by : Reach → Bool → Bool → Option ListUse
use_by (reaches.Block b) propagated local = None
use_by (reaches.List id) propagated local = Some (record { list = id; propagated = propagated; local = local })

-- the route's use of a prefix list
abbrev pub use_of : Route → Option ListUse
use_of r = use_by r.reach r.propagated (is_local r.target)

-- both use a list, and they do so alike
abbrev pub is_same : Option ListUse → Option ListUse → Bool
is_same None o = false
is_same (Some x) None = false
is_same (Some x) (Some y) = same_use x y

-- an earlier route uses the same list alike
abbrev pub is_repeat : List Route → Route → Bool
is_repeat earlier r = list_any (λ s. is_same (use_of r) (use_of s)) earlier

-- the use is one of some
abbrev pub is_known : List ListUse → Option ListUse → Bool
is_known seen None = false
is_known seen (Some u) = list_any (same_use u) seen

-- one more, where there is one
abbrev pub with_use : List ListUse → Option ListUse → List ListUse
with_use seen None = seen
with_use seen (Some u) = seen ++ u ∷ []

-- what the routes give by their numbers, without those that repeat earlier ones
abbrev pub given_once : (ℕ → Route → List BlockRow) → List Route → List Route → List BlockRow
given_once give earlier [] = []
given_once give earlier (r ∷ rs) = (if is_repeat earlier r then [] else give (length earlier) r) ++ given_once give (earlier ++ r ∷ []) rs

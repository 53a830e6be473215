-- The route that a table chooses for a destination (VPC User Guide, "Route priority").
use Rattle.std.specs.List.{list_any}
use Rattle.std.specs.Prelude.{◌==◌, ◌&&◌, ◌||◌, if◌then◌else◌, Bool, List, None, Option, Some, false, is_some, nat_lt, not, option_map, true, unwrap_or, ℕ}
use Rattle.vpc_model.specs.Types.{Description, Reach, Route, Target}
use Rattle.vpc_model.specs.declared.rows.Reach.TheVariants as reaches
use Rattle.vpc_model.specs.declared.rows.Target.TheVariants as targets
use Rattle.prefix_text.specs.Block.{holds}
use Rattle.vpc_model.specs.Choice.{chosen, chosen_number}
use Rattle.vpc_model.specs.Lookup.{entries_of}

-- the length of the block that holds the address, or of the longest such entry of the prefix list (VPC User Guide, "Route priority")
abbrev pub match_length : Description → ℕ → Reach → Option ℕ
match_length d a (reaches.Block b) = if holds a b then Some b.length else None
match_length d a (reaches.List id) = option_map (λ b. b.length) (chosen (holds a) (λ x y. nat_lt y.length x.length) (entries_of d id))

-- the local route of a VPC (VPC User Guide, "Route tables")
abbrev pub is_local : Target → Bool
is_local targets.Local = true
is_local _ = false

-- the route matches the address (VPC User Guide, "Route priority")
abbrev pub matches : Description → ℕ → Route → Bool
matches d a r = is_some (match_length d a r.reach)

-- a route that matches, unless it is propagated and a local route matches too (VPC User Guide, "Route priority")
abbrev pub is_candidate : Description → List Route → ℕ → Route → Bool
is_candidate d routes a r = matches d a r && not ((r.propagated && not (is_local r.target)) && list_any (λ l. is_local l.target && matches d a l) routes)

-- routes to blocks come before routes to prefix lists (VPC User Guide, "Route priority")
abbrev pub kind_of_reach : Reach → ℕ
kind_of_reach (reaches.Block b) = 0
kind_of_reach (reaches.List id) = 1

-- the kind by which routes of equal length are told apart: propagated routes come last (profile)
abbrev pub kind_of : Route → ℕ
kind_of r = if r.propagated then 2 else kind_of_reach r.reach

-- the first route matches with a longer prefix, or an equally long one and is of a kind before (VPC User Guide, "Route priority")
abbrev pub beats : Description → ℕ → Route → Route → Bool
beats d a r s =
    let m = unwrap_or (match_length d a r.reach) 0 in
    let n = unwrap_or (match_length d a s.reach) 0 in
    nat_lt n m || (m == n && nat_lt (kind_of r) (kind_of s))

-- the number of the chosen route, where the profile takes the first of equal ones (VPC User Guide, "Route priority")
abbrev pub chosen_route : Description → List Route → ℕ → Option ℕ
chosen_route d routes a = chosen_number (is_candidate d routes a) (beats d a) routes

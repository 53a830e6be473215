-- Walks that are turned to one start after the other.
use Rattle.std.specs.Prelude.{◌≡◌, List, Option, ℕ}
use Rattle.box_gather.specs.Over.{IsGatheredOver}
use Rattle.box_walk.specs.Journeys.{reached_of}
use Rattle.header_boxes.specs.declared.boxes.Box5.{Box5}
use Rattle.ordered_cover.specs.declared.rows.Gathered.{Gathered}
use Rattle.vpc_laws.specs.Types.{Description, End}
use Rattle.vpc_model.specs.Appliances.{appliances_of}
use Rattle.vpc_model.specs.Cuts.{cuts_of}
use Rattle.vpc_model.specs.Verdict.{Homes}

-- those with a goal and those without one are of the described network
pub record AreOf (d toward to_any : Description) : Type 0 where
  pub with_goal : toward ≡ d
  pub without : to_any ≡ d

-- which headers of the boxes reach an end from the start, where their replies may arrive at its homes: the goal if there is one, with the
-- described appliances
abbrev pub IsGatheredIn : Description → Homes → Option End → List Box5 → ℕ → Gathered End → Type 0
IsGatheredIn d homes goal boxes room = IsGatheredOver (reached_of d (appliances_of d) homes goal) (cuts_of d) boxes room

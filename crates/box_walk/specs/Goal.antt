-- What is told of requests toward a goal.
use Rattle.std.specs.Prelude.{None, Option, Some}
use Rattle.vpc_laws.specs.Types.{End}

-- the goal, where nothing stops them
abbrev pub goal_unless : End → Option (Unit {0}) → Option End
goal_unless goal None = Some goal
goal_unless goal (Some told) = None

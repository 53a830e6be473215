use Rattle.std.proofs.Common.{◌≡◌, ◌++◌, filter, not, take}
use Rattle.changed_ends.specs.Asked.{is_goal}
use Rattle.changed_ends.proofs.starts.add_outside.Given as goal

abbrev pub invariant-loop-end : goal.invariant-loop-end
invariant-loop-end l = l.starts.items ≡ l.initial.starts.items ++ filter (λ e. not (is_goal l.goal e)) (take l.end-index l.outside)

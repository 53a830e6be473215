use Rattle.std.proofs.Common.{ℕ, ◌<◌}
use Rattle.box_survey.specs.Survey.{ShareAt}
use Rattle.box_survey.proofs.survey.next_sharing.Given as goal

abbrev pub invariant-loop-later : goal.invariant-loop-later
invariant-loop-later l = (k : ℕ) → l.number < k → k < l.later → ShareAt l.boxes l.number k → ⊥

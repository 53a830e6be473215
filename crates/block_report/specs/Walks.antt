-- How stops, the ends of walks and whole walks are printed.
use Rattle.std.specs.Prelude.{◌++◌, List, codes, ℕ}
use Rattle.vpc_laws.specs.Types.{Description, Hop, Outcome, Phase, Stop, StopName, StopText}
use Rattle.vpc_model.specs.declared.outcomes.Outcome.TheVariants as outcomes
use Rattle.vpc_model.specs.declared.outcomes.Phase.TheVariants as phases
use Rattle.vpc_model.specs.Names.{name_text}
use Rattle.vpc_model.specs.Told.{end_id, name_of, stop_id, stop_rule}
use Rattle.block_report.specs.Hops.{hop_lines}
use Rattle.block_report.specs.Words.{line_end, word}

-- a name, a component and a rule, or a dash for no rule
abbrev pub stop_words : List ℕ → List ℕ → List ℕ → List ℕ
stop_words name id rule = name ++ word id ++ word rule

-- the name, the component and its rule
abbrev pub stop_text : Description → Stop → List ℕ
stop_text d s = stop_words (name_text (name_of s)) (stop_id d s) (stop_rule d s)

-- a phase as it is printed
abbrev pub phase_text : Phase → List ℕ
phase_text phases.Request = codes "request"
phase_text phases.Reply = codes "reply"

-- a phase, a name, a component and a rule
abbrev pub told_words : Phase → StopName → List ℕ → List ℕ → List ℕ
told_words phase name id rule = phase_text phase ++ word (stop_words (name_text name) id rule)

-- the phase, the name, the component and its rule, as they are printed
abbrev pub told_text : StopText → List ℕ
told_text t = told_words t.phase t.name t.id t.rule

-- the last line of a walk that arrives at the end with this id
abbrev pub arrived_line : List ℕ → List ℕ
arrived_line id = codes "arrived" ++ word id ++ line_end

-- the last line of a walk that is stopped by this name, component and rule
abbrev pub stopped_line : List ℕ → List ℕ → List ℕ → List ℕ
stopped_line name id rule = codes "stopped" ++ word (stop_words name id rule) ++ line_end

-- the last line of a walk
abbrev pub outcome_line : Description → Outcome → List ℕ
outcome_line d (outcomes.Arrived end h) = arrived_line (end_id d end)
outcome_line d (outcomes.Stopped s) = stopped_line (name_text (name_of s)) (stop_id d s) (stop_rule d s)

-- all lines of a walk
abbrev pub walk_text : Description → List Hop → Outcome → List ℕ
walk_text d hops outcome = hop_lines d hops ++ outcome_line d outcome

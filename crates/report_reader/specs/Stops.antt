-- What is told of a stop, read from its words.
use Rattle.std.specs.Prelude.{if◌then◌else◌, List, None, Option, Some, bytes_eq, codes, ℕ}
use Rattle.vpc_laws.specs.Types.{Phase, StopName, StopText}
use Rattle.vpc_model.specs.declared.outcomes.Phase.TheVariants as phases
use Rattle.vpc_model.specs.Id.{is_id}
use Rattle.vpc_model.specs.Names.{name_spelled}
use Rattle.report_reader.specs.Boxes.{◌>>=◌}

-- a phase by its word
abbrev pub phase_of : List ℕ → Option Phase
phase_of word =
    if bytes_eq word (codes "request") then Some phases.Request
    else (if bytes_eq word (codes "reply") then Some phases.Reply else None)

-- a component or a rule: 1 to 256 visible characters
abbrev pub id_of : List ℕ → Option (List ℕ)
id_of word = if is_id word then Some word else None

-- ID RULE
abbrev pub ids_of : List ℕ → List ℕ → Option (List ℕ × List ℕ)
ids_of id rule = do
  id ← id_of id
  rule ← id_of rule
  Some (id, rule)

-- what is told in a phase by a name, with its ID RULE
abbrev pub told_by : Phase → StopName → List ℕ → List ℕ → Option StopText
told_by phase name id rule = do
  ids ← ids_of id rule
  Some (record { phase = phase; name = name; id = ids.0; rule = ids.1 })

-- PHASE NAME ID RULE
abbrev pub told_of : List ℕ → List ℕ → List ℕ → List ℕ → Option StopText
told_of phase name id rule = do
  phase ← phase_of phase
  name ← name_spelled name
  told_by phase name id rule

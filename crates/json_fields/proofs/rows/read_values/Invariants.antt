use Rattle.std.proofs.Common.{◌≡◌, ◌++◌, drop, map, Ok}
use Rattle.serde_json.specs.View.{view}
use Rattle.json_fields.specs.Paths.{at_row}
use Rattle.json_fields.specs.FieldFault.{and_then, each_from, each_row}
use Rattle.json_fields.proofs.rows.read_values.Given as goal

-- the rows so far and the remaining ones, or the first fault there, are the whole answer
abbrev pub invariant-loop-number : goal.invariant-loop-number
invariant-loop-number g l =
    and_then (each_from (λ k row. g.R.ReadRow.meaning row (at_row l.name k)) l.number (map view (drop l.number l.values))) (λ others. Ok (l.all.items ++ others))
    ≡ each_row g.R.ReadRow.meaning l.name (map view l.values)

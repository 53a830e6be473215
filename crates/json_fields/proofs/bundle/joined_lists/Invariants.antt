use Rattle.std.proofs.Common.{◌≡◌, ◌++◌, drop, map, Ok}
use Rattle.serde_json.specs.View.{view}
use Rattle.json_fields.specs.FieldFault.{and_then}
use Rattle.json_fields.specs.Bundle.{joined_lists}
use Rattle.json_fields.proofs.bundle.joined_lists.Given as goal

-- the rows so far and those of the remaining objects, or the first fault there, are the whole answer
abbrev pub invariant-loop-part : goal.invariant-loop-part
invariant-loop-part l =
    and_then (joined_lists l.name (map view (drop l.part-index l.parts))) (λ others. Ok (map (λ r. view r.now) l.all.items ++ others))
    ≡ joined_lists l.name (map view l.parts)

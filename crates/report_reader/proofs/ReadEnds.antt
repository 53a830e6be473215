-- The ends of a printed query read as what they were.
use Rattle.std.proofs.Common.{◌≡◌, ◌&&◌, None, Option, Some, false, if◌then◌else◌}
use Rattle.std.proofs.lemmas.Bool.{cond-false}
use Rattle.vpc_laws.specs.Types.{Description, End}
use Rattle.vpc_model.specs.Accepted.{IsAccepted}
use Rattle.vpc_model.specs.Told.{end_id}
use Rattle.report_reader.specs.Boxes.{◌>>=◌}
use Rattle.report_reader.specs.Lines.{end_named, ends_named, is_internet, start_named}
use Rattle.report_reader.specs.ReadsBack.{AreNamed}
use Rattle.report_reader.proofs.EndWords.{end_named-end_id, start_named-end_id}

abbrev ends_read : Option End → Option End → Option (End × End)
ends_read start goal = do
  start ← start
  goal ← goal
  if is_internet start && is_internet goal then None else Some (start, goal)

ends_from : (start goal : Option End) (a b : End) → start ≡ Some a → goal ≡ Some b → (is_internet a && is_internet b) ≡ false → ends_read start goal ≡ Some (a, b)
ends_from start goal a b first second other = rw (first, second) (cond-false _ _ _ other)

pub ends_named-end_ids : (d : Description) (start goal : End) → IsAccepted d → AreNamed d start goal → ends_named d (end_id d start) (end_id d goal) ≡ Some (start, goal)
ends_named-end_ids d start goal accepted named =
    ends_from (start_named d (end_id d start)) (end_named d (end_id d goal)) start goal
    (start_named-end_id d start accepted named.start named.opens) (end_named-end_id d goal accepted named.goal) named.apart

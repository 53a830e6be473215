use Rattle.std.proofs.Common.{take}
use Rattle.end_reach.specs.Texts.{row_lines_from}
use Rattle.end_reach.specs.Told.{wanted}
use Rattle.end_reach.specs.Walked.{AreOf}
use Rattle.listing_text.proofs.BodyLemmas.{IsSoFar}
use Rattle.end_reach.proofs.bodies.body_of.Given as goal

-- all rows of the starts so far
abbrev pub invariant-loop-start : goal.invariant-loop-start
invariant-loop-start g l = record {
  told : IsSoFar (wanted l.f l.asked.query.now l.asked.targets.now) (row_lines_from l.f) (take l.start-index l.starts) l.body.text.items l.body.count l.body.next;
  walks : AreOf l.f l.walks.toward.fabric.now l.walks.to_any.fabric.now;
}

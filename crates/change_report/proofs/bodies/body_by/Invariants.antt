use Rattle.std.proofs.Common.{take}
use Rattle.listing_text.proofs.BodyLemmas.{IsSoFar}
use Rattle.change_report.specs.Texts.{lines_at}
use Rattle.change_report.specs.Told.{wanted}
use Rattle.change_report.specs.Walked.{AreWalksOf}
use Rattle.change_report.proofs.bodies.body_by.Given as goal

-- all rows of the starts so far
abbrev pub invariant-loop-start : goal.invariant-loop-start
invariant-loop-start g l = record {
  told : IsSoFar (wanted l.compared l.targets) (lines_at l.compared) (take l.start-index l.starts) l.body.text.items l.body.count l.body.next;
  walks : AreWalksOf l.compared l.walks.before.sent l.walks.after.sent;
}

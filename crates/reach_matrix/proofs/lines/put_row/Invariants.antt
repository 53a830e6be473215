use Rattle.std.proofs.Common.{◌≡◌, take}
use Rattle.reach_matrix.specs.Matrix.{Adds, AreTexts, IsPairLine, pairs_from}
use Rattle.reach_matrix.proofs.lines.put_row.Given as goal

abbrev pub invariant-loop-to : goal.invariant-loop-to
invariant-loop-to g l = record {
  text : Adds (AreTexts (IsPairLine l.f l.ports) (pairs_from (take l.to-index l.hosts) l.from)) l.initial.out.items l.out.items;
  network : l.round.fabric.now ≡ l.f;
}

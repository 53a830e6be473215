use Rattle.std.proofs.Common.{◌≡◌, take}
use Rattle.std.specs.List.{flat_map}
use Rattle.reach_matrix.specs.Matrix.{Adds, AreTexts, IsPairLine, pairs_from}
use Rattle.reach_matrix.proofs.lines.put_rows.Given as goal

abbrev pub invariant-loop-from : goal.invariant-loop-from
invariant-loop-from g l = record {
  text : Adds (AreTexts (IsPairLine l.f l.ports) (flat_map (pairs_from l.hosts) (take l.from-index l.hosts))) l.initial.out.items l.out.items;
  network : l.round.fabric.now ≡ l.f;
}

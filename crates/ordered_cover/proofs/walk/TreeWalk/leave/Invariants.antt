use Rattle.std.proofs.Common.{◌≡◌, All, length}
use Rattle.ordered_cover.specs.Walk.{CutFits}
use Rattle.ordered_cover.proofs.Walks.{ComesLater}
use Rattle.ordered_cover.proofs.walk.TreeWalk.leave.Given as goal

abbrev pub invariant-begun : goal.invariant-begun
invariant-begun l = record {
  later : ComesLater l.self-inside.at l.self-inside.cuts.items l.initial.self-inside.at l.initial.self-inside.cuts.items;
  fits : All CutFits l.self-inside.cuts.items;
  over : l.self-inside.is_over ≡ l.initial.self-inside.is_over;
}

abbrev pub decreases-begun : goal.decreases-begun
decreases-begun l = length l.self-inside.cuts.items

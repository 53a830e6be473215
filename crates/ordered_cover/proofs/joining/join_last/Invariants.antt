use Rattle.std.proofs.Common.{◌≡◌, ◌<◌, ◌⊎◌, ◌++◌, ◌∷◌, [], length}
use Rattle.ordered_cover.specs.Joined.{AreJoined, GoesOnEitherWay}
use Rattle.ordered_cover.specs.Kept.{KeepsSplit}
use Rattle.ordered_cover.proofs.joining.join_last.Given as goal

abbrev pub invariant-joined : goal.invariant-joined
invariant-joined g l = record {
  kept : KeepsSplit (l.fn.rows.items ++ l.fn.row ∷ []) (l.rows.items ++ l.row ∷ []);
  joined : AreJoined GoesOnEitherWay l.fn.rows.items → AreJoined GoesOnEitherWay l.rows.items;
  same : (l.rows.items ≡ l.fn.rows.items) ⊎ (length l.rows.items < length l.fn.rows.items);
}

abbrev pub decreases-joined : goal.decreases-joined
decreases-joined g l = length l.rows.items

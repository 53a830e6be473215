use Rattle.std.proofs.Common.{rules}
use Rattle.conn_tracking.proofs.Lookups.{has_in_known, has_in_later}
use Rattle.conn_tracking.proofs.growing.GrowingConns.has.Goals as goal

pub returns-then-contains : goal.returns-then-contains
returns-then-contains c = rw (← c.self.view_is) (has_in_known _ _ _ _ _ c.self.invariant c.contains.ensures c.if-contains.true)

pub returns-else-contains : goal.returns-else-contains
returns-else-contains c = rw (← c.self.view_is) (has_in_later _ _ _ _ _ _ _ c.self.invariant c.contains.ensures c.if-contains.false (search rules) c.is_among.ensures)

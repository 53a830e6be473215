use Rattle.nat_gateway.proofs.Values.{put_is_value}
use Rattle.nat_gateway.proofs.table.Table.put.Goals as goal

pub returns-clause-put : goal.returns-clause-put
returns-clause-put g c = rw (← c.self.view_is) (put_is_value _ _ _ _ c.in_ok-insert.ensures.updates.0)

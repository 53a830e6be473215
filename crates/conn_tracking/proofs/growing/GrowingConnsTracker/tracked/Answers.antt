use Rattle.std.proofs.Common.{◌∙◌, sym, rules}
use Rattle.conn_tracking.proofs.Lookups.{tracked_by_open, untracked_without_open}
use Rattle.conn_tracking.proofs.growing.GrowingConnsTracker.tracked.Goals as goal

pub returns-in-Some : goal.returns-in-Some
returns-in-Some c = search (rules, tracked_by_open)

pub returns-in-None : goal.returns-in-None
returns-in-None c = untracked_without_open c.args.self.now.conns c.args.eni c.args.dir c.args.h.now (sym c.opening.ensures ∙ c.in-None.is)

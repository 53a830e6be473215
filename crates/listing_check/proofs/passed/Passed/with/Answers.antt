use Rattle.listing_check.proofs.Starts.{room_more}
use Rattle.listing_check.proofs.passed.Passed.with.Goals as goal

pub untrue_after-requires : goal.untrue_after-requires
untrue_after-requires c = room_more c.args.self.now.rows c.args.rows c.args.untrue c.requires.rows c.requires.untrue

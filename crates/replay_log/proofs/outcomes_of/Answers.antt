use Rattle.std.proofs.Common.{refl}
use Rattle.replay_log.proofs.Replays.{outcomes_after-step, told-more}
use Rattle.replay_log.proofs.outcomes_of.Goals as goal

pub loop-e-preserved : goal.loop-e-preserved
loop-e-preserved g c =
    let done = c.in_ok-outcome.ensures in
    record {
      rest = outcomes_after-step c.args.f.now c.args.deciders.now.appliances _ _ _ _ c.loop-e.outcomes.items c.push.new.self.items c.args.events.now c.loop-e.e-index _ _ c.in_ok-outcome.outcome _
          c.loop-e-test.true refl done.outcome done.conns done.nats c.in_ok-push.ensures.items c.loop-e.invariant.rest;
      told = told-more c.args.f.now c.loop-e.outcomes.items c.push.new.self.items c.in_ok-outcome.outcome c.loop-e.invariant.told done.told c.in_ok-push.ensures.items;
    }

use Rattle.std.proofs.Common.{subst, sym}
use Rattle.nat_gateway.specs.Tables.{AreRuns}
use Rattle.nat_gateway.proofs.Additions.{either}
use Rattle.nat_gateway.proofs.Runs.{runs-shorten}
use Rattle.nat_gateway.proofs.ports.Ports.jump.Goals as goal

pub invariant_of-self : goal.invariant_of-self
invariant_of-self c = either c.put.result c.put.ensures.put c.put.ensures.err (λ put. runs-shorten _ _ c.args.flow.now _ c.args.port c.args.end c.with_port-key.ensures c.requires.from c.requires.most (rw (← c.self.view_is) at c.requires.taken) c.self.invariant put) (λ e. subst AreRuns (sym e) c.self.invariant)

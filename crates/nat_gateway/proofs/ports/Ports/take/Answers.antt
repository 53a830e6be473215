use Rattle.std.proofs.Common.{◌≡◌, ◌+◌, arith, subst, sym}
use Rattle.nat_gateway.specs.Tables.{AreRuns}
use Rattle.nat_gateway.proofs.Additions.{either}
use Rattle.nat_gateway.proofs.Runs.{runs-take}
use Rattle.nat_gateway.proofs.ports.Ports.take.Goals as goal

pub invariant_of-self : goal.invariant_of-self
invariant_of-self c =
    let e : c.from.result + 1 ≡ c.args.key.header.p + 1 = omega arith in
    either c.put.result c.put.ensures.put c.put.ensures.err (λ put. runs-take _ _ c.args.key (c.from.result + 1) e c.requires c.self.invariant put) (λ same. subst AreRuns (sym same) c.self.invariant)

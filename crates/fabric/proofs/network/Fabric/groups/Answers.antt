use Rattle.std.proofs.Common.{subst, sym}
use Rattle.fabric.specs.Indexes.{AreIndexesOf}
use Rattle.fabric.proofs.network.Fabric.groups.Goals as goal
use Rattle.security_groups.specs.Dividing.{HasRuleCuts}

pub returns-clause-cuts : goal.returns-clause-cuts
returns-clause-cuts c =
    let are : AreIndexesOf c.args.self.now c.self.inside.indexes = subst (λ d. AreIndexesOf d c.self.inside.indexes) c.self.view_is c.self.invariant in
    subst (HasRuleCuts c.args.self.now) (sym c.groups.ensures) are.group_cuts

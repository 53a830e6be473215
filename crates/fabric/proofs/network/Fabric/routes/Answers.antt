use Rattle.std.proofs.Common.{length, subst}
use Rattle.std.proofs.lemmas.Bool.{ltb-true}
use Rattle.fabric.specs.Indexes.{AreIndexesOf, IsRouteIndex}
use Rattle.fabric.proofs.Numbered.{index-table, number-within}
use Rattle.fabric.proofs.network.Fabric.routes.Goals as goal

pub routes-requires : goal.routes-requires
routes-requires c =
    let are : AreIndexesOf c.args.self.now c.self.inside.indexes = subst (λ d. AreIndexesOf d c.self.inside.indexes) c.self.view_is c.self.invariant in
    number-within (IsRouteIndex c.args.self.now) c.args.self.now.tables c.self.inside.indexes.routes c.args.t.0 are.routes (ltb-true c.args.t.0 (length c.args.self.now.tables) c.requires)

pub returns : goal.returns
returns c =
    let are : AreIndexesOf c.args.self.now c.self.inside.indexes = subst (λ d. AreIndexesOf d c.self.inside.indexes) c.self.view_is c.self.invariant in
    index-table c.args.self.now c.args.t c.self.inside.indexes.routes c.routes.result.now are.routes c.requires (c.routes.ensures c.routes.result.now)

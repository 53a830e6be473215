use Rattle.std.proofs.Common.{◌∷◌, [], arith, inl, refl}
use Rattle.lookup_tests.proofs.images.pieces.opens_to.Goals as goal

pub returns-clause-walk : goal.returns-clause-walk
returns-clause-walk c =
    let a = c.args.dst in
    (a ∷ [], inl ((c.set_dst.ensures.kind (a ∷ []) (0, omega arith, refl)).of_open (c.of.ensures.kind (a ∷ []))))

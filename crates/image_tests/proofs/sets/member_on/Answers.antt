use Rattle.std.proofs.Common.{subst}
use Rattle.number_tables.specs.Keys.{key_of}
use Rattle.number_tables.specs.Next.{IsNext}
use Rattle.image_tests.proofs.Stretches.{member-answers}
use Rattle.image_tests.proofs.sets.member_on.Goals as goal

pub key_stretch-last-requires : goal.key_stretch-last-requires
key_stretch-last-requires c = (c.args.numbers.now, subst (λ k. IsNext c.args.numbers.now k c.next.result) c.key_of.ensures c.next.ensures)

pub up_to-requires-clause-ordered : goal.up_to-requires-clause-ordered
up_to-requires-clause-ordered c =
    let next : IsNext c.args.numbers.now (key_of c.args.high c.low_on-low.result) c.next.result = subst (λ k. IsNext c.args.numbers.now k c.next.result) c.key_of.ensures c.next.ensures in
    (c.key_stretch-last.ensures c.args.numbers.now next).from

pub returns : goal.returns
returns c =
    let next : IsNext c.args.numbers.now (key_of c.args.high c.low_on-low.result) c.next.result = subst (λ k. IsNext c.args.numbers.now k c.next.result) c.key_of.ensures c.next.ensures in
    member-answers c.args.i.now c.args.side c.args.numbers.now c.args.high c.low_on-low.result c.key_stretch-last.result.0 c.key_stretch-last.result.1 c.up_to.result
    c.low_on-low.ensures (c.key_stretch-last.ensures c.args.numbers.now next) c.up_to.ensures

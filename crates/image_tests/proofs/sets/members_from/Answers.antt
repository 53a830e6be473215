use Rattle.std.proofs.Common.{subst}
use Rattle.number_tables.specs.Next.{IsNext}
use Rattle.image_tests.proofs.sets.members_from.Goals as goal

pub key_stretch-requires : goal.key_stretch-requires
key_stretch-requires c = (c.args.numbers.now, subst (λ k. IsNext c.args.numbers.now k c.next.result) c.key_of.ensures c.next.ensures)

pub returns : goal.returns
returns c = c.key_stretch.ensures c.args.numbers.now (subst (λ k. IsNext c.args.numbers.now k c.next.result) c.key_of.ensures c.next.ensures)

use Rattle.std.proofs.Common.{arith, ◌≡◌, false}
use Rattle.std.proofs.lemmas.Grind.{common_steps}
use Rattle.vpc_io.specs.MemoryShelf.{take_fails}
use Rattle.vpc_io.proofs.memory_shelf.MemoryShelfShelf.take.Goals as goal

pub returns-in-Some-clause-fails_exactly : goal.returns-in-Some-clause-fails_exactly
returns-in-Some-clause-fails_exactly c =
    let passes : take_fails c.args.self.now c.args.name.now ≡ false = grind (arith, common_steps) in
    (λ failed. absurd (c.copy_of.ensures.never_fails failed), λ fails. absurd (cc))

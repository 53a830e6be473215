use Rattle.std.proofs.Common.{[]}
use Rattle.lookup_tests.proofs.translations.sent.Goals as goal

pub outward_on-requires-clause-kinds : goal.outward_on-requires-clause-kinds
outward_on-requires-clause-kinds c = ([], c.of.ensures.kind [])

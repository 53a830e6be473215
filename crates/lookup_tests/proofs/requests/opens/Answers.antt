use Rattle.std.proofs.Common.{[], inl}
use Rattle.lookup_tests.proofs.requests.opens.Goals as goal

pub returns-clause-walk : goal.returns-clause-walk
returns-clause-walk c = ([], inl (c.of.ensures.kind []))

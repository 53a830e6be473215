use Rattle.listing_check.specs.Asked.{listed_of}
use Rattle.listing_check.specs.Passed.{ArePassed}
use Rattle.listing_check.proofs.found.check_lists.Given as goal

abbrev pub invariant-loop-list : goal.invariant-loop-list
invariant-loop-list g l = ArePassed (listed_of (g.Q.Question.asked l.q) l.lists) l.list-index l.passed

use Rattle.image_tests.proofs.Trying.{IsTrying, any_passes}
use Rattle.box_steps.proofs.OwnAnswers.{own_test}
use Rattle.box_steps.proofs.hosts.addresses_on.Given as goal
use Rattle.box_steps.specs.Hosts.{DivideOwn}

abbrev pub invariant-loop-own : goal.invariant-loop-own
invariant-loop-own l =
    let passes = any_passes (own_test l.side l.i) in
    IsTrying (DivideOwn l.addresses) (passes l.addresses) passes l.addresses l.i l.own-index l.rest

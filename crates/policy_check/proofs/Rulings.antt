-- What is found of a rule says which of three it is: that it holds, that it fails, or that it isn't known.
use Rattle.query_words.specs.declared.queries.Query.{Query}
use Rattle.vpc_laws.specs.Types.{Description}
use Rattle.policy_check.proofs.Found.{some_through, through-not_stopped}
use Rattle.policy_check.specs.Judged.{AllThrough, Fails, FailsBy, Holds, IsFirstHalted, IsUndecided, NothingDecides, SomeHalted}
use Rattle.policy_check.specs.declared.certainties.Certainty.{Certainty}
use Rattle.policy_check.specs.declared.certainties.Certainty.TheVariants as certainties
use Rattle.policy_check.specs.declared.halts.Halt.{Halt}
use Rattle.policy_check.specs.declared.judging.Failure.{Failure}
use Rattle.policy_check.specs.declared.judging.Failure.TheVariants as failures
use Rattle.policy_check.specs.declared.rules.Wanted.{Wanted}
use Rattle.policy_check.specs.declared.rules.Wanted.TheVariants as wants

-- ---- what is found

some-halted : (d : Description) (query : Query) (certainty : Certainty) (halt : Halt) → IsFirstHalted d query certainty halt → SomeHalted d query certainty
some-halted d query certainty halt first = record { halt = halt; inside = first.inside; halted = first.halted }

pub fails_if_found : (d : Description) (wanted : Wanted) (query : Query) (failure : Failure) → FailsBy d wanted query failure → Fails d wanted query
fails_if_found d wants.Reachable query failures.NoneThrough found = found
fails_if_found d wants.Reachable query (failures.Through h) found = absurd found
fails_if_found d wants.Reachable query (failures.Stopped halt) found = absurd found
fails_if_found d wants.Blocked query failures.NoneThrough found = absurd found
fails_if_found d wants.Blocked query (failures.Through h) found = some_through d query h found
fails_if_found d wants.Blocked query (failures.Stopped halt) found = absurd found
fails_if_found d wants.Open query failures.NoneThrough found = absurd found
fails_if_found d wants.Open query (failures.Through h) found = absurd found
fails_if_found d wants.Open query (failures.Stopped halt) found = some-halted d query certainties.Known halt found

pub undecided_if_found : (d : Description) (wanted : Wanted) (query : Query) (halt : Halt)
    → NothingDecides d wanted query × IsFirstHalted d query certainties.Unknown halt → IsUndecided d wanted query
undecided_if_found d wanted query halt found = (found.0, some-halted d query certainties.Unknown halt found.1)

-- ---- no two of the three

-- where all get through, none is stopped, known or not
none-halted : (d : Description) (query : Query) (certainty : Certainty) → AllThrough d query → SomeHalted d query certainty → ⊥
none-halted d query certainty all some =
    let halt = some.halt in
    through-not_stopped _ halt.phase halt.stop (all halt.header some.inside) some.halted.stopped

pub fails_if_holds : (d : Description) (wanted : Wanted) (query : Query) → Fails d wanted query → Holds d wanted query → ⊥
fails_if_holds d wants.Reachable query fails holds = fails.0 holds.header holds.inside holds.through
fails_if_holds d wants.Blocked query fails holds = holds.0 fails.header fails.inside fails.through
fails_if_holds d wants.Open query fails holds = none-halted d query certainties.Known holds fails

pub undecided_if_holds : (d : Description) (wanted : Wanted) (query : Query) → IsUndecided d wanted query → Holds d wanted query → ⊥
undecided_if_holds d wants.Reachable query undecided holds = undecided.0 holds.header holds.inside holds.through
undecided_if_holds d wants.Blocked query undecided holds = let some = undecided.1 in holds.1 some.halt some.inside some.halted
undecided_if_holds d wants.Open query undecided holds = none-halted d query certainties.Unknown holds undecided.1

pub undecided_if_fails : (d : Description) (wanted : Wanted) (query : Query) → IsUndecided d wanted query → Fails d wanted query → ⊥
undecided_if_fails d wants.Reachable query undecided fails = let some = undecided.1 in fails.1 some.halt some.inside some.halted
undecided_if_fails d wants.Blocked query undecided fails = undecided.0 fails.header fails.inside fails.through
undecided_if_fails d wants.Open query undecided fails = undecided.0 fails.halt fails.inside fails.halted

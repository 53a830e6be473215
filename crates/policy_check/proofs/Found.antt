-- What searches tell of a query's requests.
use Rattle.std.proofs.Common.{◌≡◌, ◌≢◌, ◌∙◌, ap, refl, subst, sym, true, None}
use Rattle.box_walk.specs.Asking.{asked, stop_of, whether}
use Rattle.header_boxes.specs.Boxes.{holds}
use Rattle.header_boxes.specs.Rows.{IsFirstThrough, NoneThrough}
use Rattle.network_reach.specs.Reached.{IsQueryIn, meaning_in}
use Rattle.network_reach.proofs.ReachableLemmas.{nothing-stops}
use Rattle.query_words.specs.declared.queries.Query.{Query}
use Rattle.vpc_base.specs.Header.{IsBefore}
use Rattle.vpc_laws.proofs.Telling.{verdicts_are_told}
use Rattle.vpc_laws.specs.Sound.{IsTold}
use Rattle.vpc_laws.specs.Types.{Description, Header, Phase, Stop, Verdict}
use Rattle.vpc_model.specs.Accepted.{IsAccepted}
use Rattle.vpc_model.specs.Appliances.{appliances_of}
use Rattle.vpc_model.specs.Report.{ending_of}
use Rattle.vpc_model.specs.Told.{name_of}
use Rattle.vpc_model.specs.declared.outcomes.Verdict.TheVariants as verdicts
use Rattle.policy_check.specs.Judged as judged
use Rattle.policy_check.specs.Judged.{AllThrough, CanBeTold, HasText, IsFirstHalted, IsFound, IsHalted, NoneHalted, NoneStopped, SomeThrough, certainty_of, verdict_in}
use Rattle.policy_check.specs.Stopped.{halting_of, passing_of, turned, unless_halted, unless_same}
use Rattle.policy_check.specs.declared.certainties.Certainty.{Certainty}
use Rattle.policy_check.specs.declared.certainties.Certainty.TheVariants as certainties
use Rattle.policy_check.specs.declared.halts.Halt.{Halt}
use Rattle.policy_check.specs.declared.judging.Failure.TheVariants as failures
use Rattle.policy_check.specs.declared.judging.Finding.{Finding}
use Rattle.policy_check.specs.declared.judging.Finding.TheVariants as findings
use Rattle.policy_check.specs.declared.rules.Wanted.{Wanted}
use Rattle.policy_check.specs.declared.rules.Wanted.TheVariants as wants

-- ---- one request

-- of what the turned search passes over all gets through
through_if_passing : (v : Verdict) → turned (whether (stop_of v)) ≢ None → v ≡ verdicts.Through
through_if_passing verdicts.Through passing = refl
through_if_passing (verdicts.Stopped phase s) passing = absurd (passing refl)

-- and what it finds doesn't
pub stopped_if_found : (v : Verdict) → turned (whether (stop_of v)) ≡ None → v ≡ verdicts.Through → ⊥
stopped_if_found verdicts.Through found through = cc
stopped_if_found (verdicts.Stopped phase s) found through = cc

-- what gets through isn't stopped
pub through-not_stopped : (v : Verdict) (phase : Phase) (s : Stop) → v ≡ verdicts.Through → v ≡ verdicts.Stopped phase s → ⊥
through-not_stopped v phase s through stopped = let both : verdicts.Through ≡ verdicts.Stopped phase s = sym through ∙ stopped in cc

-- nor does what is found by what is known of its stop
pub halted_if_found : (certainty : Certainty) (v : Verdict) → unless_halted certainty (stop_of v) ≡ None → v ≡ verdicts.Through → ⊥
halted_if_found certainty verdicts.Through found through = cc
halted_if_found certainty (verdicts.Stopped phase s) found through = cc

same-is : (one other : Certainty) → unless_same one other ≡ None → other ≡ one
same-is certainties.Known certainties.Known found = refl
same-is certainties.Known certainties.Unknown found = cc
same-is certainties.Unknown certainties.Known found = cc
same-is certainties.Unknown certainties.Unknown found = refl

same-itself : (certainty : Certainty) → unless_same certainty certainty ≡ None
same-itself certainties.Known = refl
same-itself certainties.Unknown = refl

-- so much is known of what is found
certainty-found : (certainty : Certainty) (v : Verdict) (phase : Phase) (s : Stop)
    → unless_halted certainty (stop_of v) ≡ None → v ≡ verdicts.Stopped phase s → certainty_of (name_of s) ≡ certainty
certainty-found certainty v phase s found stopped =
    same-is certainty (certainty_of (name_of s)) (subst (λ (x : Verdict). unless_halted certainty (stop_of x) ≡ None) stopped found)

-- and of nothing that is passed over
not-passed : (d : Description) (query : Query) (certainty : Certainty) (halt : Halt)
    → unless_halted certainty (stop_of (verdict_in d query halt.header)) ≢ None → ¬ (IsHalted d query certainty halt)
not-passed d query certainty halt passed halted =
    passed (ap (λ (v : Verdict). unless_halted certainty (stop_of v)) halted.stopped
    ∙ (ap (unless_same certainty) halted.certainty_is ∙ same-itself certainty))

-- what isn't known to be stopped isn't known
unless_known : (certainty : Certainty) → (certainty ≡ certainties.Known → ⊥) → certainty ≡ certainties.Unknown
unless_known certainties.Known not = absurd (not refl)
unless_known certainties.Unknown not = refl

-- ---- searches

pub some_through : (d : Description) (query : Query) (h : Header) → IsFirstThrough (meaning_in d query) query.sides h → SomeThrough d query
some_through d query h found = record {
  header = h;
  inside = found.inside;
  through = nothing-stops d (verdict_in d query h) found.through;
}

pub none_through : (d : Description) (query : Query) → NoneThrough (meaning_in d query) query.sides → judged.NoneThrough d query
none_through d query none h held through = none h held (ap (ending_of d) through)

pub all_through : (d : Description) (query : Query) → NoneThrough (passing_of (asked d query.start query.goal)) query.sides → AllThrough d query
all_through d query none h held = through_if_passing (verdict_in d query h) (none h held)

pub none_halted : (d : Description) (query : Query) (certainty : Certainty)
    → NoneThrough (halting_of certainty (asked d query.start query.goal)) query.sides → NoneHalted d query certainty
none_halted d query certainty none halt held = not-passed d query certainty halt (none halt.header held)

pub first_halted : (d : Description) (query : Query) (certainty : Certainty) (h : Header) (halt : Halt)
    → IsFirstThrough (halting_of certainty (asked d query.start query.goal)) query.sides h
    → halt.header ≡ h → verdict_in d query h ≡ verdicts.Stopped halt.phase halt.stop → IsFirstHalted d query certainty halt
first_halted d query certainty h halt found is stopped = record {
  inside = subst (λ (k : Header). holds k query.sides ≡ true) (sym is) found.inside;
  halted = record {
    stopped = ap (verdict_in d query) is ∙ stopped;
    certainty_is = certainty-found certainty (verdict_in d query h) halt.phase halt.stop found.through stopped;
  };
  first = λ other held before. not-passed d query certainty other
      (found.first other.header held (subst (λ (k : Header). IsBefore other.header k) is before));
}

-- where nothing known stops a request, the first that doesn't get through isn't known
pub first_unknown : (d : Description) (query : Query) (h : Header) (halt : Halt)
    → IsFirstThrough (passing_of (asked d query.start query.goal)) query.sides h
    → halt.header ≡ h → verdict_in d query h ≡ verdicts.Stopped halt.phase halt.stop → NoneStopped d query
    → IsFirstHalted d query certainties.Unknown halt
first_unknown d query h halt found is stopped none =
    let inside : holds halt.header query.sides ≡ true = subst (λ (k : Header). holds k query.sides ≡ true) (sym is) found.inside in
    let there : verdict_in d query halt.header ≡ verdicts.Stopped halt.phase halt.stop = ap (verdict_in d query) is ∙ stopped in
    record {
      inside = inside;
      halted = record {
        stopped = there;
        certainty_is = unless_known (certainty_of (name_of halt.stop)) (λ known. none halt inside (record { stopped = there; certainty_is = known }));
      };
      first = λ other held before halted.
          let through = through_if_passing (verdict_in d query other.header)
          (found.first other.header held (subst (λ (k : Header). IsBefore other.header k) is before)) in
          through-not_stopped (verdict_in d query other.header) other.phase other.stop through halted.stopped;
    }

-- ---- findings

-- what stops a request or its reply has a text
text-halted : (d : Description) (query : Query) (certainty : Certainty) (halt : Halt) → IsAccepted d → IsQueryIn d query → IsHalted d query certainty halt → HasText d halt
text-halted d query certainty halt accepted known halted =
    subst (IsTold d) halted.stopped (verdicts_are_told d (appliances_of d) query.start query.goal halt.header accepted known.start known.goal)

pub told_if_found : (d : Description) (wanted : Wanted) (query : Query) (found : Finding) → IsAccepted d → IsQueryIn d query → IsFound d wanted query found → CanBeTold d found
told_if_found d wanted query findings.Held accepted known found = tt
told_if_found d wanted query (findings.Failed failures.NoneThrough) accepted known found = tt
told_if_found d wanted query (findings.Failed (failures.Through h)) accepted known found = tt
told_if_found d wants.Reachable query (findings.Failed (failures.Stopped halt)) accepted known found = absurd found
told_if_found d wants.Blocked query (findings.Failed (failures.Stopped halt)) accepted known found = absurd found
told_if_found d wants.Open query (findings.Failed (failures.Stopped halt)) accepted known found =
    text-halted d query certainties.Known halt accepted known found.halted
told_if_found d wanted query (findings.NotKnown halt) accepted known found =
    text-halted d query certainties.Unknown halt accepted known found.1.halted

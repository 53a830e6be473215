-- Whether `ask` about one port ends with a yes.
use Rattle.std.proofs.Common.{◌≡◌, ◌∙◌, ◌≤◌, Err, List, None, Ok, arith, refl, subst, sym, ℕ}
use Rattle.command_job.specs.declared.status.Status.{Status}
use Rattle.command_job.specs.declared.status.Status.TheVariants as ends
use Rattle.network_reach.proofs.Decided.{ask_is_decided}
use Rattle.network_reach.specs.Asked.{IsAnswerTo, IsAsked}
use Rattle.network_reach.specs.Asked as asks
use Rattle.query_words.specs.Query.{query_of}
use Rattle.query_words.specs.declared.queries.Query.{Query}
use Rattle.vpc_laws.specs.Types.{Description, Verdict}
use Rattle.vpc_model.specs.Report.{ending_of}
use Rattle.vpc_model.specs.declared.outcomes.Verdict.TheVariants as verdicts
use Rattle.reach_matrix.proofs.NamingLemmas.{words_give_the_query}
use Rattle.reach_matrix.proofs.PortLemmas.{ports_are_answered}
use Rattle.reach_matrix.specs.Asked.{PortsAreThoseOfAsk}
use Rattle.reach_matrix.specs.Laws.{SomeGetsThrough}
use Rattle.reach_matrix.specs.Pairs.{query_between}

-- nothing is told of what gets through alone
through_if : (d : Description) (v : Verdict) → ending_of d v ≡ None → v ≡ verdicts.Through
through_if d verdicts.Through is = refl
through_if d (verdicts.Stopped phase s) is = absurd (cc)

-- an answer with this status has a header that gets through
some_if_yes : (d : Description) (query : Query) (status : Status) (text : List ℕ) → IsAnswerTo d query status text → status ≡ ends.Yes → SomeGetsThrough d query
some_if_yes d query status text (asks.through is answer) ended = record {
  header = answer.header;
  inside = answer.first.inside;
  through = through_if d _ answer.first.through;
}
some_if_yes d query status text (asks.blocked is answer) ended = let same : ends.No ≡ ends.Yes = sym is ∙ ended in absurd (cc)
some_if_yes d query status text (asks.treed is answer) ended = let same : ends.No ≡ ends.Yes = sym is ∙ ended in absurd (cc)
some_if_yes d query status text (asks.more is answer) ended = let same : ends.More ≡ ends.Yes = sym is ∙ ended in absurd (cc)

asked_if_yes : (d : Description) (words : List (List ℕ)) (query : Query) (status : Status) (text : List ℕ) → query_of d words ≡ Ok query → IsAsked d words status text → status ≡ ends.Yes
    → SomeGetsThrough d query
asked_if_yes d words query status text meant (asks.refused refusal is status_is text_is) ended = let same : Err refusal ≡ Ok query = sym is ∙ meant in absurd (cc)
asked_if_yes d words query status text meant (asks.answered x is answer) ended =
    let same : Ok x ≡ Ok query = sym is ∙ meant in let same_query : x ≡ query = cc in
    some_if_yes d query status text (subst (λ (q : Query). IsAnswerTo d q status text) same_query answer) ended

pub ports_are_those_of_ask : PortsAreThoseOfAsk
ports_are_those_of_ask file d ports pair ranges port status text accepted one other few are from upto asked =
    let meant = words_give_the_query file d pair (port, port) accepted one other (omega arith) (omega (arith, few, upto)) in
    let answered = ports_are_answered d ports pair ranges port are from upto in
    let query = query_between d pair (port, port) in (
      λ inside.
          let some = answered.0 inside in
          let decided = ask_is_decided d _ status text asked query meant in
          decided.yes (record { header = some.header; inside = some.inside; through = some.through }),
      λ ended. answered.1 (asked_if_yes d _ query status text meant asked ended),
    )

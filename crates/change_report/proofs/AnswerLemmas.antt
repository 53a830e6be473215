-- What is answered, by the lines of the rows.
use Rattle.std.proofs.Common.{◌≡◌, ◌∙◌, List, Option, ap, length, nat_lt, subst, sym, ℕ}
use Rattle.std.proofs.lemmas.List.Sorted.{length_permutation}
use Rattle.query_words.specs.declared.changes.ChangeQuery.{ChangeQuery}
use Rattle.query_words.specs.declared.changes.ChangedEnd.{ChangedEnd}
use Rattle.vpc_laws.specs.Types.{Description, Header}
use Rattle.command_job.specs.declared.status.Status.{Status}
use Rattle.command_job.specs.declared.status.Status.TheVariants as ends
use Rattle.listing_text.proofs.BodyLemmas.{told_whole}
use Rattle.listing_text.specs.Answered.{host_limit, status_by}
use Rattle.listing_text.specs.Answered as answered
use Rattle.listing_text.specs.Bodies.{IsBody}
use Rattle.listing_text.specs.Bodies as bodies
use Rattle.listing_text.specs.Texts.{told_lines_from}
use Rattle.change_report.specs.Answered.{IsAnswerTo, IsDiffTold, IsPrinted}
use Rattle.changed_ends.specs.Asked.{AreHostsOfEither, AreStarts, AreTargets, Comparison, StartAt, TargetsAre, comparison, hosts_of_either}
use Rattle.change_report.specs.Texts.{lines_at, part_of, part_text, start_id, whole_of, whole_text}
use Rattle.change_report.specs.Told.{wanted}

pub told_by : (c : Comparison) (words : List (List ℕ)) (targets : List (ℕ × ℕ)) (starts : List ChangedEnd) (lines : List ℕ) (count : ℕ) (next : Option (ChangedEnd × Header)) (status : Status) (text : List ℕ)
    → IsBody (wanted c targets) (lines_at c) starts lines count next → IsPrinted c words lines count next status text → IsDiffTold c words targets starts status text
told_by c words targets starts lines count next status text (bodies.body_all told are lines_are count_is next_is) printed =
    let p = subst (λ (o : Option (ChangedEnd × Header)). IsPrinted c words lines count o status text) next_is printed in
    told_whole ends.No ends.Yes (whole_text c words) (part_text c words) (wanted c targets) starts told status text are (p.0 ∙ ap (status_by ends.No ends.Yes) count_is)
    (p.1 ∙ (ap (λ (l : List ℕ). whole_of words l count) lines_are ∙ ap (λ (n : ℕ). whole_of words (told_lines_from (lines_at c) 1 told) n) count_is))
told_by c words targets starts lines count next status text (bodies.body_part told last h are lines_are next_is) printed =
    let p = subst (λ (o : Option (ChangedEnd × Header)). IsPrinted c words lines count o status text) next_is printed in
    answered.more told last h are p.0 (p.1 ∙ ap (λ (l : List ℕ). part_of words l (start_id c last.start) h) lines_are)

-- destinations and starts as they are handed on, where each network is that of its look-ups
module _ (c : Comparison) (before after : Description) (query : ChangeQuery) (first : before ≡ c.before) (second : after ≡ c.after) (third : query ≡ c.query) where
  compared-as : comparison before after query ≡ c
  compared-as =
      ap (λ (d : Description). comparison d after query) first
      ∙ (ap (λ (d : Description). comparison c.before d query) second ∙ ap (comparison c.before c.after) third)

  pub targets_as : (targets given : List (ℕ × ℕ)) → given ≡ targets → TargetsAre before after query.pairs.dst query.goal targets → AreTargets c given
  targets_as targets given is are = subst (λ (l : List (ℕ × ℕ)). AreTargets c l) (sym is) (subst (λ (x : Comparison). AreTargets x targets) compared-as are)

  pub starts_as : (starts given : List ChangedEnd) → given ≡ starts → StartAt before after query.pairs.src query.start query.goal starts → AreStarts c given
  starts_as starts given is are = subst (λ (l : List ChangedEnd). AreStarts c l) (sym is) (subst (λ (x : Comparison). AreStarts x starts) compared-as are)

-- what is printed answers the query
module _ (c : Comparison) (words : List (List ℕ)) (before after : Description) (query : ChangeQuery) (first : before ≡ c.before) (second : after ≡ c.after) (third : query ≡ c.query) where
  pub answered_by : (targets given_targets : List (ℕ × ℕ)) (starts given_starts : List ChangedEnd) (lines : List ℕ) (count : ℕ) (next : Option (ChangedEnd × Header)) (status : Status) (text : List ℕ)
      → given_targets ≡ targets → TargetsAre before after query.pairs.dst query.goal targets → given_starts ≡ starts → StartAt before after query.pairs.src query.start query.goal starts
      → IsBody (wanted c given_targets) (lines_at c) given_starts lines count next → IsPrinted c words lines count next status text → IsAnswerTo c words status text
  answered_by targets given_targets starts given_starts lines count next status text targets_is targets_are starts_is starts_are body printed = record {
    targets = given_targets;
    targets_are = targets_as c before after query first second third targets given_targets targets_is targets_are;
    starts = given_starts;
    starts_are = starts_as c before after query first second third starts given_starts starts_is starts_are;
    told = told_by c words given_targets given_starts lines count next status text body printed;
  }

-- ---- queries about too many interfaces

pub many_by : (before after : Description) (hosts : List ChangedEnd) → AreHostsOfEither before after hosts → nat_lt host_limit (length hosts) ≡ nat_lt host_limit (length (hosts_of_either before after))
many_by before after hosts are = ap (nat_lt host_limit) (length_permutation (hosts_of_either before after) hosts are.all)

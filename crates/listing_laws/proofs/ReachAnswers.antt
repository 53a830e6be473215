-- What `reach` answers is true.
use Rattle.std.proofs.Common.{List, Ok, codes, false, subst, sym, ℕ, ◌≡◌, ◌⊎◌}
use Rattle.command_job.specs.declared.status.Status.{Status}
use Rattle.command_job.specs.declared.status.Status.TheVariants as ends
use Rattle.end_reach.specs.Terms.{AreStarts, AreTargets, IsReachAnswered, IsReachTold, IsToldUnlessTooMany, IsTooMany}
use Rattle.end_reach.specs.Answered as answered
use Rattle.listing_text.specs.Answered as tellings
use Rattle.query_words.specs.ReachQuery.{reach_query_of}
use Rattle.query_words.specs.declared.reaches.ReachQuery.{ReachQuery}
use Rattle.vpc_laws.specs.Types.{Description, End}
use Rattle.vpc_model.specs.Lookup.{has_interface}
use Rattle.listing_laws.specs.ReachTexts.{ReachTextsAreTrue, ReachTextsFit, ReachTextsPass}
use Rattle.listing_laws.specs.Typed.{HasTypedRows}
use Rattle.listing_laws.proofs.Statuses.{more_is_not_all, query_is_not_all}
use Rattle.listing_laws.proofs.ReachTexts.{text_is}
use Rattle.listing_laws.proofs.ReachTruths.{IsTrueText, whole_is_true}

module _ (d : Description) (words : List (List ℕ)) (status : Status) (text : List ℕ) (typed : HasTypedRows d)
    (named : has_interface d (codes "internet") ≡ false) (whole : (status ≡ ends.Yes) ⊎ (status ≡ ends.No)) where
  told_true : (query : ReachQuery) (targets : List (ℕ × ℕ)) (starts : List End) → reach_query_of d words ≡ Ok query
      → (IsTooMany d query → ⊥) → AreTargets d query.pairs.dst query.goal targets → AreStarts d query.pairs.src query.start query.goal starts
      → IsReachTold d query words targets starts status text → IsTrueText d text
  told_true query targets starts read few targets_are starts_are (tellings.some told are rows status_is text_is) =
      subst (IsTrueText d) (sym text_is) (whole_is_true d words query targets starts told typed named read few targets_are starts_are are)
  told_true query targets starts read few targets_are starts_are (tellings.none told are rows status_is text_is) =
      subst (IsTrueText d) (sym text_is) (whole_is_true d words query targets starts told typed named read few targets_are starts_are are)
  told_true query targets starts read few targets_are starts_are (tellings.more told last next are status_is text_is) =
      absurd (more_is_not_all status status_is whole)

  unless_true : (query : ReachQuery) → reach_query_of d words ≡ Ok query → IsToldUnlessTooMany d query words status text → IsTrueText d text
  unless_true query read (answered.too_many many status_is text_is) = absurd (query_is_not_all status status_is whole)
  unless_true query read (answered.told few answer) =
      told_true query answer.targets answer.starts read few answer.targets_are answer.starts_are answer.told

  answer_true : IsReachAnswered d words status text → IsTrueText d text
  answer_true (answered.refused refusal is status_is text_is) = absurd (query_is_not_all status status_is whole)
  answer_true (answered.answered query read answer) = unless_true query read answer

pub reach_texts_are_true : ReachTextsAreTrue
reach_texts_are_true d words text h t =
    let answer = answer_true d words t.status text h.typed h.named t.whole t.answered in
    answer.is_true

pub reach_texts_fit : ReachTextsFit
reach_texts_fit d words text h t =
    let answer = answer_true d words t.status text h.typed h.named t.whole t.answered in
    answer.fits

pub reach_texts_pass : ReachTextsPass
reach_texts_pass d words text status h t decided =
    let answer = answer_true d words t.status text h.typed h.named t.whole t.answered in
    (decided.reach answer.first).1 answer.is_true

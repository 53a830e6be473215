-- What is answered, by the lines of the rows.
use Rattle.std.proofs.Common.{◌∙◌, List, Option, ap, subst, ℕ}
use Rattle.command_job.specs.declared.status.Status.{Status}
use Rattle.command_job.specs.declared.status.Status.TheVariants as ends
use Rattle.listing_text.proofs.BodyLemmas.{told_whole}
use Rattle.listing_text.specs.Answered.{status_by}
use Rattle.listing_text.specs.Answered as answered
use Rattle.listing_text.specs.Bodies.{IsBody}
use Rattle.listing_text.specs.Bodies as bodies
use Rattle.listing_text.specs.Texts.{told_lines_from}
use Rattle.query_words.specs.declared.reaches.ReachQuery.{ReachQuery}
use Rattle.vpc_laws.specs.Types.{Description, End, Header}
use Rattle.end_reach.specs.Answered.{IsPrinted, IsReachTold}
use Rattle.end_reach.specs.Texts.{part_of, part_text, row_lines_from, whole_of, whole_text}
use Rattle.end_reach.specs.Told.{wanted}

pub told_by : (d : Description) (query : ReachQuery) (words : List (List ℕ)) (targets : List (ℕ × ℕ)) (starts : List End) (lines : List ℕ) (count : ℕ) (next : Option (End × Header)) (status : Status) (text : List ℕ)
    → IsBody (wanted d query targets) (row_lines_from d) starts lines count next → IsPrinted d words lines count next status text → IsReachTold d query words targets starts status text
told_by d query words targets starts lines count next status text (bodies.body_all told are lines_are count_is next_is) printed =
    let p = subst (λ (o : Option (End × Header)). IsPrinted d words lines count o status text) next_is printed in
    told_whole ends.Yes ends.No (whole_text d words) (part_text d words) (wanted d query targets) starts told status text are (p.0 ∙ ap (status_by ends.Yes ends.No) count_is)
    (p.1 ∙ (ap (λ (l : List ℕ). whole_of words l count) lines_are ∙ ap (λ (n : ℕ). whole_of words (told_lines_from (row_lines_from d) 1 told) n) count_is))
told_by d query words targets starts lines count next status text (bodies.body_part told last h are lines_are next_is) printed =
    let p = subst (λ (o : Option (End × Header)). IsPrinted d words lines count o status text) next_is printed in
    answered.more told last h are p.0 (p.1 ∙ ap (λ (l : List ℕ). part_of d words l last.start h) lines_are)

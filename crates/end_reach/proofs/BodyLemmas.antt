-- The rows of a start, as they are handed on.
use Rattle.std.proofs.Common.{◌≡◌, ◌+◌, ◌++◌, ◌∙◌, All, List, ap, length, subst, sym, true, ℕ}
use Rattle.box_walk.proofs.Homes.{start_among}
use Rattle.box_gather.specs.Over.{IsPartOver, IsWholeOver}
use Rattle.header_boxes.specs.declared.rows.Row.{Row}
use Rattle.query_words.specs.declared.reaches.ReachQuery.{ReachQuery}
use Rattle.vpc_laws.specs.Types.{Description, End, Header}
use Rattle.query_words.specs.ReachQuery.{AreGivenEnds}
use Rattle.vpc_model.specs.Accepted.{IsAccepted}
use Rattle.vpc_model.specs.Appliances.{appliances_of}
use Rattle.vpc_model.specs.Cuts.{cuts_of}
use Rattle.vpc_model.specs.Sound.{is_end}
use Rattle.vpc_model.specs.Verdict.{homes_among}
use Rattle.end_reach.proofs.RowLemmas.{rows_reach_ends}
use Rattle.end_reach.specs.Asked.{boxes_at, links_of}
use Rattle.end_reach.specs.Texts.{row_lines_from}
use Rattle.end_reach.specs.Told.{reached_in}

module _ (d : Description) (query : ReachQuery) (targets : List (ℕ × ℕ)) (start : End) (accepted : IsAccepted d) (there : is_end d start ≡ true) (given : AreGivenEnds d query) where
  known : let homes = homes_among (links_of d query) start in is_end d homes.start ≡ true
  known = subst (λ (e : End). is_end d e ≡ true) (sym (start_among (links_of d query) start)) there

  -- the ends that they reach are described
  pub whole-ends : (rows : List (Row End)) (room : ℕ) → IsWholeOver (reached_in d query start) (cuts_of d) (boxes_at d query targets start) room rows → All (λ r. is_end d r.word ≡ true) rows
  whole-ends rows room k = rows_reach_ends d (appliances_of d) (homes_among (links_of d query) start) query.goal (boxes_at d query targets start) rows accepted known given.goal k.rows_are

  pub part-ends : (rows : List (Row End)) (next : Header) (room : ℕ) → IsPartOver (reached_in d query start) (cuts_of d) (boxes_at d query targets start) room rows next → All (λ r. is_end d r.word ≡ true) rows
  part-ends rows next room k = rows_reach_ends d (appliances_of d) (homes_among (links_of d query) start) query.goal (boxes_at d query targets start) rows accepted known given.goal k.rows_are

-- ---- the same by the network's own description, and by a slice

module _ (d n : Description) (start : End) (rows given : List (Row End)) (same : n ≡ d) (is : given ≡ rows) (old text : List ℕ) (old_count count : ℕ) where
  pub lines-as : text ≡ old ++ row_lines_from n (old_count + 1) start given → text ≡ old ++ row_lines_from d (old_count + 1) start rows
  lines-as h =
      h ∙ (ap (λ (x : Description). old ++ row_lines_from x (old_count + 1) start given) same
      ∙ ap (λ (l : List (Row End)). old ++ row_lines_from d (old_count + 1) start l) is)

  pub count-as : count ≡ old_count + length given → count ≡ old_count + length rows
  count-as h = h ∙ ap (λ (l : List (Row End)). old_count + length l) is

  pub ends-as : All (λ r. is_end d r.word ≡ true) rows → All (λ r. is_end n r.word ≡ true) given
  ends-as all =
      subst (λ (x : Description). All (λ (r : Row End). is_end x r.word ≡ true) given) (sym same)
      (subst (λ (l : List (Row End)). All (λ r. is_end d r.word ≡ true) l) (sym is) all)

-- What is gathered from a start.
use Rattle.std.proofs.Common.{◌≡◌, ◌∙◌, IfSome, ap, List, None, Option, Some, subst, true, ℕ}
use Rattle.std.specs.Option.{option_map}
use Rattle.box_gather.specs.Over.{IsGatheredOver}
use Rattle.header_boxes.specs.declared.boxes.Box5.{Box5}
use Rattle.journey_changes.specs.Changes.{change_of, cuts_of_both}
use Rattle.journey_changes.specs.Sent.{AreSentWell, IsToward, Sent, sent}
use Rattle.journey_changes.specs.declared.changes.Change.{Change}
use Rattle.journey_changes.specs.declared.fates.Toward.{Toward}
use Rattle.ordered_cover.specs.declared.rows.Gathered.{Gathered}
use Rattle.query_words.specs.ChangeQuery.{IsChangedEnd}
use Rattle.query_words.specs.declared.changes.ChangeQuery.{ChangeQuery}
use Rattle.query_words.specs.declared.changes.ChangedEnd.{ChangedEnd}
use Rattle.vpc_laws.specs.Types.{Description, End, FarNo}
use Rattle.vpc_model.specs.Sound.{is_end}
use Rattle.changed_ends.specs.Asked.{Comparison, HasEnds}
use Rattle.changed_ends.specs.Links.{links_after, links_before}
use Rattle.change_report.specs.Told.{sent_after, sent_before, toward_of}
use Rattle.change_report.specs.Walked.{nowhere}

-- ---- a start and a goal that are described

toward_well : (d : Description) (goal : Option End) → IfSome goal (λ e. is_end d e ≡ true) → IsToward d (toward_of (Some goal))
toward_well d None there = tt
toward_well d (Some goal) there = there

toward_before : (before after : Description) (goal : Option ChangedEnd) → IfSome goal (IsChangedEnd before after) → IsToward before (toward_of (option_map (λ e. e.before) goal))
toward_before before after None there = tt
toward_before before after (Some goal) there = toward_well before goal.before there.before_is

toward_after : (before after : Description) (goal : Option ChangedEnd) → IfSome goal (IsChangedEnd before after) → IsToward after (toward_of (option_map (λ e. e.after) goal))
toward_after before after None there = tt
toward_after before after (Some goal) there = toward_well after goal.after there.after_is

pub sent_well_before : (c : Comparison) (start : ChangedEnd) → HasEnds c → IsChangedEnd c.before c.after start → AreSentWell (sent_before c start)
sent_well_before c start ends there = record { start = there.before_is; toward = toward_before c.before c.after c.query.goal ends.goal }

pub sent_well_after : (c : Comparison) (start : ChangedEnd) → HasEnds c → IsChangedEnd c.before c.after start → AreSentWell (sent_after c start)
sent_well_after c start ends there = record { start = there.after_is; toward = toward_after c.before c.after c.query.goal ends.goal }

-- where there is no start none needs to be described
pub from_nowhere_before : (c : Comparison) → HasEnds c → AreSentWell (sent_before c nowhere)
from_nowhere_before c ends = record { start = tt; toward = toward_before c.before c.after c.query.goal ends.goal }

pub from_nowhere_after : (c : Comparison) → HasEnds c → AreSentWell (sent_after c nowhere)
from_nowhere_after c ends = record { start = tt; toward = toward_after c.before c.after c.query.goal ends.goal }

-- ---- requests, by the parts of what is asked

module _ (c : Comparison) (start : Option End) (d : Description) (links : List FarNo) (query : ChangeQuery) (toward : Toward) where
  pub sent_before-as : d ≡ c.before → links ≡ links_before c → query ≡ c.query → toward ≡ toward_of (option_map (λ e. e.before) query.goal)
      → sent d start links toward ≡ sent c.before start (links_before c) (toward_of (option_map (λ e. e.before) c.query.goal))
  sent_before-as network linked is toward_is =
      ap (λ (n : Description). sent n start links toward) network
      ∙ (ap (λ (l : List FarNo). sent c.before start l toward) linked
      ∙ (ap (sent c.before start (links_before c)) toward_is
      ∙ ap (λ (q : ChangeQuery). sent c.before start (links_before c) (toward_of (option_map (λ e. e.before) q.goal))) is))

  pub sent_after-as : d ≡ c.after → links ≡ links_after c → query ≡ c.query → toward ≡ toward_of (option_map (λ e. e.after) query.goal)
      → sent d start links toward ≡ sent c.after start (links_after c) (toward_of (option_map (λ e. e.after) c.query.goal))
  sent_after-as network linked is toward_is =
      ap (λ (n : Description). sent n start links toward) network
      ∙ (ap (λ (l : List FarNo). sent c.after start l toward) linked
      ∙ (ap (sent c.after start (links_after c)) toward_is
      ∙ ap (λ (q : ChangeQuery). sent c.after start (links_after c) (toward_of (option_map (λ e. e.after) q.goal))) is))

-- ---- walks that are turned to a start

pub turned_before : (c : Comparison) (s : Sent) (start : ChangedEnd) → record s { start = None } ≡ sent_before c nowhere
    → record s { start = start.before } ≡ sent_before c start
turned_before c s start k = ap (λ (t : Sent). record t { start = start.before }) k

pub turned_after : (c : Comparison) (s : Sent) (start : ChangedEnd) → record s { start = None } ≡ sent_after c nowhere
    → record s { start = start.after } ≡ sent_after c start
turned_after c s start k = ap (λ (t : Sent). record t { start = start.after }) k

-- the same requests, whatever start they were turned to
pub turned_on : (s t : Sent) (start : Option End) → t ≡ record s { start = start } → record t { start = None } ≡ record s { start = None }
turned_on s t start k = ap (λ (x : Sent). record x { start = None }) k

-- ---- probes of the same requests

pub gathered_by_sent : (s t x y : Sent) (boxes : List Box5) (room : ℕ) (g : Gathered Change) → s ≡ x → t ≡ y
    → IsGatheredOver (change_of s t) (cuts_of_both s.network t.network) boxes room g → IsGatheredOver (change_of x y) (cuts_of_both x.network y.network) boxes room g
gathered_by_sent s t x y boxes room g one other k =
    subst (λ (z : Sent). IsGatheredOver (change_of x z) (cuts_of_both x.network z.network) boxes room g) other
    (subst (λ (z : Sent). IsGatheredOver (change_of z t) (cuts_of_both z.network t.network) boxes room g) one k)

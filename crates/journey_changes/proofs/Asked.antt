-- What is asked in one network.
use Rattle.std.proofs.Common.{◌≡◌, ◌∙◌, Err, IfSome, None, Option, Some, ap, refl, subst, sym, true}
use Rattle.box_images.proofs.BodyLemmas.{body_of_itself}
use Rattle.box_images.specs.Answers.{Answers}
use Rattle.box_images.specs.declared.images.Part.{Part}
use Rattle.box_walk.proofs.Homes.{start_among}
use Rattle.box_walk.specs.Asking.{AreNear}
use Rattle.box_walk.specs.Terms.{AnswersJourney, AnswersStopped, AnswersWord, Asking, Starting, asked_by, goal_unless, journey_by, journey_of, open_cuts, starting_by, stop_of, stopped_of, whether, word_of}
use Rattle.box_walk.specs.declared.journeys.Journey.{Journey}
use Rattle.box_walk.specs.declared.journeys.Journey.TheVariants as journeys
use Rattle.header_boxes.proofs.CellNumbers.{aligned_to_itself, aligned_to_more}
use Rattle.header_boxes.specs.Terms.{IsAligned, IsValid, IsWithin, holds, low_of}
use Rattle.vpc_base.specs.Cuts.{AreAmong, CutLists}
use Rattle.vpc_laws.specs.Types.{Box5, Description, End, Header, Phase, Stop, Verdict}
use Rattle.vpc_model.specs.Near.{near_cuts}
use Rattle.vpc_model.specs.Terms.{appliances_of, is_end}
use Rattle.vpc_model.specs.Verdict.{homes_among, verdict_by}
use Rattle.vpc_model.specs.declared.outcomes.Verdict.TheVariants as verdicts
use Rattle.journey_changes.specs.Terms.{Fate, IsToward, Sent, Toward, fate, fate_by, fate_of, fate_unless, goal_or, missing_by, near, reached, reached_by, sent, start_or}
use Rattle.journey_changes.specs.declared.fates.Barrier.TheVariants as barriers
use Rattle.journey_changes.specs.declared.fates.Toward.TheVariants as towards

-- ---- answers

-- an answer, told in other words, about the same requests
pub told_in : {S T : Type 0} (s t : Sent) (answer : Header → S) (meaning : Sent → Header → T) (part : Box5) (x : Part S) (told : T) (f : S → T)
    → t ≡ s → ((h : Header) → f (answer h) ≡ meaning t h) → told ≡ f x.told → Answers (AreAmong (near t (low_of part))) answer part x
    → Answers (AreAmong (near s (low_of part))) (meaning s) part (record { body = x.body; told = told })
told_in {S} {T} s t answer meaning part x told f same means is k =
    subst (λ (r : Sent). Answers (AreAmong (near r (low_of part))) (meaning r) part (record { body = x.body; told = told })) same
    (record { told = λ h i. is ∙ (ap f (k.told h i) ∙ means h); body = k.body; aligned = k.aligned })

-- one answer for all headers of the part
pub told_all : {T : Type 0} (enough : CutLists → Type 0) (answer : Header → T) (part : Box5) (told : T) → IsValid part → ((h : Header) → answer h ≡ told)
    → Answers enough answer part (record { body = part; told = told })
told_all {T} enough answer part told valid all = record { told = λ h i. sym (all h); body = body_of_itself part valid; aligned = λ cuts e. aligned_to_itself cuts part }

-- what a probe tells
pub told_by_probe : {T : Type 0} (cuts : CutLists) (answer : Header → T) (part body : Box5) (told : T) → IsWithin body part → low_of body ≡ low_of part → IsAligned cuts body part
    → ((h : Header) → holds h body ≡ true → answer h ≡ told) → Answers (AreAmong cuts) answer part (record { body = body; told = told })
told_by_probe {T} cuts answer part body told within low aligned means = record {
  told = λ h i. sym (means h i);
  body = record { within = within; low = low };
  aligned = λ more e. aligned_to_more cuts more body part e aligned;
}

-- ---- a start and a goal, where there are any

pub start_described : (d : Description) (start : Option End) → IfSome start (λ e. is_end d e ≡ true) → is_end d (start_or start) ≡ true
start_described d None there = refl
start_described d (Some start) there = there

pub goal_described : (d : Description) (toward : Toward) → IsToward d toward → is_end d (goal_or toward) ≡ true
goal_described d towards.Any there = refl
goal_described d towards.Missing there = refl
goal_described d (towards.Goal goal) there = there

-- requests from a start that is there, toward what is meant
pub from_start : (q : Sent) (s : End) (t : Toward) → q.start ≡ Some s → q.toward ≡ t → sent q.network (Some s) q.links t ≡ q
from_start q s t is toward_is = ap (λ (o : Option End). sent q.network o q.links t) (sym is) ∙ ap (sent q.network q.start q.links) (sym toward_is)

-- what is asked of them without a goal
pub open_sent : (q : Sent) (s : End) (asks : Starting) → q.start ≡ Some s → asks ≡ starting_by q.network (homes_among q.links (start_or q.start))
    → asks ≡ starting_by q.network (homes_among q.links s)
open_sent q s asks is same = same ∙ ap (λ (o : Option End). starting_by q.network (homes_among q.links (start_or o))) is

-- and with one
round_sent : (q : Sent) (s goal : End) (asks : Asking) → q.start ≡ Some s → q.toward ≡ towards.Goal goal
    → asks ≡ asked_by q.network (homes_among q.links (start_or q.start)) (goal_or q.toward) → asks ≡ asked_by q.network (homes_among q.links s) goal
round_sent q s goal asks is toward_is same =
    same ∙ (ap (λ (o : Option End). asked_by q.network (homes_among q.links (start_or o)) (goal_or q.toward)) is
    ∙ ap (λ (t : Toward). asked_by q.network (homes_among q.links s) (goal_or t)) toward_is)

-- ---- fates

pub absent_fate : (q : Sent) (h : Header) → q.start ≡ None → fate q h ≡ Err barriers.Absent
absent_fate q h none = ap (λ (o : Option End). fate_of q.network o q.links q.toward h) none

pub absent_reached : (q : Sent) (h : Header) → q.start ≡ None → reached q h ≡ None
absent_reached q h none = ap reached_by (absent_fate q h none)

by_missing : (j : Journey) → reached_by (missing_by j) ≡ None
by_missing (journeys.Reached end) = refl
by_missing (journeys.Stopped phase s) = refl

-- toward an end that isn't there nothing gets through
pub missing_reached : (q : Sent) (s : End) (h : Header) → q.start ≡ Some s → q.toward ≡ towards.Missing → reached q h ≡ None
missing_reached q s h is toward_is =
    ap (λ (t : Toward). reached_by (fate_of q.network q.start q.links t h)) toward_is
    ∙ (ap (λ (o : Option End). reached_by (fate_of q.network o q.links towards.Missing h)) is
    ∙ by_missing (journey_of q.network (appliances_of q.network) (homes_among q.links s) None h))

by_goal_reached : (goal : End) (v : Verdict) → goal_unless goal (whether (stop_of v)) ≡ reached_by (fate_by (journey_by goal v))
by_goal_reached goal verdicts.Through = refl
by_goal_reached goal (verdicts.Stopped phase s) = refl

by_goal_fate : (goal : End) (v : Verdict) → fate_unless goal (stop_of v) ≡ fate_by (journey_by goal v)
by_goal_fate goal verdicts.Through = refl
by_goal_fate goal (verdicts.Stopped phase s) = refl

-- ---- what the probes tell

-- what becomes of requests from a start, toward any end
abbrev onward : Sent → End → Header → Journey
onward q s = journey_of q.network (appliances_of q.network) (homes_among q.links s) None

module _ (q : Sent) (s : End) (part : Box5) (asks : Starting) (is : q.start ≡ Some s)
    (same : asks ≡ starting_by q.network (homes_among q.links (start_or q.start))) where
  of_start : (x : Part Journey) → AnswersJourney asks part x
      → Answers (AreAmong (open_cuts q.network (appliances_of q.network) s (low_of part))) (onward q s) part x
  of_start x k =
      subst (λ (e : End). Answers (AreAmong (open_cuts q.network (appliances_of q.network) e (low_of part))) (onward q s) part x) (start_among q.links s)
      (subst (λ (y : Starting). AnswersJourney y part x) (open_sent q s asks is same) k)

  pub any_reached : (x : Part Journey) (told : Option End) → q.toward ≡ towards.Any → told ≡ reached_by (fate_by x.told) → AnswersJourney asks part x
      → Answers (AreAmong (near q (low_of part))) (reached q) part (record { body = x.body; told = told })
  any_reached x told toward_is says k =
      told_in q (sent q.network (Some s) q.links towards.Any) (onward q s) reached part x told
      (λ j. reached_by (fate_by j)) (from_start q s towards.Any is toward_is) (λ h. refl) says (of_start x k)

  pub any_fate : (x : Part Journey) (told : Fate) → q.toward ≡ towards.Any → told ≡ fate_by x.told → AnswersJourney asks part x
      → Answers (AreAmong (near q (low_of part))) (fate q) part (record { body = x.body; told = told })
  any_fate x told toward_is says k =
      told_in q (sent q.network (Some s) q.links towards.Any) (onward q s) fate part x told fate_by
      (from_start q s towards.Any is toward_is) (λ h. refl) says (of_start x k)

  pub missing_fate : (x : Part Journey) (told : Fate) → q.toward ≡ towards.Missing → told ≡ missing_by x.told → AnswersJourney asks part x
      → Answers (AreAmong (near q (low_of part))) (fate q) part (record { body = x.body; told = told })
  missing_fate x told toward_is says k =
      told_in q (sent q.network (Some s) q.links towards.Missing) (onward q s) fate part x told missing_by
      (from_start q s towards.Missing is toward_is) (λ h. refl) says (of_start x k)

-- toward a goal
module _ (q : Sent) (s goal : End) (part : Box5) (asks : Asking) (is : q.start ≡ Some s) (toward_is : q.toward ≡ towards.Goal goal)
    (same : asks ≡ asked_by q.network (homes_among q.links (start_or q.start)) (goal_or q.toward)) where
  abbrev between : Asking
  between = asked_by q.network (homes_among q.links s) goal

  of_ends : {T : Type 0} (answer : Asking → Header → T) (x : Part T) → Answers (AreNear asks part) (answer asks) part x
      → Answers (AreAmong (near_cuts q.network (appliances_of q.network) s goal (low_of part))) (answer between) part x
  of_ends {T} answer x k =
      subst (λ (e : End). Answers (AreAmong (near_cuts q.network (appliances_of q.network) e goal (low_of part))) (answer between) part x)
      (start_among q.links s)
      (subst (λ (y : Asking). Answers (AreNear y part) (answer y) part x) (round_sent q s goal asks is toward_is same) k)

  pub goal_reached : (x : Part (Option (Unit {0}))) (told : Option End) → told ≡ goal_unless goal x.told → AnswersStopped asks part x
      → Answers (AreAmong (near q (low_of part))) (reached q) part (record { body = x.body; told = told })
  goal_reached x told says k =
      told_in q (sent q.network (Some s) q.links (towards.Goal goal)) (stopped_of between) reached part x told (goal_unless goal)
      (from_start q s (towards.Goal goal) is toward_is)
      (λ h. by_goal_reached goal (verdict_by q.network (appliances_of q.network) (homes_among q.links s) goal h)) says (of_ends stopped_of x k)

  pub goal_fate : (x : Part (Option (Phase × Stop))) (told : Fate) → told ≡ fate_unless goal x.told → AnswersWord asks part x
      → Answers (AreAmong (near q (low_of part))) (fate q) part (record { body = x.body; told = told })
  goal_fate x told says k =
      told_in q (sent q.network (Some s) q.links (towards.Goal goal)) (word_of between) fate part x told (fate_unless goal)
      (from_start q s (towards.Goal goal) is toward_is)
      (λ h. by_goal_fate goal (verdict_by q.network (appliances_of q.network) (homes_among q.links s) goal h)) says (of_ends word_of x k)

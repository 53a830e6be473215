-- What `diff` answers is decided by its words, and tells of no device.
use Rattle.std.proofs.Common.{◌≡◌, ◌∙◌, ◌++◌, ◌∷◌, [], Bool, Err, List, None, Ok, Option, Some, cond, false, filter, not, refl, subst, sym, true, ℕ}
use Rattle.command_job.proofs.Devices.{no_device, no_is_none, query_is_none, yes_is_none}
use Rattle.command_job.specs.Status.{IsOfDevice}
use Rattle.command_job.specs.declared.status.Status.{Status}
use Rattle.command_job.specs.declared.status.Status.TheVariants as ends
use Rattle.listing_text.proofs.Decided.{same_sides, told_decides, told_is_none}
use Rattle.listing_text.proofs.Orders.{AreAlike, alike-joined, alike-kept, alike-orders, alike-same}
use Rattle.prefix_text.specs.Block.{Block}
use Rattle.query_words.specs.ChangeQuery.{change_query_of, internet_in_both}
use Rattle.query_words.specs.declared.changes.ChangeQuery.{ChangeQuery}
use Rattle.query_words.specs.declared.changes.ChangedEnd.{ChangedEnd}
use Rattle.vpc_laws.specs.Types.{Description}
use Rattle.change_report.specs.Answered.{IsDecided, IsDiffAnswered, IsDiffDecided, IsToldUnlessTooMany, IsTooMany}
use Rattle.change_report.specs.Answered as answered
use Rattle.changed_ends.specs.Asked.{AreAllOrSides, AreStarts, AreTargets, Comparison, StartAt, TargetsAre, addresses_in_either, comparison, hosts_of_either, is_goal, is_outside_in_either, is_start, prefixes_in_either, sources_of_either, starts_among}
use Rattle.change_report.specs.Texts.{lines_at, part_text, whole_text}
use Rattle.change_report.specs.Told.{wanted}

-- ---- one list of destinations

same_own : (net : Bool) (addresses : List ℕ) (blocks : List Block) (xs ys : List (ℕ × ℕ)) → AreAllOrSides net addresses blocks xs → AreAllOrSides net addresses blocks ys → xs ≡ ys
same_own true addresses blocks xs ys a b = a ∙ sym b
same_own false addresses blocks xs ys a b = same_sides addresses blocks xs ys a b

pub same_targets : (before after : Description) (given : Option (ℕ × ℕ)) (goal : Option ChangedEnd) (xs ys : List (ℕ × ℕ)) → TargetsAre before after given goal xs → TargetsAre before after given goal ys → xs ≡ ys
same_targets before after (Some side) goal xs ys a b = a ∙ sym b
same_targets before after None None xs ys a b = a ∙ sym b
same_targets before after None (Some goal) xs ys a b =
    same_own (is_outside_in_either goal) (addresses_in_either before after goal) (prefixes_in_either before after goal) xs ys a b

-- ---- starts, in whatever order

starts_alike : (before after : Description) (src : Option (ℕ × ℕ)) (start goal : Option ChangedEnd) (xs ys : List ChangedEnd) → StartAt before after src start goal xs → StartAt before after src start goal ys → AreAlike xs ys
starts_alike before after src (Some start) goal xs ys a b = alike-same xs ys (a ∙ sym b)
starts_alike before after src None goal xs ys a b =
    subst (λ (l : List ChangedEnd). AreAlike l ys) (sym a.are)
    (subst (λ (l : List ChangedEnd). AreAlike (starts_among before after src goal a.hosts a.outside) l) (sym b.are)
    (alike-joined (first ++ filter sends a.hosts) (first ++ filter sends b.hosts) (filter others a.outside) (filter others b.outside)
    (alike-joined first first (filter sends a.hosts) (filter sends b.hosts) (alike-same first first refl)
    (alike-kept sends a.hosts b.hosts (alike-orders (hosts_of_either before after) a.hosts b.hosts a.hosts_are.all b.hosts_are.all)))
    (alike-kept others a.outside b.outside (alike-orders (sources_of_either before after) a.outside b.outside a.outside_are.all b.outside_are.all))))
  where
    first : List ChangedEnd
    first = cond (is_goal goal internet_in_both) [] (internet_in_both ∷ [])

    sends : ChangedEnd → Bool
    sends = is_start before after src goal

    others : ChangedEnd → Bool
    others = λ e. not (is_goal goal e)

-- ---- the status

unless_decides : (c : Comparison) (words : List (List ℕ)) (status : Status) (text : List ℕ) → IsToldUnlessTooMany c words status text → (IsTooMany c → ⊥) → IsDecided c status
unless_decides c words status text (answered.too_many many status_is text_is) few = absurd (few many)
unless_decides c words status text (answered.told few answer) not = told_decides (AreTargets c) (AreStarts c) (wanted c) (same_targets c.before c.after c.query.pairs.dst c.query.goal) (starts_alike c.before c.after c.query.pairs.src c.query.start c.query.goal)
    answer.targets answer.starts answer.targets_are answer.starts_are ends.No ends.Yes (whole_text c words) (part_text c words) (lines_at c) status text answer.told

same_query : (before after : Description) (words : List (List ℕ)) (x y : ChangeQuery) → change_query_of before after words ≡ Ok x → change_query_of before after words ≡ Ok y → x ≡ y
same_query before after words x y a b = let same : Ok x ≡ Ok y = sym a ∙ b in cc

pub diff_is_decided : (before after : Description) (words : List (List ℕ)) (status : Status) (text : List ℕ) → IsDiffAnswered before after words status text
    → IsDiffDecided before after words status
diff_is_decided before after words status text (answered.refused refusal is status_is text_is) query meant few = let same : Err refusal ≡ Ok query = sym is ∙ meant in absurd cc
diff_is_decided before after words status text (answered.answered x is answer) query meant few =
    unless_decides (comparison before after query) words status text
    (subst (λ (q : ChangeQuery). IsToldUnlessTooMany (comparison before after q) words status text) (same_query before after words x query is meant) answer) few

-- ---- no device

unless_is_none : (c : Comparison) (words : List (List ℕ)) (status : Status) (text : List ℕ) → IsToldUnlessTooMany c words status text → IsOfDevice status → ⊥
unless_is_none c words status text (answered.too_many many status_is text_is) h = no_device status ends.Query status_is query_is_none h
unless_is_none c words status text (answered.told few answer) h = told_is_none ends.No ends.Yes (whole_text c words) (part_text c words) (wanted c answer.targets) answer.starts status text no_is_none yes_is_none answer.told h

pub diff_is_none : (before after : Description) (words : List (List ℕ)) (status : Status) (text : List ℕ) → IsDiffAnswered before after words status text → IsOfDevice status → ⊥
diff_is_none before after words status text (answered.refused refusal is status_is text_is) h = no_device status ends.Query status_is query_is_none h
diff_is_none before after words status text (answered.answered query is answer) h = unless_is_none (comparison before after query) words status text answer h

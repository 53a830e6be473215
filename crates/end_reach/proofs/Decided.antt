-- What `reach` answers is decided by its words, and tells of no device.
use Rattle.std.proofs.Common.{◌≡◌, ◌∙◌, ◌++◌, ◌∷◌, [], Err, List, None, Ok, Option, Some, cond, filter, map, refl, subst, sym, ℕ}
use Rattle.command_job.proofs.Devices.{no_device, no_is_none, query_is_none, yes_is_none}
use Rattle.command_job.specs.Status.{IsOfDevice}
use Rattle.command_job.specs.declared.status.Status.{Status}
use Rattle.command_job.specs.declared.status.Status.TheVariants as ends
use Rattle.described_hosts.specs.Hosts.{hosts_of}
use Rattle.listing_text.proofs.Decided.{same_sides, told_decides, told_is_none}
use Rattle.listing_text.proofs.Orders.{AreAlike, alike-joined, alike-kept, alike-mapped, alike-orders, alike-same}
use Rattle.listing_text.specs.Outside.{sources_of}
use Rattle.query_words.specs.ReachQuery.{reach_query_of}
use Rattle.query_words.specs.declared.reaches.ReachQuery.{ReachQuery}
use Rattle.vpc_laws.specs.Types.{Description, End, EniNo, FarNo}
use Rattle.vpc_model.specs.Lookup.{interface_at}
use Rattle.vpc_model.specs.declared.places.End.TheVariants as places
use Rattle.end_reach.specs.Answered.{IsDecided, IsReachAnswered, IsReachDecided, IsToldUnlessTooMany, IsTooMany}
use Rattle.end_reach.specs.Answered as answered
use Rattle.end_reach.specs.Asked.{AreStarts, AreTargets, is_far_start, is_goal, is_start, own_addresses, starts_among}
use Rattle.end_reach.specs.Texts.{part_text, row_lines_from, whole_text}
use Rattle.end_reach.specs.Told.{wanted}

-- ---- one list of destinations

pub same_targets : (d : Description) (given : Option (ℕ × ℕ)) (goal : Option End) (xs ys : List (ℕ × ℕ)) → AreTargets d given goal xs → AreTargets d given goal ys → xs ≡ ys
same_targets d (Some side) goal xs ys a b = a ∙ sym b
same_targets d None None xs ys a b = a ∙ sym b
same_targets d None (Some places.Internet) xs ys a b = a ∙ sym b
same_targets d None (Some (places.Far k)) xs ys a b = a ∙ sym b
same_targets d None (Some (places.Interface i)) xs ys a b = let e = interface_at d i in same_sides (own_addresses e) e.prefixes xs ys a b

-- ---- starts, in whatever order

starts_alike : (d : Description) (src : Option (ℕ × ℕ)) (start goal : Option End) (xs ys : List End) → AreStarts d src start goal xs → AreStarts d src start goal ys → AreAlike xs ys
starts_alike d src (Some start) goal xs ys a b = alike-same xs ys (a ∙ sym b)
starts_alike d src None goal xs ys a b =
    subst (λ (l : List End). AreAlike l ys) (sym a.are)
    (subst (λ (l : List End). AreAlike (starts_among d src goal a.hosts a.outside) l) (sym b.are)
    (alike-joined (first ++ made_hosts a.hosts) (first ++ made_hosts b.hosts) (made_outside a.outside) (made_outside b.outside)
    (alike-joined first first (made_hosts a.hosts) (made_hosts b.hosts) (alike-same first first refl)
    (alike-mapped places.Interface (filter (is_start d src goal) a.hosts) (filter (is_start d src goal) b.hosts)
    (alike-kept (is_start d src goal) a.hosts b.hosts (alike-orders (hosts_of d) a.hosts b.hosts a.by_id.all b.by_id.all))))
    (alike-mapped places.Far (filter (is_far_start goal) a.outside) (filter (is_far_start goal) b.outside)
    (alike-kept (is_far_start goal) a.outside b.outside (alike-orders (sources_of d) a.outside b.outside a.outside_by_id.all b.outside_by_id.all)))))
  where
    first : List End
    first = cond (is_goal goal places.Internet) [] (places.Internet ∷ [])

    made_hosts : List EniNo → List End
    made_hosts hosts = map places.Interface (filter (is_start d src goal) hosts)

    made_outside : List FarNo → List End
    made_outside outside = map places.Far (filter (is_far_start goal) outside)

-- ---- the status

unless_decides : (d : Description) (query : ReachQuery) (words : List (List ℕ)) (status : Status) (text : List ℕ) → IsToldUnlessTooMany d query words status text → (IsTooMany d query → ⊥) → IsDecided d query status
unless_decides d query words status text (answered.too_many many status_is text_is) few = absurd (few many)
unless_decides d query words status text (answered.told few answer) not =
    told_decides (AreTargets d query.pairs.dst query.goal) (AreStarts d query.pairs.src query.start query.goal) (wanted d query) (same_targets d query.pairs.dst query.goal) (starts_alike d query.pairs.src query.start query.goal)
    answer.targets answer.starts answer.targets_are answer.starts_are ends.Yes ends.No (whole_text d words) (part_text d words) (row_lines_from d) status text answer.told

same_query : (d : Description) (words : List (List ℕ)) (x y : ReachQuery) → reach_query_of d words ≡ Ok x → reach_query_of d words ≡ Ok y → x ≡ y
same_query d words x y a b = let same : Ok x ≡ Ok y = sym a ∙ b in cc

pub reach_is_decided : (d : Description) (words : List (List ℕ)) (status : Status) (text : List ℕ) → IsReachAnswered d words status text → IsReachDecided d words status
reach_is_decided d words status text (answered.refused refusal is status_is text_is) query meant few = let same : Err refusal ≡ Ok query = sym is ∙ meant in absurd cc
reach_is_decided d words status text (answered.answered x is answer) query meant few =
    unless_decides d query words status text (subst (λ (q : ReachQuery). IsToldUnlessTooMany d q words status text) (same_query d words x query is meant) answer) few

-- ---- no device

unless_is_none : (d : Description) (query : ReachQuery) (words : List (List ℕ)) (status : Status) (text : List ℕ) → IsToldUnlessTooMany d query words status text → IsOfDevice status → ⊥
unless_is_none d query words status text (answered.too_many many status_is text_is) h = no_device status ends.Query status_is query_is_none h
unless_is_none d query words status text (answered.told few answer) h =
    told_is_none ends.Yes ends.No (whole_text d words) (part_text d words) (wanted d query answer.targets) answer.starts status text yes_is_none no_is_none answer.told h

pub reach_is_none : (d : Description) (words : List (List ℕ)) (status : Status) (text : List ℕ) → IsReachAnswered d words status text → IsOfDevice status → ⊥
reach_is_none d words status text (answered.refused refusal is status_is text_is) h = no_device status ends.Query status_is query_is_none h
reach_is_none d words status text (answered.answered query is answer) h = unless_is_none d query words status text answer h

-- The starts of a question for what changes, with what is asked of each.
use Rattle.std.proofs.Common.{All, Bool, Err, IfOk, IfSome, List, None, Ok, Option, Result, Some, [], ap, arith, cond, false, filter, get_or, length, map, not, option_map, refl, slice_get, subst, sym, true, ℕ, ◌++◌, ◌+◌, ◌<◌, ◌^◌, ◌∙◌, ◌∷◌, ◌≡◌, ◌≤◌}
use Rattle.vpc_base.proofs.Lemmas.{All-map, count_by-le-length, length-append, length-filter, length-map, length_permutation, slice_get-get_or, slice_get-map}
use Rattle.changed_ends.proofs.BoxLemmas.{boxes_at-valid}
use Rattle.change_report.specs.Terms.{AreStarts, AreTargets, Comparison, StartAt, from_after, from_before, hosts_of_either, is_goal, is_new, is_start, nowhere, starts_among}
use Rattle.described_hosts.specs.Hosts.{hosts_of}
use Rattle.header_boxes.specs.Boxes.{IsValid}
use Rattle.listing_check.specs.Terms.{Asked, IsLook, id_of, origins_of, outcome_of}
use Rattle.listing_check.specs.declared.looks.Look.{Look}
use Rattle.listing_reader.specs.declared.origins.Origin.{Origin}
use Rattle.query_words.specs.Terms.{AreReachPairs, internet_in_both}
use Rattle.query_words.specs.declared.changes.ChangedEnd.{ChangedEnd}
use Rattle.vpc_laws.specs.Types.{Description, Header, Row}
use Rattle.vpc_model.specs.Accepted.{IsAccepted}
use Rattle.changed_ends.specs.Asked.{far_from_after, far_from_before, is_free, is_new_source, sources_of_either}
use Rattle.end_reach.proofs.Few.{few_hosts, few_sources}
use Rattle.listing_text.specs.Outside as listed
use Rattle.diff_check.specs.Diffs.{told_in, told_or_same}
use Rattle.diff_check.specs.Starts.{origin_from}
use Rattle.diff_check.specs.Diffs.{all_asked, asked_from}

-- ---- all starts

pub origins_of-changes : (c : Comparison) (targets : List (ℕ × ℕ)) (starts : List ChangedEnd) → map (origin_from c targets) starts ≡ origins_of (all_asked c targets starts)
origins_of-changes c targets [] = refl
origins_of-changes c targets (s ∷ starts) = ap (λ (l : List Origin). origin_from c targets s ∷ l) (origins_of-changes c targets starts)

abbrev AreBoxesValid : Origin → Type 0
AreBoxesValid o = All IsValid o.boxes

pub origins_are_valid : (c : Comparison) (targets : List (ℕ × ℕ)) (starts : List ChangedEnd) → AreReachPairs c.query.pairs → AreTargets c targets
    → All (λ o. All IsValid o.boxes) (map (origin_from c targets) starts)
origins_are_valid c targets starts given are =
    All-map AreBoxesValid (origin_from c targets) starts (λ k d below. boxes_at-valid c targets (get_or starts k d) given are)

-- ---- one of them

module _ (c : Comparison) (targets : List (ℕ × ℕ)) (starts : List ChangedEnd) (k : ℕ) where
  pub below_starts : k < length (all_asked c targets starts) → k < length starts
  below_starts below = let same = length-map starts (asked_from c targets) in omega (arith, same, below)

  pub below_origins : (origins : List Origin) → origins ≡ map (origin_from c targets) starts → k < length (all_asked c targets starts) → k < length origins
  below_origins origins are below =
      let same = length-map starts (asked_from c targets) in
      let mapped = length-map starts (origin_from c targets) in
      let long = ap length are in
      omega (arith, same, mapped, long, below)

  pub start_there : k < length (all_asked c targets starts) → slice_get starts k ≡ Some (get_or starts k nowhere)
  start_there below = slice_get-get_or starts k nowhere (below_starts below)

  module _ (start : ChangedEnd) (is : slice_get starts k ≡ Some start) where
    asked_at-start : slice_get (all_asked c targets starts) k ≡ Some (asked_from c targets start)
    asked_at-start = slice_get-map (asked_from c targets) starts k ∙ ap (option_map (asked_from c targets)) is

    pub origin_at-start : (origins : List Origin) (origin : Origin) → origins ≡ map (origin_from c targets) starts → slice_get origins k ≡ Some origin → origin ≡ origin_from c targets start
    origin_at-start origins origin are at =
        let same : Some origin ≡ Some (origin_from c targets start) =
        sym at ∙ (ap (λ (l : List Origin). slice_get l k) are ∙ (slice_get-map (origin_from c targets) starts k ∙ ap (option_map (origin_from c targets)) is)) in
        cc

    pub looked_from : {E : Type 0} (rows : List (Row (List ℕ))) (r : Result Look E) → IfOk r (IsLook (record { asked = asked_from c targets start; rows = rows }))
        → IfOk r (λ look. IfSome (slice_get (all_asked c targets starts) k) (λ a. IsLook (record { asked = a; rows = rows }) look))
    looked_from rows (Ok look) found = subst (λ (x : Option Asked). IfSome x (λ a. IsLook (record { asked = a; rows = rows }) look)) (sym asked_at-start) found
    looked_from rows (Err e) found = tt

    pub id_at-start : (origins : List Origin) (origin : Origin) (id : List ℕ) → origins ≡ map (origin_from c targets) starts → slice_get origins k ≡ Some origin → id ≡ origin.id
        → id ≡ id_of (slice_get (all_asked c targets starts) k)
    id_at-start origins origin id are at same = same ∙ (ap (λ (o : Origin). o.id) (origin_at-start origins origin are at) ∙ sym (ap id_of asked_at-start))

    pub outcome_at-start : (h : Header) → told_or_same (told_in c start h) ≡ outcome_of (slice_get (all_asked c targets starts) k) h
    outcome_at-start h = sym (ap (λ (x : Option Asked). outcome_of x h) asked_at-start)

-- ---- how many there are

few_of_either : (before after : Description) → IsAccepted before → IsAccepted after → length (hosts_of_either before after) ≤ 200000
few_of_either before after first second =
    let one = few_hosts before first in
    let other = few_hosts after second in
    let new = filter (is_new before after) (hosts_of after) in
    let joined = length-append (map (from_before before after) (hosts_of before)) (map from_after new) in
    let mapped = length-map (hosts_of before) (from_before before after) in
    let later = length-map new from_after in
    let kept = length-filter (is_new before after) (hosts_of after) in
    let some = count_by-le-length (is_new before after) (hosts_of after) in
    omega (arith, one, other, joined, mapped, later, kept, some)

few_outside : (before after : Description) → IsAccepted before → IsAccepted after → length (sources_of_either before after) ≤ 200000
few_outside before after first second =
    let one = few_sources before first in
    let other = few_sources after second in
    let free = filter (is_free before after) (listed.sources_of before) in
    let new = filter (is_new_source before after) (listed.sources_of after) in
    let joined = length-append (map (far_from_before before after) free) (map far_from_after new) in
    let mapped = length-map free (far_from_before before after) in
    let later = length-map new far_from_after in
    let kept_free = length-filter (is_free before after) (listed.sources_of before) in
    let some_free = count_by-le-length (is_free before after) (listed.sources_of before) in
    let kept = length-filter (is_new_source before after) (listed.sources_of after) in
    let some = count_by-le-length (is_new_source before after) (listed.sources_of after) in
    omega (arith, one, other, joined, mapped, later, kept_free, some_free, kept, some)

few_first : (b : Bool) → length (cond b [] (internet_in_both ∷ [])) ≤ 1
few_first true = omega arith
few_first false = omega arith

few_among : (before after : Description) (src : Option (ℕ × ℕ)) (goal : Option ChangedEnd) (hosts outside : List ChangedEnd)
    → length (starts_among before after src goal hosts outside) ≤ 1 + length hosts + length outside
few_among before after src goal hosts outside =
    let first = cond (is_goal goal internet_in_both) [] (internet_in_both ∷ []) in
    let others : ChangedEnd → Bool = λ e. not (is_goal goal e) in
    let one = few_first (is_goal goal internet_in_both) in
    let joined = length-append first (filter (is_start before after src goal) hosts) in
    let all = length-append (first ++ filter (is_start before after src goal) hosts) (filter others outside) in
    let kept = length-filter (is_start before after src goal) hosts in
    let some = count_by-le-length (is_start before after src goal) hosts in
    let kept_outside = length-filter others outside in
    let some_outside = count_by-le-length others outside in
    omega (arith, one, joined, all, kept, some, kept_outside, some_outside)

few_at : (before after : Description) (src : Option (ℕ × ℕ)) (start goal : Option ChangedEnd) (starts : List ChangedEnd) → IsAccepted before → IsAccepted after → StartAt before after src start goal starts → length starts < 2 ^ 32
few_at before after src (Some start) goal starts first second are = let same = ap length are in omega (arith, same)
few_at before after src None goal starts first second are =
    let same = ap length are.are in
    let among = few_among before after src goal are.hosts are.outside in
    let moved = length_permutation (hosts_of_either before after) are.hosts are.hosts_are.all in
    let few = few_of_either before after first second in
    let moved_outside = length_permutation (sources_of_either before after) are.outside are.outside_are.all in
    let few_others = few_outside before after first second in
    omega (arith, same, among, moved, few, moved_outside, few_others)

pub few_changed_starts : (c : Comparison) (starts : List ChangedEnd) → IsAccepted c.before → IsAccepted c.after → AreStarts c starts → length starts < 2 ^ 32
few_changed_starts c starts first second are = few_at c.before c.after c.query.pairs.src c.query.start c.query.goal starts first second are

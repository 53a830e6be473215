-- The networks from which requests start, and their order.
use Rattle.std.proofs.Common.{All, AllPairs, Bool, IsPermutation, IsSortedByKey, List, None, Option, Some, [], ap, arith, bytes_eq, codes, cond, false, filter, get_or, length, map, nat_cmp, not, option_and_then, option_map, position, refl, subst, sym, true, ℕ, ◌&&◌, ◌++◌, ◌+◌, ◌<◌, ◌^◌, ◌∙◌, ◌∷◌, ◌≡◌}
use Rattle.std.specs.Cmp.Lexicographic.{slice_cmp}
use Rattle.std.specs.List.{IsDistinct, range_with_len}
use Rattle.std.proofs.lemmas.Option.{cond_some}
use Rattle.vpc_base.proofs.Lemmas.{All-permutation, AllPairs-filter, IsDistinct-from_apart, and_from, and_parts, eqb-true, false_from_ne_true, false≢true, filter_of_map_range_with_len_more, filter_passes, get_or-map-range_with_len, length-map-range_with_len, none-some, not-true, position-at, same_Some, same_bytes}
use Rattle.vpc_laws.proofs.Lemmas.{accepted_has_short_lists}
use Rattle.vpc_laws.specs.Types.{Description, FarNo}
use Rattle.vpc_model.specs.Far.{far_end_of_id, far_of_id, is_far_end}
use Rattle.vpc_model.specs.Lookup.{far_at, has_interface, no_far}
use Rattle.vpc_model.specs.Sound.{is_end, is_far}
use Rattle.vpc_model.specs.Terms.{IsAccepted}
use Rattle.vpc_model.specs.declared.places.End.TheVariants as ends
use Rattle.described_hosts.proofs.Sorting.{ascend}
use Rattle.described_hosts.specs.Outside.{far_id}
use Rattle.query_words.specs.Ends.{is_service}
use Rattle.listing_text.specs.Outside.{AreSourcesById, is_meant, is_same, is_source, numbered, sources_of}

-- ---- a network that its id names

same_number : (k : FarNo) (l : Option FarNo) → is_same k l ≡ true → l ≡ Some k
same_number k None is = absurd (false≢true is)
same_number k (Some l) is = ap (λ (n : ℕ). Some (numbered n)) (sym (eqb-true k.0 l.0 is))

-- what an id names is described
inside_by : (d : Description) (id : List ℕ) (k : FarNo) (n : Option ℕ) → position (λ f. bytes_eq f.id id) d.fars ≡ n → option_map numbered n ≡ Some k → is_far d k ≡ true
inside_by d id k None at is = absurd (none-some k is)
inside_by d id k (Some n) at is = subst (λ (l : FarNo). is_far d l ≡ true) (same_Some (numbered n) k is) (position-at (λ f. bytes_eq f.id id) d.fars n no_far at).0

end_by : (d : Description) (id : List ℕ) (k : FarNo) (m : Option FarNo) → far_of_id d id ≡ m → option_and_then (λ l. cond (is_far_end d (far_at d l)) (Some l) None) m ≡ Some k → is_end d (ends.Far k) ≡ true
end_by d id k None found is = absurd (none-some k is)
end_by d id k (Some m) found is =
    let inside = inside_by d id m (position (λ f. bytes_eq f.id id) d.fars) refl found in
    let p = cond_some (is_far_end d (far_at d m)) m k is in
    subst (λ (l : FarNo). is_end d (ends.Far l) ≡ true) p.1 (and_from (is_far d m) (is_far_end d (far_at d m)) inside p.0)

-- its id is its own
pub record HasOwnId (d : Description) (k : FarNo) : Type 0 where
  pub other : bytes_eq (far_id d k) (codes "internet") ≡ false
  pub free : has_interface d (far_id d k) ≡ false
  pub found : far_end_of_id d (far_id d k) ≡ Some k

pub own_id : (d : Description) (k : FarNo) → is_meant d k ≡ true → HasOwnId d k
own_id d k meant =
    let id = far_id d k in
    let first = and_parts (not (bytes_eq id (codes "internet"))) (not (has_interface d id) && is_same k (far_end_of_id d id)) meant in
    let rest = and_parts (not (has_interface d id)) (is_same k (far_end_of_id d id)) first.1 in
    record {
      other = not-true (bytes_eq id (codes "internet")) first.0;
      free = not-true (has_interface d id) rest.0;
      found = same_number k (far_end_of_id d id) rest.1;
    }

pub named : (d : Description) (k : FarNo) → is_meant d k ≡ true → far_end_of_id d (far_id d k) ≡ Some k
named d k meant = let own = own_id d k meant in own.found

pub meant_is_end : (d : Description) (k : FarNo) → is_meant d k ≡ true → is_end d (ends.Far k) ≡ true
meant_is_end d k meant = let id = far_id d k in end_by d id k (far_of_id d id) refl (named d k meant)

pub source_is_meant : (d : Description) (k : FarNo) → is_source d k ≡ true → is_meant d k ≡ true
source_is_meant d k source = (and_parts (is_meant d k) (not (is_service d (ends.Far k))) source).0

pub source_is_end : (d : Description) (k : FarNo) → is_source d k ≡ true → is_end d (ends.Far k) ≡ true
source_is_end d k source = meant_is_end d k (source_is_meant d k source)

-- ---- in the order of the description

-- those with numbers below k
abbrev pub sources_below : Description → ℕ → List FarNo
sources_below d k = filter (is_source d) (map numbered (range_with_len 0 k))

-- one of them, or none
abbrev pub source_or_none : Description → ℕ → List FarNo
source_or_none d k = cond (is_source d (numbered k)) (numbered k ∷ []) []

-- one more number
pub sources_more : (d : Description) (k : ℕ) → sources_below d k ++ source_or_none d k ≡ sources_below d (k + 1)
sources_more d k = sym (filter_of_map_range_with_len_more (is_source d) numbered 0 k k (omega arith))

pub few_networks : (d : Description) (k : ℕ) → IsAccepted d → k < length d.fars → k < 2 ^ 32
few_networks d k accepted within =
    let lists = accepted_has_short_lists d accepted in
    let short = lists.fars in
    omega arith

pub are_sources : (d : Description) → All (λ k. is_source d k ≡ true) (sources_of d)
are_sources d = filter_passes (is_source d) (map numbered (range_with_len 0 (length d.fars)))

pub in_order_are_ends : (d : Description) → All (λ k. is_end d (ends.Far k) ≡ true) (sources_of d)
in_order_are_ends d k x below = source_is_end d (get_or (sources_of d) k x) (are_sources d k x below)

-- ---- in the order of their ids

abbrev same_id : Description → FarNo → FarNo → Bool
same_id d k l = bytes_eq (far_id d k) (far_id d l)

-- networks that their ids name, of one id, are one
ids_name_one : (d : Description) (k l : FarNo) → is_meant d k ≡ true → is_meant d l ≡ true → same_id d k l ≡ true → k ≡ l
ids_name_one d k l one other same =
    same_Some k l (sym (named d k one) ∙ (ap (far_end_of_id d) (same_bytes (far_id d k) (far_id d l) same) ∙ named d l other))

-- of these numbers the first is the smaller
abbrev IsBefore : FarNo → FarNo → Type 0
IsBefore k l = k.0 < l.0

numbers_ascend : (n : ℕ) → AllPairs IsBefore (map numbered (range_with_len 0 n))
numbers_ascend n i j x less within =
    let long = length-map-range_with_len numbered 0 n in
    let below : j < n = omega (arith, long, within) in
    let first = get_or-map-range_with_len numbered 0 n i i x (omega arith) (omega arith) in
    let second = get_or-map-range_with_len numbered 0 n j j x below (omega arith) in
    let one = ap (λ (k : FarNo). k.0) first in
    let other = ap (λ (k : FarNo). k.0) second in
    omega (arith, one, other)

pub sources_differ : (d : Description) → AllPairs (λ k l. bytes_eq (far_id d k) (far_id d l) ≡ false) (sources_of d)
sources_differ d i j x less within =
    let first = get_or (sources_of d) i x in
    let second = get_or (sources_of d) j x in
    let before : first.0 < second.0 = AllPairs-filter IsBefore (is_source d) (map numbered (range_with_len 0 (length d.fars))) (numbers_ascend (length d.fars)) i j x less within in
    false_from_ne_true (same_id d first second) (λ same.
    let one = ap (λ (k : FarNo). k.0) (ids_name_one d first second (source_is_meant d first (are_sources d i x (omega arith))) (source_is_meant d second (are_sources d j x within)) same) in
    absurd (omega (arith, one, before)))

sources_apart : (d : Description) → IsDistinct (same_id d) (sources_of d)
sources_apart d = IsDistinct-from_apart (same_id d) (sources_of d) (sources_differ d)

pub sources_by_id : (d : Description) (sources sorted : List FarNo) → sources ≡ sources_of d → IsPermutation sources sorted → IsSortedByKey (far_id d) (slice_cmp nat_cmp) sorted
    → AreSourcesById d sorted
sources_by_id d sources sorted are moved up =
    let all = subst (λ (xs : List FarNo). IsPermutation xs sorted) are moved in
    record { all = all; ascending = ascend (far_id d) (sources_of d) sorted (sources_apart d) all up }

pub sources_are_ends : (d : Description) (sources : List FarNo) → AreSourcesById d sources → All (λ k. is_end d (ends.Far k) ≡ true) sources
sources_are_ends d sources by_id = All-permutation (λ k. is_end d (ends.Far k) ≡ true) (sources_of d) sources by_id.all (in_order_are_ends d)

-- The starts of a question are one list: those of either network have ids of their own.
use Rattle.std.proofs.Common.{All, AllPairs, Bool, IsPermutation, IsSortedByKey, List, None, Option, Some, ap, arith, bytes_eq, cond, false, filter, get_or, is_lt, is_some, length, map, nat_cmp, not, option_and_then, refl, subst, sym, true, ap₂, ℕ, ◌&&◌, ◌<◌, ◌∙◌, ◌≡◌}
use Rattle.std.specs.Cmp.Lexicographic.{slice_cmp}
use Rattle.std.specs.List.{range_with_len}
use Rattle.std.specs.Ordering.{ordering_reverse}
use Rattle.std.specs.declared.cmp.Ordering.TheVariants.{Greater, Less}
use Rattle.std.proofs.lemmas.Option.{cond_some}
use Rattle.vpc_base.proofs.Lemmas.{All-filter, All-map, AllPairs-filter, AllPairs-joined, AllPairs-map, Contains-permutation, IsDistinct-IsPermutation, IsDistinct-from_apart, IsPermutation-sym, and_parts, apart_from_distinct, bytes_self, comes-before, false_from_ne_true, filter_passes, get_or-map-range_with_len, length-map-range_with_len, member-list_any, nat_list_cmp_total, nat_list_eq_equiv, none-some, ranks_by, row-member, same_bytes, sorted_far}
use Rattle.changed_ends.proofs.StartLemmas.{hosts_are_described}
use Rattle.changed_ends.specs.Asked.{AreStarts, Comparison, StartAt, changed_id, far_from_after, far_from_before, from_after, from_before, host_with_id, hosts_of_either, is_free, is_host_at, is_new, is_new_source, source_with_id, sources_of_either, starts_among}
use Rattle.described_hosts.specs.Hosts.{hosts_of, id_of, is_host, numbered}
use Rattle.described_hosts.specs.Outside.{far_id}
use Rattle.query_words.specs.declared.changes.ChangedEnd.{ChangedEnd}
use Rattle.vpc_laws.proofs.Numbering.{accepted_numbers_are_own}
use Rattle.vpc_laws.specs.Types.{Description, EniNo, FarNo, Interface}
use Rattle.vpc_model.specs.Far.{far_of_id, is_far_end}
use Rattle.vpc_model.specs.Lookup.{far_at}
use Rattle.vpc_model.specs.Terms.{IsAccepted, eni_no, has_interface, interface_at, is_eni, no_interface}
use Rattle.vpc_model.specs.declared.places.End.TheVariants as ends
use Rattle.listing_text.proofs.OutsideLemmas.{are_sources, named, source_is_meant, sources_differ}
use Rattle.listing_text.proofs.Same.{same_in_order}
use Rattle.listing_text.specs.Outside.{is_source, sources_of}

-- ---- the hosts of one network

abbrev Rises : EniNo → EniNo → Type 0
Rises i j = i.0 < j.0

numbers_rise : (d : Description) → AllPairs Rises (map numbered (range_with_len 0 (length d.interfaces)))
numbers_rise d i j x less within =
    let n = length d.interfaces in
    let long = length-map-range_with_len numbered 0 n in
    let below : j < n = omega (arith, long, within) in
    let first = get_or-map-range_with_len numbered 0 n i i x (omega (arith, less, below)) (omega arith) in
    let second = get_or-map-range_with_len numbered 0 n j j x below (omega arith) in
    subst (λ (y : EniNo). Rises y (get_or (map numbered (range_with_len 0 n)) j x)) (sym first) (subst (λ (y : EniNo). Rises (numbered i) y) (sym second) less)

hosts_rise : (d : Description) → AllPairs Rises (hosts_of d)
hosts_rise d = AllPairs-filter Rises (λ (i : EniNo). is_host (interface_at d i)) (map numbered (range_with_len 0 (length d.interfaces))) (numbers_rise d)

ids_differ : (d : Description) (i j : EniNo) → IsAccepted d → is_eni d i ≡ true → is_eni d j ≡ true → Rises i j → bytes_eq (id_of d i) (id_of d j) ≡ false
ids_differ d i j accepted first second rises =
    let own = accepted_numbers_are_own d accepted in
    false_from_ne_true (bytes_eq (id_of d i) (id_of d j)) (λ same.
    let one : i ≡ j = sym (own.interface i first) ∙ (ap (eni_no d) (same_bytes (id_of d i) (id_of d j) same) ∙ own.interface j second) in
    let k : i.0 ≡ j.0 = ap (λ (x : EniNo). x.0) one in
    absurd (omega (arith, k, rises)))

hosts_differ : (d : Description) → IsAccepted d → AllPairs (λ i j. bytes_eq (id_of d i) (id_of d j) ≡ false) (hosts_of d)
hosts_differ d accepted i j x less within =
    ids_differ d (get_or (hosts_of d) i x) (get_or (hosts_of d) j x) accepted (hosts_are_described d i x (omega (arith, less, within))) (hosts_are_described d j x within) (hosts_rise d i j x less within)

-- ---- the hosts of either network

-- a host of the one is none that only the other has
found_if_host : (has host : Bool) (i : EniNo) → has ≡ true → host ≡ true → is_some (cond (has && host) (Some (ends.Interface i)) None) ≡ true
found_if_host true true i one other = refl
found_if_host true false i one other = absurd (cc)
found_if_host false host i one other = absurd (cc)

pub has_own : (d : Description) (i : EniNo) → is_eni d i ≡ true → has_interface d (id_of d i) ≡ true
has_own d i there =
    member-list_any (λ (e : Interface). bytes_eq e.id (id_of d i)) d.interfaces (interface_at d i) (row-member d.interfaces i.0 no_interface there) (bytes_self (id_of d i))

is_found : (d : Description) (i : EniNo) → IsAccepted d → is_eni d i ≡ true → is_host (interface_at d i) ≡ true → is_some (host_with_id d (id_of d i)) ≡ true
is_found d i accepted there host =
    let own = accepted_numbers_are_own d accepted in
    let at : is_host_at d (eni_no d (id_of d i)) ≡ true = ap (is_host_at d) (own.interface i there) ∙ host in
    found_if_host (has_interface d (id_of d i)) (is_host_at d (eni_no d (id_of d i))) (eni_no d (id_of d i)) (has_own d i there) at

is_no_other : (before after : Description) (i j : EniNo) → IsAccepted before → is_eni before i ≡ true → is_host (interface_at before i) ≡ true → is_new before after j ≡ true
    → bytes_eq (id_of before i) (id_of after j) ≡ false
is_no_other before after i j accepted there host new =
    false_from_ne_true (bytes_eq (id_of before i) (id_of after j)) (λ same.
    let id = same_bytes (id_of before i) (id_of after j) same in
    let found = subst (λ (l : List ℕ). is_some (host_with_id before l) ≡ true) id (is_found before i accepted there host) in
    let wrong : false ≡ true = sym (ap not found) ∙ new in
    absurd (cc))

-- two have other ids
abbrev pub AreApartIn : Description → Description → ChangedEnd → ChangedEnd → Type 0
AreApartIn before after a b = bytes_eq (changed_id before after a) (changed_id before after b) ≡ false

pub either_differ : (before after : Description) → IsAccepted before → IsAccepted after → AllPairs (AreApartIn before after) (hosts_of_either before after)
either_differ before after first second =
    let new = filter (is_new before after) (hosts_of after) in
    let are_new = filter_passes (is_new before after) (hosts_of after) in
    let are_hosts = filter_passes (λ (i : EniNo). is_host (interface_at before i)) (map numbered (range_with_len 0 (length before.interfaces))) in
    AllPairs-joined (AreApartIn before after) (map (from_before before after) (hosts_of before)) (map from_after new)
    (AllPairs-map (AreApartIn before after) (from_before before after) (hosts_of before) (hosts_differ before first))
    (AllPairs-map (AreApartIn before after) from_after new
    (AllPairs-filter (λ i j. bytes_eq (id_of after i) (id_of after j) ≡ false) (is_new before after) (hosts_of after) (hosts_differ after second)))
    (All-map (λ a. All (AreApartIn before after a) (map from_after new)) (from_before before after) (hosts_of before)
    (λ k x below.
    All-map (AreApartIn before after (from_before before after (get_or (hosts_of before) k x))) from_after new
    (λ m y under.
    is_no_other before after (get_or (hosts_of before) k x) (get_or new m y) first (hosts_are_described before k x below) (are_hosts k x below) (are_new m y under))))

-- ---- the networks of either description

-- an id that names a network as an end is that network's
of_end : (d : Description) (m : Option FarNo) (k : FarNo) → option_and_then (λ l. cond (is_far_end d (far_at d l)) (Some l) None) m ≡ Some k → m ≡ Some k
of_end d None k is = absurd (none-some k is)
of_end d (Some m) k is = let p = cond_some (is_far_end d (far_at d m)) m k is in ap Some p.1

is_found_source : (d : Description) (k : FarNo) → is_source d k ≡ true → is_some (source_with_id d (far_id d k)) ≡ true
is_found_source d k source =
    let found = of_end d (far_of_id d (far_id d k)) k (named d k (source_is_meant d k source)) in
    subst (λ (o : Option FarNo). is_some (option_and_then (λ (l : FarNo). cond (is_source d l) (Some (ends.Far l)) None) o) ≡ true) (sym found)
    (ap (λ (b : Bool). is_some (cond b (Some (ends.Far k)) None)) source)

is_no_other_source : (before after : Description) (k l : FarNo) → is_source before k ≡ true → is_new_source before after l ≡ true → bytes_eq (far_id before k) (far_id after l) ≡ false
is_no_other_source before after k l source new =
    false_from_ne_true (bytes_eq (far_id before k) (far_id after l)) (λ same.
    let id = same_bytes (far_id before k) (far_id after l) same in
    let found = subst (λ (x : List ℕ). is_some (source_with_id before x) ≡ true) id (is_found_source before k source) in
    let other = (and_parts (is_free after before l) (not (is_some (source_with_id before (far_id after l)))) new).1 in
    let wrong : false ≡ true = sym (ap not found) ∙ other in
    absurd (cc))

pub outside_differ : (before after : Description) → AllPairs (AreApartIn before after) (sources_of_either before after)
outside_differ before after =
    let free = filter (is_free before after) (sources_of before) in
    let new = filter (is_new_source before after) (sources_of after) in
    let are_free = All-filter (is_free before after) (λ k. is_source before k ≡ true) (sources_of before) (are_sources before) in
    let are_new = filter_passes (is_new_source before after) (sources_of after) in
    AllPairs-joined (AreApartIn before after) (map (far_from_before before after) free) (map far_from_after new)
    (AllPairs-map (AreApartIn before after) (far_from_before before after) free
    (AllPairs-filter (λ k l. bytes_eq (far_id before k) (far_id before l) ≡ false) (is_free before after) (sources_of before) (sources_differ before)))
    (AllPairs-map (AreApartIn before after) far_from_after new
    (AllPairs-filter (λ k l. bytes_eq (far_id after k) (far_id after l) ≡ false) (is_new_source before after) (sources_of after) (sources_differ after)))
    (All-map (λ a. All (AreApartIn before after a) (map far_from_after new)) (far_from_before before after) free
    (λ k x below.
    All-map (AreApartIn before after (far_from_before before after (get_or free k x))) far_from_after new
    (λ m y under. is_no_other_source before after (get_or free k x) (get_or new m y) (are_free k x below) (are_new m y under))))

-- ---- in the order of their ids

module _ (key : ChangedEnd → List ℕ) where
  abbrev ComesBefore : ChangedEnd → ChangedEnd → Type 0
  ComesBefore a b = slice_cmp nat_cmp (key a) (key b) ≡ Less

  abbrev same_key : ChangedEnd → ChangedEnd → Bool
  same_key a b = bytes_eq (key a) (key b)

  one_way : (a b : ChangedEnd) → ComesBefore a b → ComesBefore b a → ⊥
  one_way a b first second =
      let turned : slice_cmp nat_cmp (key b) (key a) ≡ ordering_reverse (slice_cmp nat_cmp (key a) (key b)) = nat_list_cmp_total.antisymm (key b) (key a) in
      let wrong : Less ≡ Greater = sym second ∙ (turned ∙ ap ordering_reverse first) in
      absurd (cc)

  ascend : (all sorted : List ChangedEnd) → AllPairs (λ a b. same_key a b ≡ false) all → IsPermutation all sorted → IsSortedByKey key (slice_cmp nat_cmp) sorted → AllPairs ComesBefore sorted
  ascend all sorted apart moved up i j x less within =
      let still = IsDistinct-IsPermutation same_key (λ a b. nat_list_eq_equiv.symm (key a) (key b)) all sorted moved (IsDistinct-from_apart same_key all apart) in
      comes-before (key (get_or sorted i x)) (key (get_or sorted j x)) (apart_from_distinct same_key sorted i j x still less within)
      (sorted_far (λ (a b : ChangedEnd). is_lt (slice_cmp nat_cmp (key a) (key b))) (ranks_by nat_list_cmp_total key) sorted up i j x (omega (arith, less)) within)

  one_order : (all xs ys : List ChangedEnd) → AllPairs (λ a b. same_key a b ≡ false) all → IsPermutation all xs → IsSortedByKey key (slice_cmp nat_cmp) xs
      → IsPermutation all ys → IsSortedByKey key (slice_cmp nat_cmp) ys → xs ≡ ys
  one_order all xs ys apart moved up also rising =
      same_in_order ComesBefore one_way xs ys (ascend all xs apart moved up) (ascend all ys apart also rising)
      (λ z h. Contains-permutation all ys z also (Contains-permutation xs all z (IsPermutation-sym all xs moved) h))
      (λ z h. Contains-permutation all xs z moved (Contains-permutation ys all z (IsPermutation-sym all ys also) h))

-- ---- starts

starts_at : (before after : Description) (src : Option (ℕ × ℕ)) (start goal : Option ChangedEnd) (xs ys : List ChangedEnd) → IsAccepted before → IsAccepted after → StartAt before after src start goal xs
    → StartAt before after src start goal ys → xs ≡ ys
starts_at before after src (Some start) goal xs ys first second a b = a ∙ sym b
starts_at before after src None goal xs ys first second a b =
    a.are
    ∙ (ap₂ (starts_among before after src goal)
    (one_order (changed_id before after) (hosts_of_either before after) a.hosts b.hosts (either_differ before after first second) a.hosts_are.all a.hosts_are.by_id b.hosts_are.all b.hosts_are.by_id)
    (one_order (changed_id before after) (sources_of_either before after) a.outside b.outside (outside_differ before after) a.outside_are.all a.outside_are.by_id b.outside_are.all b.outside_are.by_id)
    ∙ sym b.are)

pub one_list_of_starts : (c : Comparison) (xs ys : List ChangedEnd) → IsAccepted c.before → IsAccepted c.after → AreStarts c xs → AreStarts c ys → xs ≡ ys
one_list_of_starts c xs ys first second a b = starts_at c.before c.after c.query.pairs.src c.query.start c.query.goal xs ys first second a b

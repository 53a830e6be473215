-- The starts of a question about two networks have ids of their own.
use Rattle.std.proofs.Common.{◌≡◌, ◌≢◌, ◌∙◌, ◌⊎◌, ◌++◌, ◌∷◌, [], All, Bool, List, None, Option, Some, codes, false, filter, get_or, if◌then◌else◌, inl, inr, is_some, map, not, subst, sym, true, ℕ}
use Rattle.std.specs.List.{AllPairs}
use Rattle.std.specs.Str.{bytes_eq}
use Rattle.std.proofs.lemmas.Bool.{and_parts, both_ways, not-true}
use Rattle.std.proofs.lemmas.List.Elements.{All-append, All-cons, All-filter, All-map, All-nil, filter_passes}
use Rattle.std.proofs.lemmas.List.Kept.{AllPairs-cons, AllPairs-filter}
use Rattle.std.proofs.lemmas.List.Sorted.{All-permutation}
use Rattle.vpc_base.proofs.Bytes.{bytes_self}
use Rattle.vpc_base.proofs.Pairs.{AllPairs-joined}
use Rattle.diff_check.proofs.Order.{either_differ, has_own, outside_differ}
use Rattle.changed_ends.proofs.StartLemmas.{hosts_are_described}
use Rattle.described_hosts.specs.Outside.{far_id}
use Rattle.listing_text.proofs.OutsideLemmas.{are_sources, own_id, source_is_meant}
use Rattle.listing_text.specs.Outside.{is_source, sources_of}
use Rattle.changed_ends.specs.Asked.{StartAt, changed_id, far_from_after, far_from_before, from_after, from_before, hosts_of_either, is_free, is_goal, is_new, is_new_source, is_start, source_with_id, sources_of_either}
use Rattle.described_hosts.specs.Hosts.{hosts_of}
use Rattle.query_words.specs.ChangeQuery.{internet_in_both}
use Rattle.query_words.specs.declared.changes.ChangedEnd.{ChangedEnd}
use Rattle.vpc_laws.specs.Types.{Description, FarNo}
use Rattle.vpc_model.specs.Sound.{is_eni}
use Rattle.vpc_model.specs.Accepted.{IsAccepted}
use Rattle.vpc_model.specs.Lookup.{has_interface}
use Rattle.listing_laws.proofs.Pairwise.{apart_in_any_order, one_pairs}
use Rattle.listing_laws.proofs.ReachStarts.{internet_apart, no_interface_of, no_internet}

-- ---- the hosts of either network

abbrev pub HaveOwnIn : Description → Description → ChangedEnd → ChangedEnd → Type 0
HaveOwnIn before after a b = changed_id before after a ≢ changed_id before after b

either_apart : (before after : Description) → IsAccepted before → IsAccepted after
    → AllPairs (HaveOwnIn before after) (hosts_of_either before after)
either_apart before after first second i j x less within same =
    let one = changed_id before after (get_or (hosts_of_either before after) i x) in
    let differ = either_differ before after first second i j x less within in
    let equal = subst (λ (id : List ℕ). bytes_eq one id ≡ true) same (bytes_self one) in
    let wrong : false ≡ true = sym differ ∙ equal in
    absurd (cc)

-- ---- starts

-- neither network has an interface that is called `internet`
either_named : (before after : Description) → has_interface before (codes "internet") ≡ false
    → has_interface after (codes "internet") ≡ false
    → All (HaveOwnIn before after internet_in_both) (hosts_of_either before after)
either_named before after first second =
    let new = filter (is_new before after) (hosts_of after) in
    All-append (HaveOwnIn before after internet_in_both) (map (from_before before after) (hosts_of before)) (map from_after new)
    (All-map (HaveOwnIn before after internet_in_both) (from_before before after) (hosts_of before)
    (λ k x below. internet_apart before _ first))
    (All-map (HaveOwnIn before after internet_in_both) from_after new (λ k x below. internet_apart after _ second))

among_apart : (before after : Description) (b : Bool) (hosts : List ChangedEnd) → All (HaveOwnIn before after internet_in_both) hosts
    → AllPairs (HaveOwnIn before after) hosts
    → AllPairs (HaveOwnIn before after) ((if b then [] else internet_in_both ∷ []) ++ hosts)
among_apart before after true hosts first pairs = pairs
among_apart before after false hosts first pairs = AllPairs-cons (HaveOwnIn before after) internet_in_both hosts first pairs

-- ---- the networks of either description

outside_apart : (before after : Description) → AllPairs (HaveOwnIn before after) (sources_of_either before after)
outside_apart before after i j x less within same =
    let one = changed_id before after (get_or (sources_of_either before after) i x) in
    both_ways (bytes_eq one (changed_id before after (get_or (sources_of_either before after) j x))) (outside_differ before after i j x less within)
    (subst (λ (id : List ℕ). bytes_eq one id ≡ true) same (bytes_self one))

-- an id that neither means the internet nor is that of an interface
record IsFreeId (before after : Description) (id : List ℕ) : Type 0 where
  other : bytes_eq id (codes "internet") ≡ false
  before_free : has_interface before id ≡ false
  after_free : has_interface after id ≡ false

abbrev HasFreeId : Description → Description → ChangedEnd → Type 0
HasFreeId before after e = IsFreeId before after (changed_id before after e)

free_before : (before after : Description) (k : FarNo) → is_source before k ≡ true → is_free before after k ≡ true → HasFreeId before after (far_from_before before after k)
free_before before after k source free =
    let own = own_id before k (source_is_meant before k source) in
    record { other = own.other; before_free = own.free; after_free = not-true (has_interface after (far_id before k)) free }

free_after : (before after : Description) (l : FarNo) → is_source after l ≡ true → is_new_source before after l ≡ true → HasFreeId before after (far_from_after l)
free_after before after l source new =
    let own = own_id after l (source_is_meant after l source) in
    let parts = and_parts (is_free after before l) (not (is_some (source_with_id before (far_id after l)))) new in
    record { other = own.other; before_free = not-true (has_interface before (far_id after l)) parts.0; after_free = own.free }

outside_are_free : (before after : Description) → All (HasFreeId before after) (sources_of_either before after)
outside_are_free before after =
    let free = filter (is_free before after) (sources_of before) in
    let new = filter (is_new_source before after) (sources_of after) in
    All-append (HasFreeId before after) (map (far_from_before before after) free) (map far_from_after new)
    (All-map (HasFreeId before after) (far_from_before before after) free (λ i x below.
    free_before before after (get_or free i x)
    (All-filter (is_free before after) (λ k. is_source before k ≡ true) (sources_of before) (are_sources before) i x below)
    (filter_passes (is_free before after) (sources_of before) i x below)))
    (All-map (HasFreeId before after) far_from_after new (λ i x below.
    free_after before after (get_or new i x)
    (All-filter (is_new_source before after) (λ l. is_source after l ≡ true) (sources_of after) (are_sources after) i x below)
    (filter_passes (is_new_source before after) (sources_of after) i x below)))

-- an id of an interface
abbrev HasHostId : Description → Description → ChangedEnd → Type 0
HasHostId before after e = let id = changed_id before after e in (has_interface before id ≡ true) ⊎ (has_interface after id ≡ true)

hosts_have_ids : (before after : Description) → All (HasHostId before after) (hosts_of_either before after)
hosts_have_ids before after =
    let new = filter (is_new before after) (hosts_of after) in
    All-append (HasHostId before after) (map (from_before before after) (hosts_of before)) (map from_after new)
    (All-map (HasHostId before after) (from_before before after) (hosts_of before)
    (λ k x below. inl (has_own before (get_or (hosts_of before) k x) (hosts_are_described before k x below))))
    (All-map (HasHostId before after) from_after new
    (λ k x below. inr (has_own after (get_or new k x)
    (All-filter (is_new before after) (λ j. is_eni after j ≡ true) (hosts_of after) (hosts_are_described after) k x below))))

host_is_none : (before after : Description) (e f : ChangedEnd) → HasHostId before after e → HasFreeId before after f → HaveOwnIn before after e f
host_is_none before after e f (inl there) free = no_interface_of before (changed_id before after e) (changed_id before after f) there free.before_free
host_is_none before after e f (inr there) free = no_interface_of after (changed_id before after e) (changed_id before after f) there free.after_free

-- each start before the networks has another id than each of them
abbrev IsNoneOf : Description → Description → List ChangedEnd → ChangedEnd → Type 0
IsNoneOf before after outside e = All (HaveOwnIn before after e) outside

internet_is_none : (before after : Description) (b : Bool) (outside : List ChangedEnd) → All (HasFreeId before after) outside
    → All (IsNoneOf before after outside) (if b then [] else internet_in_both ∷ [])
internet_is_none before after true outside free = All-nil (IsNoneOf before after outside)
internet_is_none before after false outside free =
    All-cons (IsNoneOf before after outside) internet_in_both []
    (λ k x below. let mine = free k x below in no_internet (changed_id before after (get_or outside k x)) mine.other)
    (All-nil (IsNoneOf before after outside))

-- ---- all starts

pub starts_apart : (before after : Description) (src : Option (ℕ × ℕ)) (start goal : Option ChangedEnd) (starts : List ChangedEnd) → IsAccepted before
    → IsAccepted after
    → has_interface before (codes "internet") ≡ false → has_interface after (codes "internet") ≡ false
    → StartAt before after src start goal starts → AllPairs (HaveOwnIn before after) starts
starts_apart before after src (Some start) goal starts first second none none_after are = one_pairs (HaveOwnIn before after) start starts are
starts_apart before after src None goal starts first second none none_after are =
    let own : ChangedEnd → ChangedEnd → Type 0 = HaveOwnIn before after in
    let sends : ChangedEnd → Bool = is_start before after src goal in
    let others : ChangedEnd → Bool = λ e. not (is_goal goal e) in
    let hosts = filter sends are.hosts in
    let outside = filter others are.outside in
    let b = is_goal goal internet_in_both in
    let moved = are.hosts_are.all in
    let moved_outside = are.outside_are.all in
    let apart = apart_in_any_order (changed_id before after) (hosts_of_either before after) are.hosts moved
    (either_apart before after first second) in
    let apart_outside = apart_in_any_order (changed_id before after) (sources_of_either before after) are.outside moved_outside
    (outside_apart before after) in
    let named = All-permutation (own internet_in_both) (hosts_of_either before after) are.hosts moved
    (either_named before after none none_after) in
    let known = All-filter sends (HasHostId before after) are.hosts
    (All-permutation (HasHostId before after) (hosts_of_either before after) are.hosts moved (hosts_have_ids before after)) in
    let free = All-filter others (HasFreeId before after) are.outside
    (All-permutation (HasFreeId before after) (sources_of_either before after) are.outside moved_outside (outside_are_free before after)) in
    subst (AllPairs own) (sym are.are)
    (AllPairs-joined own ((if b then [] else internet_in_both ∷ []) ++ hosts) outside
    (among_apart before after b hosts (All-filter sends (own internet_in_both) are.hosts named) (AllPairs-filter own sends are.hosts apart))
    (AllPairs-filter own others are.outside apart_outside)
    (All-append (IsNoneOf before after outside) (if b then [] else internet_in_both ∷ []) hosts
    (internet_is_none before after b outside free)
    (λ i x inside k y below. host_is_none before after (get_or hosts i x) (get_or outside k y) (known i x inside) (free k y below))))

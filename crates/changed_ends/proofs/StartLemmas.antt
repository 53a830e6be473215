-- Where requests start: ends of either network.
use Rattle.std.proofs.Common.{◌≡◌, ◌∷◌, ◌&&◌, ◌++◌, [], All, Bool, IfSome, List, None, Option, Some, cond, false, filter, get_or, length, map, not, option_and_then, refl, subst, sym, true, ℕ}
use Rattle.std.proofs.lemmas.List.Elements.{All-append, All-cons, All-filter, All-map, All-nil}
use Rattle.std.proofs.lemmas.List.Sorted.{All-permutation}
use Rattle.std.proofs.lemmas.Bool.{cond_both}
use Rattle.std.specs.List.{range_with_len}
use Rattle.described_hosts.specs.Hosts.{hosts_of, id_of, is_host, numbered}
use Rattle.described_hosts.proofs.HostLemmas.{numbers_are_described}
use Rattle.described_hosts.specs.Outside.{far_id}
use Rattle.listing_text.proofs.OutsideLemmas.{in_order_are_ends, source_is_end}
use Rattle.listing_text.specs.Outside.{is_source, sources_of}
use Rattle.query_words.specs.ChangeQuery.{IsChangedEnd, internet_in_both}
use Rattle.query_words.specs.declared.changes.ChangedEnd.{ChangedEnd}
use Rattle.vpc_laws.proofs.Numbering.{ids_are_found}
use Rattle.vpc_laws.specs.Types.{Description, End, EniNo, FarNo}
use Rattle.vpc_model.specs.Far.{far_of_id}
use Rattle.vpc_model.specs.Lookup.{eni_no, has_interface, interface_at}
use Rattle.vpc_model.specs.Sound.{is_end, is_eni}
use Rattle.vpc_model.specs.declared.places.End.TheVariants as ends
use Rattle.changed_ends.specs.Asked.{AreAllStarts, AreHostsOfEither, AreSourcesOfEither, far_from_after, far_from_before, from_after, from_before, host_with_id, hosts_of_either, is_free, is_goal, is_host_at, is_new, is_new_source, is_start, source_with_id, sources_of_either, starts_among}

pub hosts_are_described : (d : Description) → All (λ i. is_eni d i ≡ true) (hosts_of d)
hosts_are_described d = All-filter (λ (i : EniNo). is_host (interface_at d i)) (λ i. is_eni d i ≡ true) (map numbered (range_with_len 0 (length d.interfaces))) (numbers_are_described d)

found_by : (d : Description) (id : List ℕ) (has host : Bool) → (has ≡ true → is_eni d (eni_no d id) ≡ true)
    → IfSome (cond (has && host) (Some (ends.Interface (eni_no d id))) None) (λ e. is_end d e ≡ true)
found_by d id false host there = tt
found_by d id true false there = tt
found_by d id true true there = there refl

host_is_described : (d : Description) (id : List ℕ) → IfSome (host_with_id d id) (λ e. is_end d e ≡ true)
host_is_described d id = found_by d id (has_interface d id) (is_host_at d (eni_no d id)) (λ has. ((ids_are_found d).interface id has).0)

before_is_end : (before after : Description) (i : EniNo) → is_eni before i ≡ true → IsChangedEnd before after (from_before before after i)
before_is_end before after i there = record { before_is = there; after_is = host_is_described after (id_of before i); some = refl }

after_is_end : (before after : Description) (j : EniNo) → is_eni after j ≡ true → IsChangedEnd before after (from_after j)
after_is_end before after j there = record { before_is = tt; after_is = there; some = refl }

-- what holds of all holds of what they give
All-map-through : {X Y : Type 0} (P : X → Type 0) (Q : Y → Type 0) (f : X → Y) (xs : List X) → ((x : X) → P x → Q (f x)) → All P xs → All Q (map f xs)
All-map-through P Q f xs leads all = All-map Q f xs (λ k x below. leads (get_or xs k x) (all k x below))

either_are_ends : (before after : Description) → All (IsChangedEnd before after) (hosts_of_either before after)
either_are_ends before after =
    All-append (IsChangedEnd before after) (map (from_before before after) (hosts_of before)) (map from_after (filter (is_new before after) (hosts_of after)))
    (All-map-through (λ i. is_eni before i ≡ true) (IsChangedEnd before after) (from_before before after) (hosts_of before) (before_is_end before after) (hosts_are_described before))
    (All-map-through (λ j. is_eni after j ≡ true) (IsChangedEnd before after) from_after (filter (is_new before after) (hosts_of after)) (after_is_end before after)
    (All-filter (is_new before after) (λ j. is_eni after j ≡ true) (hosts_of after) (hosts_are_described after)))

-- ---- networks

far_by : (d : Description) (k : Option FarNo) → IfSome (option_and_then (λ l. cond (is_source d l) (Some (ends.Far l)) None) k) (λ e. is_end d e ≡ true)
far_by d None = tt
far_by d (Some l) = cond_both (is_source d l) (Some (ends.Far l)) None (λ (o : Option End). IfSome o (λ e. is_end d e ≡ true)) (λ source. source_is_end d l source) (λ _. tt)

source_is_described : (d : Description) (id : List ℕ) → IfSome (source_with_id d id) (λ e. is_end d e ≡ true)
source_is_described d id = far_by d (far_of_id d id)

far_before_is_end : (before after : Description) (k : FarNo) → is_end before (ends.Far k) ≡ true → IsChangedEnd before after (far_from_before before after k)
far_before_is_end before after k there = record { before_is = there; after_is = source_is_described after (far_id before k); some = refl }

far_after_is_end : (before after : Description) (l : FarNo) → is_end after (ends.Far l) ≡ true → IsChangedEnd before after (far_from_after l)
far_after_is_end before after l there = record { before_is = tt; after_is = there; some = refl }

outside_are_ends : (before after : Description) → All (IsChangedEnd before after) (sources_of_either before after)
outside_are_ends before after =
    All-append (IsChangedEnd before after) (map (far_from_before before after) (filter (is_free before after) (sources_of before))) (map far_from_after (filter (is_new_source before after) (sources_of after)))
    (All-map-through (λ k. is_end before (ends.Far k) ≡ true) (IsChangedEnd before after) (far_from_before before after) (filter (is_free before after) (sources_of before)) (far_before_is_end before after)
    (All-filter (is_free before after) (λ k. is_end before (ends.Far k) ≡ true) (sources_of before) (in_order_are_ends before)))
    (All-map-through (λ l. is_end after (ends.Far l) ≡ true) (IsChangedEnd before after) far_from_after (filter (is_new_source before after) (sources_of after)) (far_after_is_end before after)
    (All-filter (is_new_source before after) (λ l. is_end after (ends.Far l) ≡ true) (sources_of after) (in_order_are_ends after)))

-- ---- starts

internet_is_end : (before after : Description) → IsChangedEnd before after internet_in_both
internet_is_end before after = record { before_is = refl; after_is = refl; some = refl }

first_start : (before after : Description) (b : Bool) → All (IsChangedEnd before after) (cond b [] (internet_in_both ∷ []))
first_start before after true = All-nil (IsChangedEnd before after)
first_start before after false = All-cons (IsChangedEnd before after) internet_in_both [] (internet_is_end before after) (All-nil (IsChangedEnd before after))

among_are_ends : (before after : Description) (src : Option (ℕ × ℕ)) (goal : Option ChangedEnd) (hosts outside : List ChangedEnd) → AreHostsOfEither before after hosts → AreSourcesOfEither before after outside
    → All (IsChangedEnd before after) (starts_among before after src goal hosts outside)
among_are_ends before after src goal hosts outside h o =
    let first = cond (is_goal goal internet_in_both) [] (internet_in_both ∷ []) in
    All-append (IsChangedEnd before after) (first ++ filter (is_start before after src goal) hosts) (filter (λ e. not (is_goal goal e)) outside)
    (All-append (IsChangedEnd before after) first (filter (is_start before after src goal) hosts) (first_start before after (is_goal goal internet_in_both))
    (All-filter (is_start before after src goal) (IsChangedEnd before after) hosts (All-permutation (IsChangedEnd before after) (hosts_of_either before after) hosts h.all (either_are_ends before after))))
    (All-filter (λ e. not (is_goal goal e)) (IsChangedEnd before after) outside (All-permutation (IsChangedEnd before after) (sources_of_either before after) outside o.all (outside_are_ends before after)))

pub starts_are_ends : (before after : Description) (src : Option (ℕ × ℕ)) (goal : Option ChangedEnd) (starts : List ChangedEnd) → AreAllStarts before after src goal starts → All (IsChangedEnd before after) starts
starts_are_ends before after src goal starts k =
    subst (λ (l : List ChangedEnd). All (IsChangedEnd before after) l) (sym k.are) (among_are_ends before after src goal k.hosts k.outside k.hosts_are k.outside_are)

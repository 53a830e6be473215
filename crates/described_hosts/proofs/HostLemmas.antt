-- The interfaces that belong to no gateway, and their order.
use Rattle.std.proofs.Common.{All, AllPairs, Bool, IsPermutation, IsSortedByKey, List, [], ap, arith, bytes_eq, cond, false, filter, get_or, length, map, nat_cmp, subst, sym, true, ℕ, ◌++◌, ◌+◌, ◌<◌, ◌^◌, ◌∙◌, ◌∷◌, ◌≡◌}
use Rattle.std.specs.Cmp.Lexicographic.{slice_cmp}
use Rattle.std.specs.List.{IsDistinct, range_with_len}
use Rattle.vpc_base.proofs.Lemmas.{All-filter, All-permutation, AllPairs-filter, IsDistinct-from_apart, false_from_ne_true, filter_of_map_range_with_len_more, get_or-map-range_with_len, get_or_default, length-map-range_with_len, lt-ltb, same_bytes}
use Rattle.vpc_laws.proofs.Lemmas.{accepted_has_short_lists, accepted_numbers_are_own}
use Rattle.vpc_laws.specs.Types.{Description, EniNo, Interface}
use Rattle.vpc_model.specs.Terms.{IsAccepted, eni_no, interface_at, is_eni, no_interface}
use Rattle.described_hosts.proofs.Sorting.{ascend}
use Rattle.described_hosts.specs.Hosts.{AreHostsById, hosts_of, id_of, is_host, numbered}

-- ---- in the order of the description

-- those with numbers below k
abbrev pub hosts_below : Description → ℕ → List EniNo
hosts_below d k = filter (λ i. is_host (interface_at d i)) (map numbered (range_with_len 0 k))

-- one of them, or none
abbrev pub host_or_none : Interface → ℕ → List EniNo
host_or_none e k = cond (is_host e) (numbered k ∷ []) []

-- one more number
pub hosts_more : (d : Description) (k : ℕ) (e : Interface) → k < length d.interfaces → e ≡ get_or d.interfaces k e → hosts_below d k ++ host_or_none e k ≡ hosts_below d (k + 1)
hosts_more d k e within at =
    let row : e ≡ interface_at d (numbered k) = at ∙ get_or_default d.interfaces k e no_interface within in
    ap (λ (x : Interface). hosts_below d k ++ host_or_none x k) row
    ∙ sym (filter_of_map_range_with_len_more (λ (i : EniNo). is_host (interface_at d i)) numbered 0 k k (omega arith))

pub few_interfaces : (d : Description) (k : ℕ) → IsAccepted d → k < length d.interfaces → k < 2 ^ 32
few_interfaces d k accepted within =
    let lists = accepted_has_short_lists d accepted in
    let short = lists.interfaces in
    omega arith

pub numbers_are_described : (d : Description) → All (λ i. is_eni d i ≡ true) (map numbered (range_with_len 0 (length d.interfaces)))
numbers_are_described d k x below =
    let n = length d.interfaces in
    let long = length-map-range_with_len numbered 0 n in
    let within : k < n = omega (arith, long, below) in
    subst (λ (i : EniNo). is_eni d i ≡ true) (sym (get_or-map-range_with_len numbered 0 n k k x within (omega arith))) (lt-ltb k n within)

-- ---- in the order of their ids

abbrev same_id : Description → EniNo → EniNo → Bool
same_id d i j = bytes_eq (id_of d i) (id_of d j)

numbers_differ : (d : Description) (i j : ℕ) → IsAccepted d → i < j → j < length d.interfaces → same_id d (numbered i) (numbered j) ≡ false
numbers_differ d i j accepted less within =
    let own = accepted_numbers_are_own d accepted in
    let n = length d.interfaces in
    false_from_ne_true (same_id d (numbered i) (numbered j)) (λ same.
    let first = own.interface (numbered i) (lt-ltb i n (omega arith)) in
    let second = own.interface (numbered j) (lt-ltb j n within) in
    let one = sym first ∙ (ap (eni_no d) (same_bytes (id_of d (numbered i)) (id_of d (numbered j)) same) ∙ second) in
    let k : i ≡ j = ap (λ (x : EniNo). x.0) one in
    absurd (omega arith))

rows_apart : (d : Description) → IsAccepted d → AllPairs (λ i j. same_id d i j ≡ false) (map numbered (range_with_len 0 (length d.interfaces)))
rows_apart d accepted i j x less within =
    let n = length d.interfaces in
    let long = length-map-range_with_len numbered 0 n in
    let below : j < n = omega arith in
    let first = get_or-map-range_with_len numbered 0 n i i x (omega arith) (omega arith) in
    let second = get_or-map-range_with_len numbered 0 n j j x below (omega arith) in
    subst (λ (y : EniNo). same_id d y (get_or (map numbered (range_with_len 0 n)) j x) ≡ false) (sym first)
    (subst (λ (y : EniNo). same_id d (numbered i) y ≡ false) (sym second) (numbers_differ d i j accepted less below))

hosts_apart : (d : Description) → IsAccepted d → IsDistinct (same_id d) (hosts_of d)
hosts_apart d accepted =
    IsDistinct-from_apart (same_id d) (hosts_of d)
    (AllPairs-filter (λ i j. same_id d i j ≡ false) (λ (i : EniNo). is_host (interface_at d i)) (map numbered (range_with_len 0 (length d.interfaces))) (rows_apart d accepted))

pub hosts_by_id : (d : Description) (hosts sorted : List EniNo) → IsAccepted d → hosts ≡ hosts_of d → IsPermutation hosts sorted → IsSortedByKey (id_of d) (slice_cmp nat_cmp) sorted
    → AreHostsById d sorted
hosts_by_id d hosts sorted accepted are moved up =
    let all = subst (λ (xs : List EniNo). IsPermutation xs sorted) are moved in
    record { all = all; ascending = ascend (id_of d) (hosts_of d) sorted (hosts_apart d accepted) all up }

pub hosts_are_described : (d : Description) (hosts : List EniNo) → AreHostsById d hosts → All (λ i. is_eni d i ≡ true) hosts
hosts_are_described d hosts by_id =
    All-permutation (λ i. is_eni d i ≡ true) (hosts_of d) hosts by_id.all
    (All-filter (λ (i : EniNo). is_host (interface_at d i)) (λ i. is_eni d i ≡ true) (map numbered (range_with_len 0 (length d.interfaces))) (numbers_are_described d))

-- How many starts there are.
use Rattle.std.proofs.Common.{Bool, List, None, Option, Some, [], ap, arith, cond, false, filter, length, map, true, ℕ, ◌++◌, ◌+◌, ◌<◌, ◌^◌, ◌∷◌, ◌≤◌}
use Rattle.std.specs.List.{range_with_len}
use Rattle.vpc_base.proofs.Lemmas.{count_by-le-length, length-append, length-filter, length-map, length-map-range_with_len, length_permutation}
use Rattle.described_hosts.specs.Hosts.{hosts_of, is_host, numbered}
use Rattle.listing_text.specs.Outside as listed
use Rattle.end_reach.specs.Asked.{AreAllStarts, AreStarts, is_far_start, is_goal, is_start, starts_among}
use Rattle.vpc_laws.proofs.Lengths.{accepted_has_short_lists}
use Rattle.vpc_laws.specs.Types.{Description, End, EniNo, FarNo}
use Rattle.vpc_model.specs.Terms.{IsAccepted, interface_at}
use Rattle.vpc_model.specs.declared.places.End.TheVariants as ends

few_first : (b : Bool) → length (cond b [] (ends.Internet ∷ [])) ≤ 1
few_first true = omega arith
few_first false = omega arith

-- those of some numbers that a test keeps
few_kept : {X : Type 0} (make : ℕ → X) (p : X → Bool) (n : ℕ) → length (filter p (map make (range_with_len 0 n))) ≤ n
few_kept make p n =
    let all = map make (range_with_len 0 n) in
    let kept = length-filter p all in
    let some = count_by-le-length p all in
    let long = length-map-range_with_len make 0 n in
    omega (arith, kept, some, long)

pub few_hosts : (d : Description) → IsAccepted d → length (hosts_of d) ≤ 100000
few_hosts d accepted =
    let short = (accepted_has_short_lists d accepted).interfaces in
    let kept = few_kept numbered (λ (i : EniNo). is_host (interface_at d i)) (length d.interfaces) in
    omega (arith, short, kept)

pub few_sources : (d : Description) → IsAccepted d → length (listed.sources_of d) ≤ 100000
few_sources d accepted =
    let short = (accepted_has_short_lists d accepted).fars in
    let kept = few_kept listed.numbered (listed.is_source d) (length d.fars) in
    omega (arith, short, kept)

few_made : {X Y : Type 0} (make : X → Y) (p : X → Bool) (xs : List X) → length (map make (filter p xs)) ≤ length xs
few_made make p xs =
    let mapped = length-map (filter p xs) make in
    let kept = length-filter p xs in
    let some = count_by-le-length p xs in
    omega (arith, mapped, kept, some)

few_among : (d : Description) (src : Option (ℕ × ℕ)) (goal : Option End) (hosts : List EniNo) (outside : List FarNo) → length (starts_among d src goal hosts outside) ≤ 1 + length hosts + length outside
few_among d src goal hosts outside =
    let first = cond (is_goal goal ends.Internet) [] (ends.Internet ∷ []) in
    let one = few_first (is_goal goal ends.Internet) in
    let with_hosts = length-append first (map ends.Interface (filter (is_start d src goal) hosts)) in
    let joined = length-append (first ++ map ends.Interface (filter (is_start d src goal) hosts)) (map ends.Far (filter (is_far_start goal) outside)) in
    let some = few_made ends.Interface (is_start d src goal) hosts in
    let others = few_made ends.Far (is_far_start goal) outside in
    omega (arith, one, with_hosts, joined, some, others)

few_all : (d : Description) (src : Option (ℕ × ℕ)) (goal : Option End) (starts : List End) → IsAccepted d → AreAllStarts d src goal starts → length starts < 2 ^ 32
few_all d src goal starts accepted are =
    let same = ap length are.are in
    let among = few_among d src goal are.hosts are.outside in
    let moved = length_permutation (hosts_of d) are.hosts are.by_id.all in
    let few = few_hosts d accepted in
    let others_moved = length_permutation (listed.sources_of d) are.outside are.outside_by_id.all in
    let few_others = few_sources d accepted in
    omega (arith, same, among, moved, few, others_moved, few_others)

pub few_starts : (d : Description) (src : Option (ℕ × ℕ)) (start goal : Option End) (starts : List End) → IsAccepted d → AreStarts d src start goal starts → length starts < 2 ^ 32
few_starts d src (Some start) goal starts accepted are = let same = ap length are in omega (arith, same)
few_starts d src None goal starts accepted are = few_all d src goal starts accepted are

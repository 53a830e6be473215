-- The starts of a question have ids of their own.
use Rattle.std.proofs.Common.{◌≡◌, ◌≢◌, ◌∙◌, ◌++◌, ◌∷◌, [], All, Bool, List, None, Option, Some, ap, codes, false, filter, get_or, if◌then◌else◌, map, subst, suc, sym, true, zero, ℕ}
use Rattle.std.specs.Cmp.Lexicographic.{slice_cmp}
use Rattle.std.specs.List.{AllPairs, list_any, slice_index_or}
use Rattle.std.specs.Ordering.{is_eq, nat_cmp}
use Rattle.std.specs.Str.{bytes_eq}
use Rattle.std.specs.declared.cmp.Ordering.TheVariants.{Less}
use Rattle.std.proofs.lemmas.Bool.{both_ways, or_parts}
use Rattle.std.proofs.lemmas.List.Elements.{All-append, All-cons, All-filter, All-map, All-nil}
use Rattle.std.proofs.lemmas.List.Sorted.{All-permutation}
use Rattle.std.proofs.lemmas.List.Kept.{AllPairs-cons, AllPairs-filter}
use Rattle.std.proofs.lemmas.Map.Text.{is_eq-slice_cmp}
use Rattle.vpc_base.proofs.Bytes.{bytes_self}
use Rattle.vpc_base.proofs.Pairs.{AllPairs-joined, AllPairs-map}
use Rattle.described_hosts.specs.Hosts.{ComesBefore, id_of}
use Rattle.described_hosts.proofs.HostLemmas.{hosts_are_described}
use Rattle.described_hosts.specs.Outside.{far_id}
use Rattle.diff_check.proofs.Order.{has_own}
use Rattle.listing_text.proofs.OutsideLemmas.{HasOwnId, are_sources, own_id, source_is_meant}
use Rattle.listing_text.specs.Outside as listed
use Rattle.listing_text.specs.Outside.{AreSourcesById}
use Rattle.end_reach.specs.Asked.{AreStarts, is_far_start, is_goal, is_start}
use Rattle.vpc_laws.specs.Types.{Description, End, EniNo, FarNo, Interface}
use Rattle.vpc_model.specs.Sound.{is_eni}
use Rattle.vpc_model.specs.Lookup.{has_interface, no_interface}
use Rattle.vpc_model.specs.Told.{end_id}
use Rattle.vpc_model.specs.declared.places.End.TheVariants as ends
use Rattle.listing_laws.proofs.Pairwise.{one_pairs}

-- two ends with ids of their own
abbrev pub HaveOwnIds : Description → End → End → Type 0
HaveOwnIds d a b = end_id d a ≢ end_id d b

-- ---- the internet

internet_at : (rows : List Interface) (k : ℕ) → list_any (λ e. bytes_eq e.id (codes "internet")) rows ≡ false
    → (let e = slice_index_or rows k no_interface in codes "internet" ≢ e.id)
internet_at [] k none same = absurd (cc)
internet_at (e ∷ rows) zero none same =
    let parts = or_parts (bytes_eq e.id (codes "internet")) (list_any (λ x. bytes_eq x.id (codes "internet")) rows) none in
    both_ways (bytes_eq e.id (codes "internet")) parts.0 (ap (λ (id : List ℕ). bytes_eq id (codes "internet")) (sym same)
    ∙ bytes_self (codes "internet"))
internet_at (e ∷ rows) (suc k) none same =
    internet_at rows k (let parts = or_parts (bytes_eq e.id (codes "internet"))
    (list_any (λ x. bytes_eq x.id (codes "internet")) rows) none in parts.1) same

pub internet_apart : (d : Description) (i : EniNo) → has_interface d (codes "internet") ≡ false → codes "internet" ≢ id_of d i
internet_apart d i none = internet_at d.interfaces i.0 none

-- ---- hosts

pub less_apart : (x y : List ℕ) → slice_cmp nat_cmp x y ≡ Less → x ≢ y
less_apart x y less same =
    let not : bytes_eq x y ≡ false = sym (is_eq-slice_cmp x y) ∙ ap is_eq less in
    both_ways (bytes_eq x y) not (subst (λ (z : List ℕ). bytes_eq x z ≡ true) same (bytes_self x))

hosts_apart : (d : Description) (hosts : List EniNo) (p : EniNo → Bool) → AllPairs (ComesBefore d) hosts
    → AllPairs (HaveOwnIds d) (map ends.Interface (filter p hosts))
hosts_apart d hosts p ascending =
    AllPairs-map (HaveOwnIds d) ends.Interface (filter p hosts)
    (AllPairs-filter (λ i j. id_of d i ≢ id_of d j) p hosts (λ i j k before inside. less_apart _ _ (ascending i j k before inside)))

-- the internet before them, or not
among_apart : (d : Description) (b : Bool) (hosts : List EniNo) → has_interface d (codes "internet") ≡ false
    → AllPairs (HaveOwnIds d) (map ends.Interface hosts)
    → AllPairs (HaveOwnIds d) ((if b then [] else ends.Internet ∷ []) ++ map ends.Interface hosts)
among_apart d true hosts none pairs = pairs
among_apart d false hosts none pairs =
    AllPairs-cons (HaveOwnIds d) ends.Internet (map ends.Interface hosts)
    (All-map (HaveOwnIds d ends.Internet) ends.Interface hosts (λ k i within. internet_apart d _ none)) pairs

-- ---- networks that aren't described

outside_apart : (d : Description) (outside : List FarNo) (p : FarNo → Bool) → AllPairs (listed.ComesBefore d) outside
    → AllPairs (HaveOwnIds d) (map ends.Far (filter p outside))
outside_apart d outside p ascending =
    AllPairs-map (HaveOwnIds d) ends.Far (filter p outside)
    (AllPairs-filter (λ k l. far_id d k ≢ far_id d l) p outside (λ i j k before inside. less_apart _ _ (ascending i j k before inside)))

-- a network that its id names is called neither `internet` nor as an interface
pub no_internet : (id : List ℕ) → bytes_eq id (codes "internet") ≡ false → codes "internet" ≢ id
no_internet id other same =
    both_ways (bytes_eq id (codes "internet")) other (subst (λ (x : List ℕ). bytes_eq x (codes "internet") ≡ true) same
    (bytes_self (codes "internet")))

pub no_interface_of : (d : Description) (id other : List ℕ) → has_interface d id ≡ true → has_interface d other ≡ false → id ≢ other
no_interface_of d id other there none same =
    both_ways (has_interface d other) none (subst (λ (x : List ℕ). has_interface d x ≡ true) same there)

sources_are_own : (d : Description) (outside : List FarNo) → AreSourcesById d outside → All (HasOwnId d) outside
sources_are_own d outside by_id =
    All-permutation (HasOwnId d) (listed.sources_of d) outside by_id.all
    (λ k x below. own_id d (get_or (listed.sources_of d) k x) (source_is_meant d (get_or (listed.sources_of d) k x) (are_sources d k x below)))

-- each start before the networks has another id than each of them
abbrev IsNoneOf : Description → List FarNo → End → Type 0
IsNoneOf d outside e = All (HaveOwnIds d e) (map ends.Far outside)

internet_is_none : (d : Description) (b : Bool) (outside : List FarNo) → All (HasOwnId d) outside
    → All (IsNoneOf d outside) (if b then [] else ends.Internet ∷ [])
internet_is_none d true outside own = All-nil (IsNoneOf d outside)
internet_is_none d false outside own =
    All-cons (IsNoneOf d outside) ends.Internet []
    (All-map (HaveOwnIds d ends.Internet) ends.Far outside
    (λ k x below. let mine = own k x below in no_internet (far_id d (get_or outside k x)) mine.other))
    (All-nil (IsNoneOf d outside))

hosts_are_none : (d : Description) (hosts : List EniNo) (outside : List FarNo) → All (λ i. is_eni d i ≡ true) hosts → All (HasOwnId d) outside
    → All (IsNoneOf d outside) (map ends.Interface hosts)
hosts_are_none d hosts outside there own =
    All-map (IsNoneOf d outside) ends.Interface hosts (λ i y inside.
    let host = get_or hosts i y in
    All-map (HaveOwnIds d (ends.Interface host)) ends.Far outside
    (λ k x below.
    let mine = own k x below in
    no_interface_of d (id_of d host) (far_id d (get_or outside k x)) (has_own d host (there i y inside)) mine.free))

-- ---- all starts

pub starts_apart : (d : Description) (src : Option (ℕ × ℕ)) (start goal : Option End) (starts : List End) → has_interface d (codes "internet") ≡ false
    → AreStarts d src start goal starts → AllPairs (HaveOwnIds d) starts
starts_apart d src (Some start) goal starts none are = one_pairs (HaveOwnIds d) start starts are
starts_apart d src None goal starts none are =
    let hosts = filter (is_start d src goal) are.hosts in
    let outside = filter (is_far_start goal) are.outside in
    let b = is_goal goal ends.Internet in
    let there = All-filter (is_start d src goal) (λ i. is_eni d i ≡ true) are.hosts (hosts_are_described d are.hosts are.by_id) in
    let own = All-filter (is_far_start goal) (HasOwnId d) are.outside (sources_are_own d are.outside are.outside_by_id) in
    let own_hosts = are.by_id in
    let own_outside = are.outside_by_id in
    subst (AllPairs (HaveOwnIds d)) (sym are.are)
    (AllPairs-joined (HaveOwnIds d) ((if b then [] else ends.Internet ∷ []) ++ map ends.Interface hosts) (map ends.Far outside)
    (among_apart d b hosts none (hosts_apart d are.hosts (is_start d src goal) own_hosts.ascending))
    (outside_apart d are.outside (is_far_start goal) own_outside.ascending)
    (All-append (IsNoneOf d outside) (if b then [] else ends.Internet ∷ []) (map ends.Interface hosts)
    (internet_is_none d b outside own) (hosts_are_none d hosts outside there own)))

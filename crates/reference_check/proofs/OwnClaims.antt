-- What an interface claims, address by address and block by block.
use Rattle.std.proofs.Common.{◌≡◌, ◌∙◌, ◌+◌, ◌++◌, ◌<◌, ◌≤◌, ◌⊎◌, ◌&&◌, ◌||◌, ◌∷◌, [], ℕ, All, List, Option, ap, append_assoc, arith, bytes_eq, drop, flat_map, get_or, inl, inr, length, map, nat_le, refl, subst, suc, sym, take, true, zero}
use Rattle.std.specs.List.{Contains}
use Rattle.std.proofs.lemmas.Bool.{and_from, and_parts, le-leb, leb-true, or_left, or_right}
use Rattle.std.proofs.lemmas.List.{drop_more, map-append, map_more}
use Rattle.std.proofs.lemmas.List.Elements.{All-contains, Contains-append_cases}
use Rattle.std.proofs.lemmas.List.Folds.{list_any-append}
use Rattle.vpc_base.proofs.Members.{AllByRecursion-at, list_any-member, map-member}
use Rattle.vpc_base.proofs.Steps.{drop-next}
use Rattle.vpc_base.proofs.Tests.{list_any-map}
use Rattle.number_tables.specs.Keys as keys
use Rattle.prefix_text.specs.Block.{Block}
use Rattle.address_sets.specs.Runs.{AreApart, AreRuns, is_in, run_of}
use Rattle.address_sets.specs.Runs as runs
use Rattle.address_sets.specs.declared.sets.Run.{Run}
use Rattle.vpc_model.specs.Accepted.{Claim, address_clashes, claims_of, clash_with, clashes_after, first_cause, interface_clashes}
use Rattle.vpc_model.specs.declared.refusals.Refusal.{Refusal}
use Rattle.vpc_model.specs.declared.rows.Description.{Description}
use Rattle.vpc_model.specs.declared.rows.Interface.{Interface}
use Rattle.reference_check.specs.Claimed.{AreSome, alone, alone_in, blocks_in, claim_of, is_claimed, is_of, run_at}
use Rattle.reference_check.specs.Taken.{AreTaken, IsFree, IsTaken, Takes}
use Rattle.reference_check.specs.Told.{IsTold}
use Rattle.reference_check.proofs.Adding.{some-joined, taken-same}
use Rattle.reference_check.proofs.Maps.{and-any}
use Rattle.reference_check.proofs.Told.{told_first}

-- ---- its addresses, one after the other

next-alone : (vpc : List ℕ) (claims : List Claim) (xs : List (ℕ × Option ℕ)) (i : ℕ) (d : ℕ × Option ℕ) → i < length xs
    → address_clashes claims (alone_in vpc (drop i xs)) ≡ clash_with claims (alone (vpc, (get_or xs i d).0)) ++ address_clashes (claims ++ alone (vpc, (get_or xs i d).0) ∷ []) (alone_in vpc (drop (i + 1) xs))
next-alone vpc claims xs i d within = ap (λ (ys : List (ℕ × Option ℕ)). address_clashes claims (alone_in vpc ys)) (drop_more xs i d within)

more-alone : (vpc : List ℕ) (claims : List Claim) (xs : List (ℕ × Option ℕ)) (i : ℕ) (d : ℕ × Option ℕ) → i < length xs
    → (claims ++ alone_in vpc (take i xs)) ++ alone (vpc, (get_or xs i d).0) ∷ [] ≡ claims ++ alone_in vpc (take (i + 1) xs)
more-alone vpc claims xs i d within =
    append_assoc claims (alone_in vpc (take i xs)) (alone (vpc, (get_or xs i d).0) ∷ [])
    ∙ ap (λ (cs : List Claim). claims ++ cs) (sym (map_more (λ (x : ℕ × Option ℕ). alone (vpc, x.0)) xs i d within))

-- where the next one clashes with none
pub addresses-next : (vpc : List ℕ) (claims : List Claim) (xs : List (ℕ × Option ℕ)) (i : ℕ) (d : ℕ × Option ℕ) → i < length xs
    → clash_with (claims ++ alone_in vpc (take i xs)) (alone (vpc, (get_or xs i d).0)) ≡ []
    → address_clashes (claims ++ alone_in vpc (take i xs)) (alone_in vpc (drop i xs)) ≡ address_clashes (claims ++ alone_in vpc (take (i + 1) xs)) (alone_in vpc (drop (i + 1) xs))
addresses-next vpc claims xs i d within none =
    next-alone vpc (claims ++ alone_in vpc (take i xs)) xs i d within
    ∙ ap (λ (cs : List Refusal). cs ++ address_clashes ((claims ++ alone_in vpc (take i xs)) ++ alone (vpc, (get_or xs i d).0) ∷ []) (alone_in vpc (drop (i + 1) xs))) none
    ∙ ap (λ (cs : List Claim). address_clashes cs (alone_in vpc (drop (i + 1) xs))) (more-alone vpc claims xs i d within)

-- where it clashes with one
pub addresses-told : (vpc : List ℕ) (claims : List Claim) (xs : List (ℕ × Option ℕ)) (i : ℕ) (d : ℕ × Option ℕ) (cause : Refusal) → i < length xs
    → IsTold (first_cause (clash_with (claims ++ alone_in vpc (take i xs)) (alone (vpc, (get_or xs i d).0)))) cause
    → IsTold (first_cause (address_clashes (claims ++ alone_in vpc (take i xs)) (alone_in vpc (drop i xs)))) cause
addresses-told vpc claims xs i d cause within told =
    let before = claims ++ alone_in vpc (take i xs) in
    subst (λ causes. IsTold (first_cause causes) cause) (sym (next-alone vpc before xs i d within))
    (told_first (clash_with before (alone (vpc, (get_or xs i d).0))) (address_clashes (before ++ alone (vpc, (get_or xs i d).0) ∷ []) (alone_in vpc (drop (i + 1) xs))) cause told)

-- ---- what is made of each of some items

pub flat_map-rest : {X : Type 0} (f : X → List Refusal) (xs : List X) (i : ℕ) (x : X) (all : List Refusal) → i < length xs → x ≡ get_or xs i x → f x ≡ [] → flat_map f (drop i xs) ≡ all → flat_map f (drop (i + 1) xs) ≡ all
flat_map-rest {X} f xs i x all within is none rest =
    sym (ap (λ (cs : List Refusal). cs ++ flat_map f (drop (i + 1) xs)) (ap f (sym is) ∙ none)) ∙ sym (ap (flat_map f) (drop_more xs i x within)) ∙ rest

pub flat_map-claims : (claims : List Claim) (vpc : List ℕ) (bs : List Block) → flat_map (λ b. clash_with claims (claim_of vpc (run_of b))) bs ≡ flat_map (clash_with claims) (blocks_in vpc bs)
flat_map-claims claims vpc [] = refl
flat_map-claims claims vpc (b ∷ bs) = ap (λ (cs : List Refusal). clash_with claims (claim_of vpc (run_of b)) ++ cs) (flat_map-claims claims vpc bs)

-- ---- runs that are taken one after the other

apart-drop : (rs : List Run) (i : ℕ) → AreApart rs → AreApart (drop i rs)
apart-drop rs zero apart = apart
apart-drop [] (suc i) apart = tt
apart-drop (r ∷ rs) (suc i) apart = apart-drop rs i apart.1

next-runs : (rs : List Run) (i : ℕ) (r : Run) → i < length rs → r ≡ get_or rs i r → drop i rs ≡ r ∷ drop (i + 1) rs
next-runs rs i r within is = drop_more rs i r within ∙ ap (λ (s : Run). s ∷ drop (i + 1) rs) (sym is)

-- the next run is free where all that are left are
pub next-free : (taken : List (ℕ × ℕ)) (v : ℕ) (rs : List Run) (i : ℕ) (r : Run) → i < length rs → r ≡ get_or rs i r → ((a : ℕ) → is_in a (drop i rs) ≡ true → IsTaken taken (keys.key_of v a) → ⊥) → IsFree taken v r
next-free taken v rs i r within is free a from to has =
    free a (ap (is_in a) (next-runs rs i r within is) ∙ or_left (runs.is_of a r) (is_in a (drop (i + 1) rs)) (and_from (nat_le r.first a) (nat_le a r.last) (le-leb r.first a from) (le-leb a r.last to))) has

-- and the later ones are when it is taken
pub later-free : (old new : List (ℕ × ℕ)) (v : ℕ) (rs : List Run) (i : ℕ) (r : Run) → AreApart rs → i < length rs → r ≡ get_or rs i r → Takes old (keys.key_of v r.first) (keys.key_of v r.last) new
    → ((a : ℕ) → is_in a (drop i rs) ≡ true → IsTaken old (keys.key_of v a) → ⊥) → (a : ℕ) → is_in a (drop (i + 1) rs) ≡ true → IsTaken new (keys.key_of v a) → ⊥
later-free old new v rs i r apart within is takes free a later has = by ((takes (keys.key_of v a)).0 has)
  where
    by : IsTaken old (keys.key_of v a) ⊎ ((keys.key_of v r.first ≤ keys.key_of v a) × (keys.key_of v a ≤ keys.key_of v r.last)) → ⊥
    by (inl before) = free a (ap (is_in a) (next-runs rs i r within is) ∙ or_right (runs.is_of a r) (is_in a (drop (i + 1) rs)) later) before
    by (inr (from, to)) =
        let parts : AreApart (r ∷ drop (i + 1) rs) = subst AreApart (next-runs rs i r within is) (apart-drop rs i apart) in
        let one = list_any-member (runs.is_of a) (drop (i + 1) rs) later in
        let begins = AllByRecursion-at (λ s. (r.first ≤ s.first) × (r.last + 1 < s.first)) (drop (i + 1) rs) one.0 parts.0 one.1 in
        let ends = and_parts (nat_le one.0.first a) (nat_le a one.0.last) one.2 in
        let from_first = leb-true one.0.first a ends.0 in
        let gap = begins.1 in
        omega arith

pub runs-more : (d : Description) (claims : List Claim) (new : List (ℕ × ℕ)) (vpc : List ℕ) (rs : List Run) (i : ℕ) (r : Run) → i < length rs → r ≡ get_or rs i r
    → AreTaken d ((claims ++ map (claim_of vpc) (take i rs)) ++ claim_of vpc r ∷ []) new → AreTaken d (claims ++ map (claim_of vpc) (take (i + 1) rs)) new
runs-more d claims new vpc rs i r within is are =
    subst (λ cs. AreTaken d cs new)
    (append_assoc claims (map (claim_of vpc) (take i rs)) (claim_of vpc r ∷ [])
    ∙ ap (λ (cs : List Claim). claims ++ cs) (ap (λ (s : Run). map (claim_of vpc) (take i rs) ++ claim_of vpc s ∷ []) is ∙ sym (map_more (claim_of vpc) rs i r within)))
    are

-- ---- all that it claims, as runs that lie apart

-- its addresses and its blocks, as runs
abbrev pub own_runs : List (ℕ × Option ℕ) → List Block → List Run
own_runs xs bs = map (λ x. run_at x.0) xs ++ map run_of bs

map-runs : {X : Type 0} (f : X → Run) (vpc : List ℕ) (xs : List X) → map (claim_of vpc) (map f xs) ≡ map (λ x. claim_of vpc (f x)) xs
map-runs f vpc [] = refl
map-runs f vpc (x ∷ xs) = ap (λ (cs : List Claim). claim_of vpc (f x) ∷ cs) (map-runs f vpc xs)

own-claims : (vpc : List ℕ) (xs : List (ℕ × Option ℕ)) (bs : List Block) → map (claim_of vpc) (own_runs xs bs) ≡ alone_in vpc xs ++ blocks_in vpc bs
own-claims vpc xs bs =
    map-append (claim_of vpc) (map (λ (x : ℕ × Option ℕ). run_at x.0) xs) (map run_of bs)
    ∙ ap (λ (cs : List Claim). cs ++ map (claim_of vpc) (map run_of bs)) (map-runs (λ (x : ℕ × Option ℕ). run_at x.0) vpc xs)
    ∙ ap (λ (cs : List Claim). alone_in vpc xs ++ cs) (map-runs run_of vpc bs)

claimed-runs : (w : List ℕ) (a : ℕ) (vpc : List ℕ) (rs : List Run) → is_claimed w a (map (claim_of vpc) rs) ≡ (is_in a rs && bytes_eq vpc w)
claimed-runs w a vpc rs = list_any-map (is_of w a) (claim_of vpc) rs ∙ and-any (bytes_eq vpc w) (runs.is_of a) rs

-- runs of the same addresses claim the same
pub claimed-same : (w : List ℕ) (a : ℕ) (claims : List Claim) (vpc : List ℕ) (xs : List (ℕ × Option ℕ)) (bs : List Block) (rs : List Run) → is_in a rs ≡ is_in a (own_runs xs bs)
    → is_claimed w a (claims ++ map (claim_of vpc) rs) ≡ is_claimed w a (claims ++ (alone_in vpc xs ++ blocks_in vpc bs))
claimed-same w a claims vpc xs bs rs same =
    list_any-append (is_of w a) claims (map (claim_of vpc) rs)
    ∙ ap (λ b. is_claimed w a claims || b)
    (claimed-runs w a vpc rs ∙ ap (λ b. b && bytes_eq vpc w) same ∙ sym (claimed-runs w a vpc (own_runs xs bs)) ∙ ap (is_claimed w a) (own-claims vpc xs bs))
    ∙ sym (list_any-append (is_of w a) claims (alone_in vpc xs ++ blocks_in vpc bs))

some-alone : (vpc : List ℕ) (xs : List (ℕ × Option ℕ)) → AreSome (alone_in vpc xs)
some-alone vpc [] = tt
some-alone vpc (x ∷ xs) = (omega arith, some-alone vpc xs)

pub some-block : (b : Block) → (run_of b).first ≤ (run_of b).last
some-block b = omega arith

some-blocks : (vpc : List ℕ) (bs : List Block) → AreSome (blocks_in vpc bs)
some-blocks vpc [] = tt
some-blocks vpc (b ∷ bs) = (some-block b, some-blocks vpc bs)

pub taken-own : (d : Description) (claims : List Claim) (new : List (ℕ × ℕ)) (vpc : List ℕ) (xs : List (ℕ × Option ℕ)) (bs : List Block) (rs : List Run) → AreSome claims
    → ((a : ℕ) → is_in a rs ≡ is_in a (own_runs xs bs)) → AreTaken d (claims ++ map (claim_of vpc) rs) new → AreTaken d (claims ++ (alone_in vpc xs ++ blocks_in vpc bs)) new
taken-own d claims new vpc xs bs rs some same are =
    taken-same d (claims ++ map (claim_of vpc) rs) (claims ++ (alone_in vpc xs ++ blocks_in vpc bs)) new
    (some-joined claims (alone_in vpc xs ++ blocks_in vpc bs) some (some-joined (alone_in vpc xs) (blocks_in vpc bs) (some-alone vpc xs) (some-blocks vpc bs)))
    (λ w a. claimed-same w a claims vpc xs bs rs (same a)) are

-- none of its addresses is taken where its runs are free
pub own-free : (taken : List (ℕ × ℕ)) (v : ℕ) (xs : List (ℕ × Option ℕ)) (bs : List Block) → All (λ x. IsFree taken v (run_at x.0)) xs → All (λ b. IsFree taken v (run_of b)) bs
    → (a : ℕ) → is_in a (own_runs xs bs) ≡ true → IsTaken taken (keys.key_of v a) → ⊥
own-free taken v xs bs alone blocks a has =
    let one = list_any-member (runs.is_of a) (own_runs xs bs) has in
    by one.0 one.2 (Contains-append_cases (map (λ (x : ℕ × Option ℕ). run_at x.0) xs) (map run_of bs) one.0 one.1)
  where
    by : (r : Run) → runs.is_of a r ≡ true → Contains (map (λ (x : ℕ × Option ℕ). run_at x.0) xs) r ⊎ Contains (map run_of bs) r → IsTaken taken (keys.key_of v a) → ⊥
    by r here (inl member) =
        let x = map-member (λ (x : ℕ × Option ℕ). run_at x.0) xs r member in
        let ends = and_parts (nat_le r.first a) (nat_le a r.last) here in
        subst (IsFree taken v) x.2 (All-contains (λ x. IsFree taken v (run_at x.0)) xs x.0 alone x.1) a (leb-true r.first a ends.0) (leb-true a r.last ends.1)
    by r here (inr member) =
        let b = map-member run_of bs r member in
        let ends = and_parts (nat_le r.first a) (nat_le a r.last) here in
        subst (IsFree taken v) b.2 (All-contains (λ b. IsFree taken v (run_of b)) bs b.0 blocks b.1) a (leb-true r.first a ends.0) (leb-true a r.last ends.1)

-- ---- the interfaces, one after the other

next-interface : (d : Description) (before : List Claim) (es : List Interface) (i : ℕ) (e : Interface) → i < length es → e ≡ get_or es i e
    → clashes_after d before (drop i es) ≡ interface_clashes d before e ++ clashes_after d (before ++ claims_of d e) (drop (i + 1) es)
next-interface d before es i e within is = ap (clashes_after d before) (drop-next es i e within is)

-- where the next one clashes with none
pub interfaces-next : (d : Description) (before : List Claim) (es : List Interface) (i : ℕ) (e : Interface) (all : List Refusal) → i < length es → e ≡ get_or es i e
    → interface_clashes d before e ≡ [] → clashes_after d before (drop i es) ≡ all → clashes_after d (before ++ claims_of d e) (drop (i + 1) es) ≡ all
interfaces-next d before es i e all within is none rest =
    sym (next-interface d before es i e within is ∙ ap (λ (cs : List Refusal). cs ++ clashes_after d (before ++ claims_of d e) (drop (i + 1) es)) none) ∙ rest

-- where it clashes with one
pub interfaces-told : (d : Description) (before : List Claim) (es : List Interface) (i : ℕ) (e : Interface) (all : List Refusal) (cause : Refusal) → i < length es → e ≡ get_or es i e
    → clashes_after d before (drop i es) ≡ all → IsTold (first_cause (interface_clashes d before e)) cause → IsTold (first_cause all) cause
interfaces-told d before es i e all cause within is rest told =
    subst (λ causes. IsTold (first_cause causes) cause) (sym (next-interface d before es i e within is) ∙ rest)
    (told_first (interface_clashes d before e) (clashes_after d (before ++ claims_of d e) (drop (i + 1) es)) cause told)

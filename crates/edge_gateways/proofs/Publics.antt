-- The public addresses of VPCs, found in tables.
use Rattle.std.proofs.Common.{All, Bool, Contains, IfSome, List, None, Option, Some, [], ap, arith, cond, false, filter, find, flat_map, inl, inr, map, option_map, refl, subst, sym, true, ℕ, ◌++◌, ◌<◌, ◌==◌, ◌^◌, ◌∙◌, ◌∷◌, ◌≡◌}
use Rattle.std.specs.List.{AllByRecursion}
use Rattle.std.specs.Option.{option_or}
use Rattle.vpc_base.proofs.Lemmas.{Contains-cases, Contains-none, all_members, cases_Bool, cases_eq, eq-eqb, eqb-false, eqb-true, find-append, find-member, flat_map-member, ne_eqb, option_map-map, option_map-or, recursion_from_All}
use Rattle.number_tables.specs.Keys.{key_of}
use Rattle.number_tables.proofs.KeyLemmas.{key_of-other}
use Rattle.number_tables.specs.Entries.{value_at}
use Rattle.number_tables.specs.declared.tables.Entry.{Entry}
use Rattle.vpc_laws.specs.Types.{Description, Interface, VpcNo}
use Rattle.vpc_model.specs.Terms.{IsAccepted, is_in_vpc, is_vpc, owned_by, pairs_of, private_of, vpc_no, vpc_of_interface}
use Rattle.vpc_laws.proofs.Numbering.{ids_are_found}
use Rattle.edge_gateways.specs.Terms.{HasPairsOf, Owner, Pair, all_pairs, in_vpc, owner_entry, pairs_with, public_entry}
use Rattle.reference_check.proofs.VpcIds.{ids_agree, vpc_described}

-- ---- searches

find-map : {X Y : Type 0} (p : Y → Bool) (f : X → Y) (xs : List X) → find p (map f xs) ≡ option_map f (find (λ x. p (f x)) xs)
find-map p f [] = refl
find-map p f (x ∷ xs) = elim (cases_Bool (p (f x))) [ inl passes ↦ rw passes refl | inr fails ↦ rw fails (find-map p f xs) ]

all-left : {X : Type 0} (P : X → Type 0) (xs ys : List X) → AllByRecursion P (xs ++ ys) → AllByRecursion P xs
all-left P [] ys all = tt
all-left P (x ∷ xs) ys all = (all.0, all-left P xs ys all.1)

all-right : {X : Type 0} (P : X → Type 0) (xs ys : List X) → AllByRecursion P (xs ++ ys) → AllByRecursion P ys
all-right P [] ys all = all
all-right P (x ∷ xs) ys all = all-right P xs ys all.1

-- ---- the tables' entries

value-public : (k : ℕ) (pairs : List Pair) → value_at k (map public_entry pairs) ≡ option_map (λ p. p.public) (find (λ p. key_of p.owner.vpc.0 p.owner.own == k) pairs)
value-public k pairs = ap (option_map (λ e. e.value)) (find-map (λ e. e.key == k) public_entry pairs) ∙ option_map-map (λ e. e.value) public_entry (find (λ p. key_of p.owner.vpc.0 p.owner.own == k) pairs)

value-owner : (k : ℕ) (pairs : List Pair) → value_at k (map owner_entry pairs) ≡ option_map (λ p. p.owner) (find (λ p. p.public == k) pairs)
value-owner k pairs = ap (option_map (λ e. e.value)) (find-map (λ e. e.key == k) owner_entry pairs) ∙ option_map-map (λ e. e.value) owner_entry (find (λ p. p.public == k) pairs)

-- ---- public addresses by private ones

-- keys of one VPC
key-same : (w v a b : ℕ) → w ≡ v → (key_of w a == key_of v b) ≡ (a == b)
key-same w v a b same =
    elim (cases_eq a b) [
      | inl e ↦ eq-eqb (key_of w a) (key_of v b) (omega arith) ∙ sym (eq-eqb a b e)
      | inr n ↦ ne_eqb (key_of w a) (key_of v b) (λ e. n (omega arith)) ∙ sym (ne_eqb a b n)
    ]

-- in the VPC that is asked
public-within : (w v : VpcNo) (own : ℕ) (ps : List (ℕ × ℕ)) → w.0 ≡ v.0
    → option_map (λ p. p.public) (find (λ p. key_of p.owner.vpc.0 p.owner.own == key_of v.0 own) (map (in_vpc w) ps)) ≡ option_map (λ p. p.1) (find (λ p. p.0 == own) ps)
public-within w v own [] same = refl
public-within w v own (p ∷ ps) same =
    let key = key-same w.0 v.0 p.0 own same in
    elim (cases_Bool (p.0 == own)) [
      | inl here ↦ rw (key ∙ here, here) refl
      | inr later ↦ rw (key ∙ later, later) (public-within w v own ps same)
    ]

-- and in others
public-without : (w v : VpcNo) (own : ℕ) (ps : List (ℕ × ℕ)) → (w.0 ≡ v.0 → ⊥) → own < 2 ^ 32 → AllByRecursion (λ (p : Pair). p.owner.own < 2 ^ 32) (map (in_vpc w) ps)
    → find (λ (p : Pair). key_of p.owner.vpc.0 p.owner.own == key_of v.0 own) (map (in_vpc w) ps) ≡ None
public-without w v own [] other fits all = refl
public-without w v own (p ∷ ps) other fits all = rw (key_of-other w.0 v.0 p.0 own other all.0 fits) (public-without w v own ps other fits all.1)

abbrev pub Agree : Description → VpcNo → Interface → Type 0
Agree d v e = is_in_vpc d v e ≡ ((vpc_no d (vpc_of_interface d e)).0 == v.0)

public-of : (d : Description) (v : VpcNo) (own : ℕ) (es : List Interface) → own < 2 ^ 32 → AllByRecursion (Agree d v) es → AllByRecursion (λ (p : Pair). p.owner.own < 2 ^ 32) (flat_map (pairs_with d) es)
    → option_map (λ p. p.public) (find (λ p. key_of p.owner.vpc.0 p.owner.own == key_of v.0 own) (flat_map (pairs_with d) es)) ≡ option_map (λ p. p.1) (find (λ p. p.0 == own) (flat_map pairs_of (filter (is_in_vpc d v) es)))
public-of d v own [] fits agree all = refl
public-of d v own (e ∷ es) fits agree all =
    let w = vpc_no d (vpc_of_interface d e) in
    let test : (Pair → Bool) = λ p. key_of p.owner.vpc.0 p.owner.own == key_of v.0 own in
    let value : (Pair → ℕ) = λ p. p.public in
    let rest = public-of d v own es fits agree.1 (all-right (λ (p : Pair). p.owner.own < 2 ^ 32) (pairs_with d e) (flat_map (pairs_with d) es) all) in
    let split : option_map value (find test (pairs_with d e ++ flat_map (pairs_with d) es)) ≡ option_or (option_map value (find test (pairs_with d e))) (option_map value (find test (flat_map (pairs_with d) es))) =
    ap (option_map value) (find-append test (pairs_with d e) (flat_map (pairs_with d) es)) ∙ option_map-or value (find test (pairs_with d e)) (find test (flat_map (pairs_with d) es)) in
    let later = flat_map pairs_of (filter (is_in_vpc d v) es) in
    elim (cases_Bool (w.0 == v.0)) [
      | inl same ↦
          let kept : is_in_vpc d v e ≡ true = agree.0 ∙ same in
          let here = public-within w v own (pairs_of e) (eqb-true w.0 v.0 same) in
          split
          ∙ ap (λ (o : Option ℕ). option_or o (option_map value (find test (flat_map (pairs_with d) es)))) here
          ∙ ap (option_or (option_map (λ p. p.1) (find (λ p. p.0 == own) (pairs_of e)))) rest
          ∙ sym (option_map-or (λ (p : ℕ × ℕ). p.1) (find (λ p. p.0 == own) (pairs_of e)) (find (λ p. p.0 == own) later))
          ∙ ap (option_map (λ (p : ℕ × ℕ). p.1)) (sym (find-append (λ (p : ℕ × ℕ). p.0 == own) (pairs_of e) later))
          ∙ ap (λ (b : Bool). option_map (λ (p : ℕ × ℕ). p.1) (find (λ p. p.0 == own) (flat_map pairs_of (cond b (e ∷ filter (is_in_vpc d v) es) (filter (is_in_vpc d v) es))))) (sym kept)
      | inr other ↦
          let dropped : is_in_vpc d v e ≡ false = agree.0 ∙ other in
          let none = public-without w v own (pairs_of e) (eqb-false w.0 v.0 other) fits (all-left (λ (p : Pair). p.owner.own < 2 ^ 32) (pairs_with d e) (flat_map (pairs_with d) es) all) in
          split
          ∙ ap (λ (o : Option Pair). option_or (option_map value o) (option_map value (find test (flat_map (pairs_with d) es)))) none
          ∙ rest
          ∙ ap (λ (b : Bool). option_map (λ (p : ℕ × ℕ). p.1) (find (λ p. p.0 == own) (flat_map pairs_of (cond b (e ∷ filter (is_in_vpc d v) es) (filter (is_in_vpc d v) es))))) (sym dropped)
    ]

-- ---- owners of public addresses

owner-of : (d : Description) (x : ℕ) (es : List Interface) → option_map (λ p. p.owner.vpc) (find (λ p. p.public == x) (flat_map (pairs_with d) es)) ≡ option_map (λ o. o.0) (find (λ o. o.1 == x) (flat_map (owned_by d) es))
owner-of d x [] = refl
owner-of d x (e ∷ es) =
    let w = vpc_no d (vpc_of_interface d e) in
    let test : (Pair → Bool) = λ p. p.public == x in
    let owned : (VpcNo × ℕ → Bool) = λ o. o.1 == x in
    let of : (Pair → VpcNo) = λ p. p.owner.vpc in
    let first : (VpcNo × ℕ → VpcNo) = λ o. o.0 in
    let mine : (ℕ × ℕ → VpcNo × ℕ) = λ p. (w, p.1) in
    let here : option_map of (find test (pairs_with d e)) ≡ option_map first (find owned (owned_by d e)) =
    ap (option_map of) (find-map test (in_vpc w) (pairs_of e))
    ∙ option_map-map of (in_vpc w) (find (λ p. p.1 == x) (pairs_of e))
    ∙ sym (option_map-map first mine (find (λ p. p.1 == x) (pairs_of e)))
    ∙ ap (option_map first) (sym (find-map owned mine (pairs_of e))) in
    ap (option_map of) (find-append test (pairs_with d e) (flat_map (pairs_with d) es))
    ∙ option_map-or of (find test (pairs_with d e)) (find test (flat_map (pairs_with d) es))
    ∙ ap (λ (o : Option VpcNo). option_or o (option_map of (find test (flat_map (pairs_with d) es)))) here
    ∙ ap (option_or (option_map first (find owned (owned_by d e)))) (owner-of d x es)
    ∙ sym (option_map-or first (find owned (owned_by d e)) (find owned (flat_map (owned_by d) es)))
    ∙ ap (option_map first) (sym (find-append owned (owned_by d e) (flat_map (owned_by d) es)))

-- ---- private addresses of public ones

private-of : (d : Description) (v : VpcNo) (x : ℕ) (es : List Interface) (p : Pair) → AllByRecursion (Agree d v) es → p.owner.vpc.0 ≡ v.0 → find (λ q. q.public == x) (flat_map (pairs_with d) es) ≡ Some p
    → find (λ q. q.1 == x) (flat_map pairs_of (filter (is_in_vpc d v) es)) ≡ Some (p.owner.own, p.public)
private-of d v x [] p agree in_v found = absurd cc
private-of d v x (e ∷ es) p agree in_v found = by (private-of d v x es p agree.1 in_v) (find (λ q. q.1 == x) (pairs_of e)) refl
  where
    split : option_or (option_map (in_vpc (vpc_no d (vpc_of_interface d e))) (find (λ q. q.1 == x) (pairs_of e))) (find (λ q. q.public == x) (flat_map (pairs_with d) es)) ≡ Some p
    split =
        ap (λ (o : Option Pair). option_or o (find (λ q. q.public == x) (flat_map (pairs_with d) es))) (sym (find-map (λ (q : Pair). q.public == x) (in_vpc (vpc_no d (vpc_of_interface d e))) (pairs_of e)))
        ∙ sym (find-append (λ (q : Pair). q.public == x) (pairs_with d e) (flat_map (pairs_with d) es))
        ∙ found

    by : (find (λ (q : Pair). q.public == x) (flat_map (pairs_with d) es) ≡ Some p → find (λ (q : ℕ × ℕ). q.1 == x) (flat_map pairs_of (filter (is_in_vpc d v) es)) ≡ Some (p.owner.own, p.public))
        → (o : Option (ℕ × ℕ)) → find (λ q. q.1 == x) (pairs_of e) ≡ o → find (λ q. q.1 == x) (flat_map pairs_of (filter (is_in_vpc d v) (e ∷ es))) ≡ Some (p.owner.own, p.public)
    by among None here =
        let later : find (λ (q : Pair). q.public == x) (flat_map (pairs_with d) es) ≡ Some p =
        ap (λ (o : Option (ℕ × ℕ)). option_or (option_map (in_vpc (vpc_no d (vpc_of_interface d e))) o) (find (λ q. q.public == x) (flat_map (pairs_with d) es))) (sym here) ∙ split in
        let rest = among later in
        elim (cases_Bool (is_in_vpc d v e)) [
          | inl kept ↦
              rw kept
              (find-append (λ (q : ℕ × ℕ). q.1 == x) (pairs_of e) (flat_map pairs_of (filter (is_in_vpc d v) es))
              ∙ ap (λ (o : Option (ℕ × ℕ)). option_or o (find (λ q. q.1 == x) (flat_map pairs_of (filter (is_in_vpc d v) es)))) here
              ∙ rest)
          | inr dropped ↦ rw dropped rest
        ]
    by among (Some q) here =
        let is : Some (in_vpc (vpc_no d (vpc_of_interface d e)) q) ≡ Some p =
        ap (λ (o : Option (ℕ × ℕ)). option_or (option_map (in_vpc (vpc_no d (vpc_of_interface d e))) o) (find (λ q. q.public == x) (flat_map (pairs_with d) es))) (sym here) ∙ split in
        let same : in_vpc (vpc_no d (vpc_of_interface d e)) q ≡ p = cc in
        let number : (vpc_no d (vpc_of_interface d e)).0 ≡ v.0 = ap (λ (r : Pair). r.owner.vpc.0) same ∙ in_v in
        let kept : is_in_vpc d v e ≡ true = agree.0 ∙ eq-eqb (vpc_no d (vpc_of_interface d e)).0 v.0 number in
        rw kept
        (find-append (λ (q : ℕ × ℕ). q.1 == x) (pairs_of e) (flat_map pairs_of (filter (is_in_vpc d v) es))
        ∙ ap (λ (o : Option (ℕ × ℕ)). option_or o (find (λ q. q.1 == x) (flat_map pairs_of (filter (is_in_vpc d v) es)))) here
        ∙ ap (λ (r : Pair). Some (r.owner.own, r.public)) same)

-- the VPC of a pair is described
vpc-in : (w : VpcNo) (ps : List (ℕ × ℕ)) (p : Pair) → Contains (map (in_vpc w) ps) p → p.owner.vpc ≡ w
vpc-in w [] p member = absurd (Contains-none p member)
vpc-in w (q ∷ ps) p member =
    elim (Contains-cases (in_vpc w q) p (map (in_vpc w) ps) member) [
      | inl same ↦ sym (ap (λ (r : Pair). r.owner.vpc) same)
      | inr later ↦ vpc-in w ps p later
    ]

vpc-lies : (d : Description) (x : ℕ) (p : Pair) → IsAccepted d → find (λ q. q.public == x) (all_pairs d) ≡ Some p → is_vpc d p.owner.vpc ≡ true
vpc-lies d x p accepted found =
    let member = (find-member (λ (q : Pair). q.public == x) (all_pairs d) p found).1 in
    let from = flat_map-member (pairs_with d) d.interfaces p member in
    let e : Interface = from.0 in
    let is = vpc-in (vpc_no d (vpc_of_interface d e)) (pairs_of e) p from.2 in
    subst (λ (w : VpcNo). is_vpc d w ≡ true) (sym is) ((ids_are_found d).vpc (vpc_of_interface d e) (vpc_described d e accepted from.1)).0

agree-all : (d : Description) (v : VpcNo) → IsAccepted d → is_vpc d v ≡ true → AllByRecursion (Agree d v) d.interfaces
agree-all d v accepted lies = all_members (Agree d v) d.interfaces (λ e member. ids_agree d v (vpc_of_interface d e) accepted lies (vpc_described d e accepted member))

-- ---- all of it

own-of : (d : Description) (x : ℕ) (o : Option Pair) (owner : Option Owner) → IsAccepted d → find (λ q. q.public == x) (all_pairs d) ≡ o → owner ≡ option_map (λ p. p.owner) o
    → IfSome {T = VpcNo × ℕ} (option_map (λ (w : Owner). (w.vpc, w.own)) owner) (λ w. private_of d w.0 x ≡ Some w.1)
own-of d x None owner accepted found is = rw is tt
own-of d x (Some p) owner accepted found is =
    let lies = vpc-lies d x p accepted found in
    rw is (ap (option_map (λ (q : ℕ × ℕ). q.0)) (private-of d p.owner.vpc x d.interfaces p (agree-all d p.owner.vpc accepted lies) refl found))

pub has_pairs_of : (d : Description) (pairs rows : List Pair) (publics : List (Entry ℕ)) (owners : List (Entry Owner)) → IsAccepted d → pairs ≡ all_pairs d → All (λ (p : Pair). p.owner.own < 2 ^ 32) pairs → rows ≡ pairs
    → ((k : ℕ) → value_at k publics ≡ value_at k (map public_entry rows)) → ((k : ℕ) → value_at k owners ≡ value_at k (map owner_entry rows))
    → HasPairsOf d publics owners
has_pairs_of d pairs rows publics owners accepted is fit same tells_public tells_owner =
    let all : rows ≡ all_pairs d = same ∙ is in
    let fits = recursion_from_All (λ (p : Pair). p.owner.own < 2 ^ 32) (all_pairs d) (subst (λ (ps : List Pair). All (λ (p : Pair). p.owner.own < 2 ^ 32) ps) is fit) in
    let owner_is : ((x : ℕ) → value_at x owners ≡ option_map (λ p. p.owner) (find (λ p. p.public == x) (all_pairs d))) =
    λ x. tells_owner x ∙ ap (λ (ps : List Pair). value_at x (map owner_entry ps)) all ∙ value-owner x (all_pairs d) in
    record {
      public = λ v own lies below.
          tells_public (key_of v.0 own) ∙ ap (λ (ps : List Pair). value_at (key_of v.0 own) (map public_entry ps)) all ∙ value-public (key_of v.0 own) (all_pairs d)
          ∙ public-of d v own d.interfaces below (agree-all d v accepted lies) fits;
      owner = λ x.
          ap (λ (o : Option Owner). option_map (λ (w : VpcNo × ℕ). w.0) (option_map (λ (w : Owner). (w.vpc, w.own)) o)) (owner_is x)
          ∙ option_map-map (λ (w : VpcNo × ℕ). w.0) (λ (w : Owner). (w.vpc, w.own)) (option_map (λ (p : Pair). p.owner) (find (λ p. p.public == x) (all_pairs d)))
          ∙ option_map-map (λ (w : Owner). w.vpc) (λ (p : Pair). p.owner) (find (λ p. p.public == x) (all_pairs d))
          ∙ owner-of d x d.interfaces;
      own = λ x. own-of d x (find (λ q. q.public == x) (all_pairs d)) (value_at x owners) accepted refl (owner_is x);
    }

-- A public address belongs to one VPC.
use Rattle.std.proofs.Common.{◌≡◌, ◌∙◌, ◌++◌, ◌==◌, ◌∷◌, [], ℕ, Contains, List, None, Option, Some, ap, false, find, inl, inr, map, option_map, refl, subst, sym, true}
use Rattle.std.specs.List.{IsDistinct, AllByRecursion, filter, filter_map, flat_map}
use Rattle.std.proofs.lemmas.Bool.{eq-eqb, eqb-true, false≢true}
use Rattle.vpc_base.proofs.Members.{Contains-cases, Contains-flat_map, Contains-map, Contains-none, filter-member, find-member, flat_map-member, member-list_any}
use Rattle.vpc_laws.proofs.Accepting.{accepted_has_nothing_twice}
use Rattle.vpc_laws.proofs.Books.{find-none}
use Rattle.vpc_laws.specs.Types.{Description, Interface, VpcNo}
use Rattle.vpc_model.specs.Accepted.{IsAccepted}
use Rattle.vpc_model.specs.Internet.{owned_by, owner_of, pair_of, pairs_of, private_of}
use Rattle.vpc_model.specs.Lookup.{is_in_vpc, vpc_no, vpc_of_interface}

-- ---- members of a list with distinct keys

all-of-map : {X : Type 0} (key : X → ℕ) (k : ℕ) (xs : List X) (y : X) → AllByRecursion (λ m. (k == m) ≡ false) (map key xs) → Contains xs y → (k == key y) ≡ false
all-of-map key k [] y all has = absurd (Contains-none y has)
all-of-map key k (x ∷ xs) y all has =
    elim (Contains-cases x y xs has) [ inl same ↦ subst (λ z. (k == key z) ≡ false) same all.0 | inr later ↦ all-of-map key k xs y all.1 later ]

-- two members with one key are the same
one-of-key : {X : Type 0} (key : X → ℕ) (xs : List X) (a b : X) → IsDistinct (λ m n. m == n) (map key xs) → Contains xs a → Contains xs b → key a ≡ key b → a ≡ b
unfolding IsDistinct
one-of-key key [] a b distinct has_a has_b same = absurd (Contains-none a has_a)
one-of-key key (x ∷ xs) a b distinct has_a has_b same =
    elim (Contains-cases x a xs has_a) [
      | inl is_a ↦ elim (Contains-cases x b xs has_b) [
        | inl is_b ↦ sym is_a ∙ is_b
        | inr later_b ↦ absurd (false≢true (sym (all-of-map key (key x) xs b distinct.0 later_b) ∙ eq-eqb (key x) (key b) (ap key is_a ∙ same)))
      ]
      | inr later_a ↦ elim (Contains-cases x b xs has_b) [
        | inl is_b ↦ absurd (false≢true (sym (all-of-map key (key x) xs a distinct.0 later_a) ∙ eq-eqb (key x) (key a) (ap key is_b ∙ sym same)))
        | inr later_b ↦ one-of-key key xs a b distinct.1 later_a later_b same
      ]
    ]

-- ---- the owners of public addresses

map-public : (v : VpcNo) (xs : List (ℕ × Option ℕ)) → map (λ (o : VpcNo × ℕ). o.1) (map (λ (p : ℕ × ℕ). (v, p.1)) (filter_map pair_of xs)) ≡ filter_map (λ x. x.1) xs
map-public v [] = refl
map-public v ((own, None) ∷ xs) = map-public v xs
map-public v ((own, Some public) ∷ xs) = ap (λ (ys : List ℕ). public ∷ ys) (map-public v xs)

map-append : {X Y : Type 0} (f : X → Y) (xs ys : List X) → map f (xs ++ ys) ≡ map f xs ++ map f ys
map-append f [] ys = refl
map-append f (x ∷ xs) ys = ap (λ zs. f x ∷ zs) (map-append f xs ys)

publics-owned : (d : Description) (es : List Interface) → map (λ (o : VpcNo × ℕ). o.1) (flat_map (owned_by d) es) ≡ flat_map (λ (e : Interface). filter_map (λ (x : ℕ × Option ℕ). x.1) e.addresses) es
publics-owned d [] = refl
publics-owned d (e ∷ es) =
    map-append (λ (o : VpcNo × ℕ). o.1) (owned_by d e) (flat_map (owned_by d) es)
    ∙ ap (λ (l : List ℕ). l ++ map (λ (o : VpcNo × ℕ). o.1) (flat_map (owned_by d) es)) (map-public (vpc_no d (vpc_of_interface d e)) e.addresses)
    ∙ ap (λ (l : List ℕ). filter_map (λ (x : ℕ × Option ℕ). x.1) e.addresses ++ l) (publics-owned d es)

-- an interface says of which VPC it is
abbrev pub Agrees : Description → VpcNo → Type 0
Agrees d v = (e : Interface) → Contains d.interfaces e → is_in_vpc d v e ≡ ((vpc_no d (vpc_of_interface d e)).0 == v.0)

-- a private address of a VPC makes the VPC the owner
owned-if-private : (d : Description) (v : VpcNo) (public : ℕ) (p : ℕ × ℕ) (owner : Option (VpcNo × ℕ)) → IsAccepted d → Agrees d v → find (λ (q : ℕ × ℕ). q.1 == public) (flat_map pairs_of (filter (is_in_vpc d v) d.interfaces)) ≡ Some p
    → find (λ (o : VpcNo × ℕ). o.1 == public) (flat_map (owned_by d) d.interfaces) ≡ owner → (o : VpcNo × ℕ) × ((owner ≡ Some o) × (o.0.0 ≡ v.0))
owned-if-private d v public p owner accepted agrees found is =
    let here = find-member (λ (q : ℕ × ℕ). q.1 == public) (flat_map pairs_of (filter (is_in_vpc d v) d.interfaces)) p found in
    let from = flat_map-member pairs_of (filter (is_in_vpc d v) d.interfaces) p here.1 in
    let e = from.0 in
    let kept = filter-member (is_in_vpc d v) d.interfaces e from.1 in
    let mine : VpcNo × ℕ = (vpc_no d (vpc_of_interface d e), p.1) in
    let owned : Contains (flat_map (owned_by d) d.interfaces) mine = Contains-flat_map (owned_by d) d.interfaces e mine kept.1 (Contains-map (λ (q : ℕ × ℕ). (vpc_no d (vpc_of_interface d e), q.1)) (pairs_of e) p from.2) in
    let in_v : mine.0.0 ≡ v.0 = eqb-true mine.0.0 v.0 (sym (agrees e kept.1) ∙ kept.0) in
    by owner is mine owned here.0 in_v
  where
    by : (owner : Option (VpcNo × ℕ)) → find (λ (o : VpcNo × ℕ). o.1 == public) (flat_map (owned_by d) d.interfaces) ≡ owner → (mine : VpcNo × ℕ) → Contains (flat_map (owned_by d) d.interfaces) mine → (mine.1 == public) ≡ true → mine.0.0 ≡ v.0
        → (o : VpcNo × ℕ) × ((owner ≡ Some o) × (o.0.0 ≡ v.0))
    by None none mine owned key in_v =
        absurd (false≢true (sym (find-none (λ (o : VpcNo × ℕ). o.1 == public) (flat_map (owned_by d) d.interfaces) none) ∙ member-list_any (λ (o : VpcNo × ℕ). o.1 == public) (flat_map (owned_by d) d.interfaces) mine owned key))
    by (Some o) some mine owned key in_v =
        let first = find-member (λ (x : VpcNo × ℕ). x.1 == public) (flat_map (owned_by d) d.interfaces) o some in
        let distinct = subst (λ (l : List ℕ). IsDistinct (λ m n. m == n) l) (sym (publics-owned d d.interfaces)) (accepted_has_nothing_twice d accepted).publics in
        let same : o ≡ mine = one-of-key (λ (x : VpcNo × ℕ). x.1) (flat_map (owned_by d) d.interfaces) o mine distinct first.1 owned (eqb-true o.1 public first.0 ∙ sym (eqb-true mine.1 public key)) in
        (o, (refl, ap (λ (x : VpcNo × ℕ). x.0.0) same ∙ in_v))

-- an address that another VPC owns, or none, has no private one here
pub private_of-elsewhere : (d : Description) (v : VpcNo) (public : ℕ) → IsAccepted d → Agrees d v → ((w : VpcNo) → owner_of d public ≡ Some w → w.0 ≡ v.0 → ⊥) → private_of d v public ≡ None
private_of-elsewhere d v public accepted agrees other = by (find (λ (q : ℕ × ℕ). q.1 == public) (flat_map pairs_of (filter (is_in_vpc d v) d.interfaces))) refl
  where
    by : (o : Option (ℕ × ℕ)) → find (λ (q : ℕ × ℕ). q.1 == public) (flat_map pairs_of (filter (is_in_vpc d v) d.interfaces)) ≡ o → option_map (λ (p : ℕ × ℕ). p.0) o ≡ None
    by None e = refl
    by (Some p) e =
        let owned = owned-if-private d v public p (find (λ (o : VpcNo × ℕ). o.1 == public) (flat_map (owned_by d) d.interfaces)) accepted agrees e refl in
        absurd (other owned.0.0 (ap (option_map (λ (o : VpcNo × ℕ). o.0)) owned.1.0) owned.1.1)

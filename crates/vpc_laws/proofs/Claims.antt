-- No two interfaces of a VPC have one address, where no claim clashes with an earlier one.
use Rattle.std.proofs.Common.{◌≡◌, ◌∙◌, ◌&&◌, ◌||◌, ◌==◌, ◌∷◌, ◌++◌, [], Bool, List, None, Option, Some, append_assoc, arith, cond, false, inl, inr, leb, map, refl, subst, sym, true, ℕ}
use Rattle.std.specs.List.{AllByRecursion, IsDistinct, flat_map, list_any}
use Rattle.std.specs.Prelude.{nat_lt}
use Rattle.std.specs.Str.{bytes_eq}
use Rattle.std.proofs.lemmas.Bool.{and_from, and_parts, both_ways, eqb-true, false_from_ne_true, le-leb, leb-true, or_cases, or_parts}
use Rattle.std.proofs.lemmas.List.{append-nil}
use Rattle.std.proofs.lemmas.List.Folds.{list_any-append}
use Rattle.prefix_text.specs.Block.{holds, last_of}
use Rattle.vpc_base.proofs.Bytes.{bytes_self, same_bytes}
use Rattle.vpc_base.proofs.Members.{AllByRecursion-weaker, append-nothing}
use Rattle.vpc_laws.specs.Accepted.{both_have}
use Rattle.vpc_laws.specs.Types.{Block, Description, Interface, Refusal}
use Rattle.vpc_model.specs.Accepted.{Claim, address_claims, address_clashes, claims_of, clash_with, clashes_after, first_shared, interface_clashes, least_shared, lesser, meets, prefix_claims, repeats_after, same_address}
use Rattle.vpc_model.specs.Lookup.{has_address, is_assigned, vpc_of_interface}
use Rattle.vpc_model.specs.declared.refusals.Refusal.TheVariants as refusals

-- ---- claims that share no address

shared-none : (x : ℕ) (meeting : Bool) → cond meeting (Some x) None ≡ None → meeting ≡ false
shared-none x true e = absurd cc
shared-none x false e = refl

one-of-two : (less : Bool) (m n : ℕ) → cond less (Some n) (Some m) ≡ None → ⊥
one-of-two true m n e = cc
one-of-two false m n e = cc

lesser-none : (m n : Option ℕ) → lesser m n ≡ None → (m ≡ None) × (n ≡ None)
lesser-none None n e = (refl, e)
lesser-none (Some m) None e = absurd cc
lesser-none (Some m) (Some n) e = absurd (one-of-two (nat_lt n m) m n e)

least-none : (bs : List Claim) (c : Claim) → least_shared bs c ≡ None → list_any (λ (b : Claim). meets b c) bs ≡ false
least-none [] c none = refl
least-none (b ∷ bs) c none =
    let parts = lesser-none (first_shared b c) (least_shared bs c) none in
    let apart : meets b c ≡ false = shared-none _ (meets b c) parts.0 in
    rw (apart, least-none bs c parts.1) refl

abbrev told : List ℕ → Option ℕ → List Refusal
told vpc o = elim o [ None ↦ [] | Some a ↦ refusals.DuplicateAddress vpc a ∷ [] ]

untold : (vpc : List ℕ) (o : Option ℕ) → told vpc o ≡ [] → o ≡ None
untold vpc None e = refl
untold vpc (Some a) e = absurd cc

clash-none : (earlier : List Claim) (c : Claim) → clash_with earlier c ≡ [] → list_any (λ (b : Claim). meets b c) earlier ≡ false
clash-none earlier c none = least-none earlier c (untold c.vpc (least_shared earlier c) none)

-- ---- addresses that are assigned twice

-- one address alone
abbrev pub alone : List ℕ → ℕ → Claim
alone vpc a = record { vpc = vpc; first = a; last = a }

-- what the second list has is claimed by the first
Covers : List Claim → List (List ℕ × ℕ) → Type 0
Covers claims addresses = (vpc : List ℕ) (a : ℕ) → list_any (λ (b : Claim). meets b (alone vpc a)) claims ≡ false → list_any (same_address (vpc, a)) addresses ≡ false

not-covered : (claims : List Claim) (addresses : List (List ℕ × ℕ)) → Covers claims addresses → (vpc : List ℕ) (a : ℕ) → list_any (λ (b : Claim). meets b (alone vpc a)) claims ≡ false
    → list_any (same_address (vpc, a)) addresses ≡ false
unfolding Covers
not-covered claims addresses covers vpc a none = covers vpc a none

nothing-covers : Covers [] []
unfolding Covers
nothing-covers vpc a none = refl

covers-more : (claims more : List Claim) (addresses : List (List ℕ × ℕ)) → Covers claims addresses → Covers (claims ++ more) addresses
unfolding Covers
covers-more claims more addresses covers vpc a none =
    covers vpc a (or_parts (list_any (λ (b : Claim). meets b (alone vpc a)) claims) (list_any (λ (b : Claim). meets b (alone vpc a)) more)
    (sym (list_any-append (λ (b : Claim). meets b (alone vpc a)) claims more) ∙ none)).0

alone-apart : (v w : List ℕ) (a b : ℕ) → meets (alone w b) (alone v a) ≡ false → same_address (v, a) (w, b) ≡ false
alone-apart v w a b apart =
    false_from_ne_true (same_address (v, a) (w, b))
    (λ same.
    let parts = and_parts (bytes_eq v w) (a == b) same in
    let vpcs = same_bytes v w parts.0 in
    let numbers = eqb-true a b parts.1 in
    both_ways (meets (alone w b) (alone v a)) apart
    (and_from (bytes_eq w v) (leb b a && leb a b) (subst (λ (x : List ℕ). bytes_eq w x ≡ true) (sym vpcs) (bytes_self w))
    (and_from (leb b a) (leb a b) (le-leb b a (omega arith)) (le-leb a b (omega arith)))))

covers-one : (claims : List Claim) (addresses : List (List ℕ × ℕ)) (w : List ℕ) (b : ℕ) → Covers claims addresses → Covers (claims ++ alone w b ∷ []) (addresses ++ (w, b) ∷ [])
unfolding Covers
covers-one claims addresses w b covers vpc a none =
    let test : Claim → Bool = λ c. meets c (alone vpc a) in
    let parts = or_parts (list_any test claims) (test (alone w b) || false) (sym (list_any-append test claims (alone w b ∷ [])) ∙ none) in
    let apart = alone-apart vpc w a b (or_parts (test (alone w b)) false parts.1).0 in
    let before = covers vpc a parts.0 in
    list_any-append (same_address (vpc, a)) addresses ((w, b) ∷ []) ∙ rw (before, apart) refl

abbrev own : List ℕ → List (ℕ × Option ℕ) → List (List ℕ × ℕ)
own vpc xs = map (λ (x : ℕ × Option ℕ). (vpc, x.0)) xs

abbrev own_claims : List ℕ → List (ℕ × Option ℕ) → List Claim
own_claims vpc xs = map (λ (x : ℕ × Option ℕ). alone vpc x.0) xs

-- the addresses of an interface, and what comes after them
row-once : (vpc : List ℕ) (xs : List (ℕ × Option ℕ)) (earlier : List Claim) (E rest : List (List ℕ × ℕ)) → Covers earlier E → address_clashes earlier (own_claims vpc xs) ≡ []
    → (Covers (earlier ++ own_claims vpc xs) (E ++ own vpc xs) → repeats_after same_address (E ++ own vpc xs) rest ≡ [])
    → repeats_after same_address E (own vpc xs ++ rest) ≡ []
row-once vpc [] earlier E rest covers none after =
    let covered : Covers (earlier ++ []) (E ++ []) =
    subst (λ (c : List Claim). Covers c (E ++ [])) (sym (append-nil earlier)) (subst (λ (e : List (List ℕ × ℕ)). Covers earlier e) (sym (append-nil E)) covers) in
    subst (λ (e : List (List ℕ × ℕ)). repeats_after same_address e rest ≡ []) (append-nil E) (after covered)
row-once vpc (x ∷ xs) earlier E rest covers none after =
    let c = alone vpc x.0 in
    let key : List ℕ × ℕ = (vpc, x.0) in
    let parts = append-nothing (clash_with earlier c) (address_clashes (earlier ++ c ∷ []) (own_claims vpc xs)) none in
    let new : list_any (same_address key) E ≡ false = not-covered earlier E covers vpc x.0 (clash-none earlier c parts.0) in
    let later : repeats_after same_address (E ++ key ∷ []) (own vpc xs ++ rest) ≡ [] =
    row-once vpc xs (earlier ++ c ∷ []) (E ++ key ∷ []) rest (covers-one earlier E vpc x.0 covers) parts.1
    (λ covered. subst (λ (e : List (List ℕ × ℕ)). repeats_after same_address e rest ≡ []) (sym (append_assoc E (key ∷ []) (own vpc xs)))
    (after (subst (λ (l : List Claim). Covers l (E ++ key ∷ own vpc xs)) (append_assoc earlier (c ∷ []) (own_claims vpc xs))
    (subst (λ (e : List (List ℕ × ℕ)). Covers ((earlier ++ c ∷ []) ++ own_claims vpc xs) e) (append_assoc E (key ∷ []) (own vpc xs)) covered)))) in
    rw new later

-- ---- interfaces that have one address

or-later : (p q : Bool) → q ≡ true → (p || q) ≡ true
or-later true q e = refl
or-later false q e = e

-- an interface's claims have its addresses
claimed-address : (vpc : List ℕ) (a : ℕ) (xs : List (ℕ × Option ℕ)) → list_any (λ (x : ℕ × Option ℕ). x.0 == a) xs ≡ true
    → list_any (λ (c : Claim). meets c (alone vpc a)) (map (λ (x : ℕ × Option ℕ). alone vpc x.0) xs) ≡ true
claimed-address vpc a [] has = absurd (both_ways false refl has)
claimed-address vpc a (x ∷ xs) has =
    let test : Claim → Bool = λ c. meets c (alone vpc a) in
    elim (or_cases (x.0 == a) (list_any (λ (y : ℕ × Option ℕ). y.0 == a) xs) has) [
      | inl here ↦
          let same = eqb-true x.0 a here in
          let met : test (alone vpc x.0) ≡ true = and_from (bytes_eq vpc vpc) (leb x.0 a && leb a x.0) (bytes_self vpc)
          (and_from (leb x.0 a) (leb a x.0) (le-leb x.0 a (omega arith)) (le-leb a x.0 (omega arith))) in
          rw met refl
      | inr later ↦ or-later (test (alone vpc x.0)) (list_any test (map (λ (y : ℕ × Option ℕ). alone vpc y.0) xs)) (claimed-address vpc a xs later)
    ]

claimed-block : (vpc : List ℕ) (a : ℕ) (bs : List Block) → list_any (holds a) bs ≡ true
    → list_any (λ (c : Claim). meets c (alone vpc a)) (map (λ (b : Block). record { vpc = vpc; first = b.first; last = last_of b }) bs) ≡ true
claimed-block vpc a [] has = absurd (both_ways false refl has)
claimed-block vpc a (b ∷ bs) has =
    let test : Claim → Bool = λ c. meets c (alone vpc a) in
    let claim : Block → Claim = λ x. record { vpc = vpc; first = x.first; last = last_of x } in
    elim (or_cases (holds a b) (list_any (holds a) bs) has) [
      | inl here ↦ let met : test (claim b) ≡ true = and_from (bytes_eq vpc vpc) (holds a b) (bytes_self vpc) here in rw met refl
      | inr later ↦ or-later (test (claim b)) (list_any test (map claim bs)) (claimed-block vpc a bs later)
    ]

claimed : (d : Description) (e : Interface) (a : ℕ) → has_address e a ≡ true → list_any (λ (c : Claim). meets c (alone (vpc_of_interface d e) a)) (claims_of d e) ≡ true
claimed d e a has =
    let vpc = vpc_of_interface d e in
    let test : Claim → Bool = λ c. meets c (alone vpc a) in
    list_any-append test (address_claims d e) (prefix_claims d e)
    ∙ elim (or_cases (is_assigned e a) (list_any (holds a) e.prefixes) has) [
      | inl assigned ↦ let is = claimed-address vpc a e.addresses assigned in rw is refl
      | inr delegated ↦ or-later (list_any test (address_claims d e)) (list_any test (prefix_claims d e)) (claimed-block vpc a e.prefixes delegated)
    ]

-- two claims of one address meet
both-meet : (b c : Claim) (vpc : List ℕ) (a : ℕ) → meets b (alone vpc a) ≡ true → meets c (alone vpc a) ≡ true → meets b c ≡ true
both-meet b c vpc a one other =
    let x = and_parts (bytes_eq b.vpc vpc) (leb b.first a && leb a b.last) one in
    let y = and_parts (bytes_eq c.vpc vpc) (leb c.first a && leb a c.last) other in
    let p = and_parts (leb b.first a) (leb a b.last) x.1 in
    let q = and_parts (leb c.first a) (leb a c.last) y.1 in
    let low = leb-true b.first a p.0 in
    let high = leb-true a b.last p.1 in
    let from = leb-true c.first a q.0 in
    let to = leb-true a c.last q.1 in
    let here : b.vpc ≡ c.vpc = same_bytes b.vpc vpc x.0 ∙ sym (same_bytes c.vpc vpc y.0) in
    and_from (bytes_eq b.vpc c.vpc) (leb b.first c.last && leb c.first b.last) (subst (λ (v : List ℕ). bytes_eq b.vpc v ≡ true) here (bytes_self b.vpc))
    (and_from (leb b.first c.last) (leb c.first b.last) (le-leb b.first c.last (omega arith)) (le-leb c.first b.last (omega arith)))

-- where none of some claims meets any of others, no address is claimed by both
unclaimed : (earlier : List Claim) (c : Claim) (vpc : List ℕ) (a : ℕ) → list_any (λ (b : Claim). meets b c) earlier ≡ false → meets c (alone vpc a) ≡ true
    → list_any (λ (b : Claim). meets b (alone vpc a)) earlier ≡ false
unclaimed [] c vpc a apart has = refl
unclaimed (b ∷ bs) c vpc a apart has =
    let parts = or_parts (meets b c) (list_any (λ (x : Claim). meets x c) bs) apart in
    let here : meets b (alone vpc a) ≡ false = false_from_ne_true (meets b (alone vpc a)) (λ met. both_ways (meets b c) parts.0 (both-meet b c vpc a met has)) in
    rw (here, unclaimed bs c vpc a parts.1 has) refl

addresses-clear : (cs earlier : List Claim) (vpc : List ℕ) (a : ℕ) → address_clashes earlier cs ≡ [] → list_any (λ (c : Claim). meets c (alone vpc a)) cs ≡ true
    → list_any (λ (b : Claim). meets b (alone vpc a)) earlier ≡ false
addresses-clear [] earlier vpc a none has = absurd (both_ways false refl has)
addresses-clear (c ∷ cs) earlier vpc a none has =
    let test : Claim → Bool = λ b. meets b (alone vpc a) in
    let parts = append-nothing (clash_with earlier c) (address_clashes (earlier ++ c ∷ []) cs) none in
    elim (or_cases (test c) (list_any test cs) has) [
      | inl here ↦ unclaimed earlier c vpc a (clash-none earlier c parts.0) here
      | inr later ↦ (or_parts (list_any test earlier) (test c || false)
          (sym (list_any-append test earlier (c ∷ [])) ∙ addresses-clear cs (earlier ++ c ∷ []) vpc a parts.1 later)).0
    ]

blocks-clear : (cs earlier : List Claim) (vpc : List ℕ) (a : ℕ) → flat_map (clash_with earlier) cs ≡ [] → list_any (λ (c : Claim). meets c (alone vpc a)) cs ≡ true
    → list_any (λ (b : Claim). meets b (alone vpc a)) earlier ≡ false
blocks-clear [] earlier vpc a none has = absurd (both_ways false refl has)
blocks-clear (c ∷ cs) earlier vpc a none has =
    let test : Claim → Bool = λ b. meets b (alone vpc a) in
    let parts = append-nothing (clash_with earlier c) (flat_map (clash_with earlier) cs) none in
    elim (or_cases (test c) (list_any test cs) has) [
      | inl here ↦ unclaimed earlier c vpc a (clash-none earlier c parts.0) here
      | inr later ↦ blocks-clear cs earlier vpc a parts.1 later
    ]

-- what an interface without clashes claims isn't claimed before it
interface-clear : (d : Description) (earlier : List Claim) (e : Interface) (vpc : List ℕ) (a : ℕ) → interface_clashes d earlier e ≡ []
    → list_any (λ (c : Claim). meets c (alone vpc a)) (claims_of d e) ≡ true → list_any (λ (b : Claim). meets b (alone vpc a)) earlier ≡ false
interface-clear d earlier e vpc a none has =
    let test : Claim → Bool = λ b. meets b (alone vpc a) in
    let parts = append-nothing (address_clashes earlier (address_claims d e)) (flat_map (clash_with earlier) (prefix_claims d e)) none in
    elim (or_cases (list_any test (address_claims d e)) (list_any test (prefix_claims d e)) (sym (list_any-append test (address_claims d e) (prefix_claims d e)) ∙ has)) [
      | inl assigned ↦ addresses-clear (address_claims d e) earlier vpc a parts.0 assigned
      | inr delegated ↦ blocks-clear (prefix_claims d e) earlier vpc a parts.1 delegated
    ]

-- the interface has the address, where none of the claims has it in its VPC
abbrev IsNew : Description → List Claim → ℕ → Interface → Type 0
IsNew d earlier a e = has_address e a ≡ true → list_any (λ (b : Claim). meets b (alone (vpc_of_interface d e) a)) earlier ≡ false

new-apart : (d : Description) (earlier : List Claim) (a : ℕ) (e o : Interface) → IsNew d (earlier ++ claims_of d e) a o → both_have d a e o ≡ false
new-apart d earlier a e o new =
    let v = vpc_of_interface d e in
    let w = vpc_of_interface d o in
    false_from_ne_true (both_have d a e o)
    (λ both.
    let parts = and_parts (bytes_eq v w) (has_address e a && has_address o a) both in
    let have = and_parts (has_address e a) (has_address o a) parts.1 in
    let test : Claim → Bool = λ c. meets c (alone w a) in
    let none = or_parts (list_any test earlier) (list_any test (claims_of d e)) (sym (list_any-append test earlier (claims_of d e)) ∙ new have.1) in
    both_ways (list_any test (claims_of d e)) none.1
    (subst (λ (x : List ℕ). list_any (λ (c : Claim). meets c (alone x a)) (claims_of d e) ≡ true) (same_bytes v w parts.0) (claimed d e a have.0)))

still-new : (d : Description) (earlier : List Claim) (a : ℕ) (e o : Interface) → IsNew d (earlier ++ claims_of d e) a o → IsNew d earlier a o
still-new d earlier a e o new has =
    let test : Claim → Bool = λ c. meets c (alone (vpc_of_interface d o) a) in
    (or_parts (list_any test earlier) (list_any test (claims_of d e)) (sym (list_any-append test earlier (claims_of d e)) ∙ new has)).0

apart-after : (d : Description) (a : ℕ) (earlier : List Claim) (es : List Interface) → clashes_after d earlier es ≡ []
    → AllByRecursion (IsNew d earlier a) es × IsDistinct (both_have d a) es
unfolding IsDistinct
apart-after d a earlier [] none = (tt, tt)
apart-after d a earlier (e ∷ es) none =
    let parts = append-nothing (interface_clashes d earlier e) (clashes_after d (earlier ++ claims_of d e) es) none in
    let rest = apart-after d a (earlier ++ claims_of d e) es parts.1 in (
      (
        (λ has. interface-clear d earlier e (vpc_of_interface d e) a parts.0 (claimed d e a has)),
        AllByRecursion-weaker (IsNew d (earlier ++ claims_of d e) a) (IsNew d earlier a) (still-new d earlier a e) es rest.0,
      ),
      (AllByRecursion-weaker (IsNew d (earlier ++ claims_of d e) a) (λ o. both_have d a e o ≡ false) (new-apart d earlier a e) es rest.0, rest.1),
    )

-- no two interfaces of a VPC have one address
pub apart : (d : Description) (a : ℕ) → clashes_after d [] d.interfaces ≡ [] → IsDistinct (both_have d a) d.interfaces
apart d a none = (apart-after d a [] d.interfaces none).1

rows-once : (d : Description) (es : List Interface) (earlier : List Claim) (E : List (List ℕ × ℕ)) → Covers earlier E → clashes_after d earlier es ≡ []
    → repeats_after same_address E (flat_map (λ (e : Interface). map (λ (x : ℕ × Option ℕ). (vpc_of_interface d e, x.0)) e.addresses) es) ≡ []
rows-once d [] earlier E covers none = refl
rows-once d (e ∷ es) earlier E covers none =
    let vpc = vpc_of_interface d e in
    let keys : Interface → List (List ℕ × ℕ) = λ i. map (λ (x : ℕ × Option ℕ). (vpc_of_interface d i, x.0)) i.addresses in
    let parts = append-nothing (interface_clashes d earlier e) (clashes_after d (earlier ++ claims_of d e) es) none in
    let own_parts = append-nothing (address_clashes earlier (address_claims d e)) (flat_map (clash_with earlier) (prefix_claims d e)) parts.0 in
    row-once vpc e.addresses earlier E (flat_map keys es) covers own_parts.0
    (λ covered. rows-once d es (earlier ++ claims_of d e) (E ++ keys e)
    (subst (λ (l : List Claim). Covers l (E ++ keys e)) (append_assoc earlier (address_claims d e) (prefix_claims d e))
    (covers-more (earlier ++ address_claims d e) (prefix_claims d e) (E ++ keys e) covered)) parts.1)

-- no address is assigned twice in a VPC
pub assigned-once : (d : Description) → clashes_after d [] d.interfaces ≡ []
    → repeats_after same_address [] (flat_map (λ (e : Interface). map (λ (x : ℕ × Option ℕ). (vpc_of_interface d e, x.0)) e.addresses) d.interfaces) ≡ []
assigned-once d none = rows-once d d.interfaces [] [] nothing-covers none

-- Claims of one address each, where no interface has a delegated block.
use Rattle.std.proofs.Common.{◌≡◌, ◌∙◌, ◌++◌, ◌==◌, ◌&&◌, ◌||◌, ◌∷◌, [], ℕ, Bool, List, None, Option, Some, ap, arith, bytes_eq, cond, false, flat_map, length, map, nat_le, nat_lt, refl, sym, true}
use Rattle.std.specs.List.{list_any}
use Rattle.std.proofs.lemmas.Bool.{and_parts, ltb-false, or_parts}
use Rattle.std.proofs.lemmas.Bool.Decides.{nat_tests}
use Rattle.std.proofs.lemmas.List.{append-nil, map-append, nil_from_length}
use Rattle.vpc_base.proofs.Bytes.{bytes_eq-comm}
use Rattle.vpc_base.proofs.Numbers.{eqb-comm}
use Rattle.vpc_base.proofs.Tests.{list_any_map}
use Rattle.prefix_text.specs.Block.{last_of}
use Rattle.vpc_model.specs.Accepted.{Claim, address_claims, address_clashes, claims_of, clash_with, clashes_after, duplicate_addresses, first_shared, interface_clashes, least_shared, lesser, private_addresses, repeats, repeats_after, same_address}
use Rattle.vpc_model.specs.Lookup.{vpc_of_interface}
use Rattle.vpc_model.specs.declared.refusals.Refusal.{Refusal}
use Rattle.vpc_model.specs.declared.refusals.Refusal.TheVariants as refusals
use Rattle.vpc_model.specs.declared.rows.Description.{Description}
use Rattle.vpc_model.specs.declared.rows.Interface.{Interface}
use Rattle.reference_check.specs.Claimed.{alone, has_prefixes, is_claimed, is_of}
use Rattle.reference_check.specs.Keys.{addresses_of, twice}
use Rattle.reference_check.proofs.Repeats.{repeats_after-append}

-- ---- what an address shares with claims

least-alone : (bs : List Claim) (vpc : List ℕ) (a : ℕ) → least_shared bs (alone (vpc, a)) ≡ cond (is_claimed vpc a bs) (Some a) None
least-alone [] vpc a = refl
least-alone (b ∷ bs) vpc a = ap (lesser (first_shared b (alone (vpc, a)))) (least-alone bs vpc a) ∙ by (is_of vpc a b) refl (is_claimed vpc a bs)
  where
    both : (t q : Bool) → nat_le b.first a ≡ t → t ≡ true → lesser (Some (cond (nat_le b.first a) a b.first)) (cond q (Some a) None) ≡ Some a
    both true true e h = rw e (same (nat_lt a a))
      where
        same : (u : Bool) → cond u (Some a) (Some a) ≡ Some a
        same true = refl
        same false = refl
    both true false e h = rw e refl
    both false q e h = absurd cc

    by : (t : Bool) → is_of vpc a b ≡ t → (q : Bool) → lesser (cond (is_of vpc a b) (Some (cond (nat_le b.first a) a b.first)) None) (cond q (Some a) None) ≡ cond (is_of vpc a b || q) (Some a) None
    by true h q =
        let parts = and_parts (nat_le b.first a) (nat_le a b.last) (and_parts (bytes_eq b.vpc vpc) (nat_le b.first a && nat_le a b.last) h).1 in
        rw h (both (nat_le b.first a) q refl parts.0)
    by false h q = rw h refl

-- it is told where they have it
pub clash-alone : (bs : List Claim) (p : List ℕ × ℕ) → clash_with bs (alone p) ≡ cond (is_claimed p.0 p.1 bs) (twice p ∷ []) []
clash-alone bs p =
    ap (λ (o : Option ℕ). elim o as (λ (x : Option ℕ). List Refusal) [ None ↦ [] | Some a ↦ refusals.DuplicateAddress p.0 a ∷ [] ]) (least-alone bs p.0 p.1)
    ∙ by (is_claimed p.0 p.1 bs)
  where
    by : (t : Bool) → elim (cond t (Some p.1) None) as (λ (x : Option ℕ). List Refusal) [ None ↦ [] | Some a ↦ refusals.DuplicateAddress p.0 a ∷ [] ] ≡ cond t (twice p ∷ []) []
    by true = refl
    by false = refl

one_address : (n a : ℕ) → (nat_le n a && nat_le a n) ≡ (n == a)
one_address n a = grind (arith, nat_tests)

-- an address is claimed by others where it stands among them
pub claimed-alone : (vpc : List ℕ) (a : ℕ) (ps : List (List ℕ × ℕ)) → is_claimed vpc a (map alone ps) ≡ list_any (same_address (vpc, a)) ps
claimed-alone vpc a ps =
    list_any_map alone (is_of vpc a) (same_address (vpc, a))
    (λ x. ap (λ b. b && (nat_le x.1 a && nat_le a x.1)) (bytes_eq-comm x.0 vpc) ∙ ap (λ b. bytes_eq vpc x.0 && b) (one_address x.1 a ∙ eqb-comm x.1 a)) ps

-- ---- where no interface has a prefix

addresses-alone : (ps qs : List (List ℕ × ℕ)) → address_clashes (map alone ps) (map alone qs) ≡ map twice (repeats_after same_address ps qs)
addresses-alone ps [] = refl
addresses-alone ps (q ∷ qs) =
    let more : map alone ps ++ alone q ∷ [] ≡ map alone (ps ++ q ∷ []) = sym (map-append alone ps (q ∷ [])) in
    ap (λ (cs : List Refusal). cs ++ address_clashes (map alone ps ++ alone q ∷ []) (map alone qs)) (clash-alone (map alone ps) q ∙ ap (λ b. cond b (twice q ∷ []) []) (claimed-alone q.0 q.1 ps))
    ∙ ap (λ (cs : List Claim). cond (list_any (same_address q) ps) (twice q ∷ []) [] ++ address_clashes cs (map alone qs)) more
    ∙ ap (λ (cs : List Refusal). cond (list_any (same_address q) ps) (twice q ∷ []) [] ++ cs) (addresses-alone (ps ++ q ∷ []) qs)
    ∙ by (list_any (same_address q) ps) (repeats_after same_address (ps ++ q ∷ []) qs)
  where
    by : (b : Bool) (rest : List (List ℕ × ℕ)) → cond b (twice q ∷ []) [] ++ map twice rest ≡ map twice (cond b (q ∷ rest) rest)
    by true rest = refl
    by false rest = refl

own-alone : (d : Description) (e : Interface) → address_claims d e ≡ map alone (addresses_of d e)
own-alone d e = by e.addresses
  where
    by : (xs : List (ℕ × Option ℕ)) → map (λ x. record { vpc = vpc_of_interface d e; first = x.0; last = x.0 }) xs ≡ map alone (map (λ x. (vpc_of_interface d e, x.0)) xs)
    by [] = refl
    by (x ∷ xs) = ap (λ (cs : List Claim). record { vpc = vpc_of_interface d e; first = x.0; last = x.0 } ∷ cs) (by xs)

interface-alone : (d : Description) (ps : List (List ℕ × ℕ)) (e : Interface) → e.prefixes ≡ [] → interface_clashes d (map alone ps) e ≡ map twice (repeats_after same_address ps (addresses_of d e))
interface-alone d ps e none =
    ap (λ bs. address_clashes (map alone ps) (address_claims d e) ++ flat_map (clash_with (map alone ps)) (map (λ b. record { vpc = vpc_of_interface d e; first = b.first; last = last_of b }) bs)) none
    ∙ append-nil (address_clashes (map alone ps) (address_claims d e))
    ∙ ap (address_clashes (map alone ps)) (own-alone d e)
    ∙ addresses-alone ps (addresses_of d e)

claims-alone : (d : Description) (ps : List (List ℕ × ℕ)) (e : Interface) → e.prefixes ≡ [] → map alone ps ++ claims_of d e ≡ map alone (ps ++ addresses_of d e)
claims-alone d ps e none =
    ap (λ bs. map alone ps ++ (address_claims d e ++ map (λ b. record { vpc = vpc_of_interface d e; first = b.first; last = last_of b }) bs)) none
    ∙ ap (λ (cs : List Claim). map alone ps ++ cs) (append-nil (address_claims d e) ∙ own-alone d e)
    ∙ sym (map-append alone ps (addresses_of d e))

none-of : (e : Interface) → nat_lt 0 (length e.prefixes) ≡ false → e.prefixes ≡ []
none-of e h = let most = ltb-false 0 (length e.prefixes) h in nil_from_length e.prefixes (omega arith)

clashes-alone : (d : Description) (ps : List (List ℕ × ℕ)) (es : List Interface) → list_any (λ e. nat_lt 0 (length e.prefixes)) es ≡ false
    → clashes_after d (map alone ps) es ≡ map twice (repeats_after same_address ps (flat_map (addresses_of d) es))
clashes-alone d ps [] none = refl
clashes-alone d ps (e ∷ es) none =
    let parts = or_parts (nat_lt 0 (length e.prefixes)) (list_any (λ x. nat_lt 0 (length x.prefixes)) es) none in
    let empty = none-of e parts.0 in
    ap (λ (cs : List Refusal). cs ++ clashes_after d (map alone ps ++ claims_of d e) es) (interface-alone d ps e empty)
    ∙ ap (λ (cs : List Claim). map twice (repeats_after same_address ps (addresses_of d e)) ++ clashes_after d cs es) (claims-alone d ps e empty)
    ∙ ap (λ (cs : List Refusal). map twice (repeats_after same_address ps (addresses_of d e)) ++ cs) (clashes-alone d (ps ++ addresses_of d e) es parts.1)
    ∙ sym (map-append twice (repeats_after same_address ps (addresses_of d e)) (repeats_after same_address (ps ++ addresses_of d e) (flat_map (addresses_of d) es)))
    ∙ ap (map twice) (sym (repeats_after-append same_address ps (addresses_of d e) (flat_map (addresses_of d) es)))

-- the assigned addresses that stand twice are all that is claimed twice
pub assigned-alone : (d : Description) → has_prefixes d ≡ false → duplicate_addresses d ≡ map twice (repeats same_address (private_addresses d))
assigned-alone d none = clashes-alone d [] d.interfaces none

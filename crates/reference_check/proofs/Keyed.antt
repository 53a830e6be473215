-- Addresses and their keys.
use Rattle.std.proofs.Common.{Err, IfOk, IsTrue, Ok, Option, Result, Some, append_assoc, drop, not, take, ◌*◌, ◌+◌, ◌++◌, ◌<◌, ◌==◌, ◌≡◌, ◌∙◌, ◌∷◌, ◌^◌, [], ◌&&◌, ◌||◌, Bool, List, ap, arith, bytes_eq, cond, false, get_or, length, map, refl, sym, true, ℕ}
use Rattle.std.specs.List.{list_any, position_or_len}
use Rattle.std.proofs.lemmas.Bool.Decides.{nat_tests}
use Rattle.std.proofs.lemmas.Grind.{take_at_read}
use Rattle.std.proofs.lemmas.List.{drop_more, map-append}
use Rattle.std.proofs.lemmas.List.Sums.{passes_at_first}
use Rattle.std.proofs.lemmas.Slice.Eq.{bytes_eq-Decides}
use Rattle.vpc_base.proofs.Positions.{list_any-position}
use Rattle.vpc_model.specs.Accepted.{first_cause, repeats_after, same_address}
use Rattle.vpc_model.specs.Lookup.{has_vpc, no_vpc}
use Rattle.vpc_model.specs.declared.rows.Description.{Description}
use Rattle.vpc_model.specs.declared.rows.Vpc.{Vpc}
use Rattle.reference_check.specs.Keys.{AreKeys, AreKnown, addresses_in, key_of, twice}

-- ids that are found at one number are one id
pub same_id : (vpcs : List Vpc) (a b : List ℕ) → list_any (λ v. bytes_eq v.id a) vpcs ≡ true → list_any (λ v. bytes_eq v.id b) vpcs ≡ true → position_or_len (λ v. bytes_eq v.id a) vpcs ≡ position_or_len (λ v. bytes_eq v.id b) vpcs → a ≡ b
same_id vpcs a b ha hb e =
    let within_a : position_or_len (λ v. bytes_eq v.id a) vpcs < length vpcs = within (λ v. bytes_eq v.id a) ha in
    let within_b : position_or_len (λ v. bytes_eq v.id b) vpcs < length vpcs = within (λ v. bytes_eq v.id b) hb in
    let row_a = get_or vpcs (position_or_len (λ v. bytes_eq v.id a) vpcs) no_vpc in
    let row_b = get_or vpcs (position_or_len (λ v. bytes_eq v.id b) vpcs) no_vpc in
    let is_a : row_a.id ≡ a = (bytes_eq-Decides row_a.id a).0 (passes_at_first (λ v. bytes_eq v.id a) vpcs no_vpc within_a) in
    let is_b : row_b.id ≡ b = (bytes_eq-Decides row_b.id b).0 (passes_at_first (λ v. bytes_eq v.id b) vpcs no_vpc within_b) in
    sym is_a ∙ ap (λ n. (get_or vpcs n no_vpc).id) e ∙ is_b
  where
    within : (p : Vpc → Bool) → list_any p vpcs ≡ true → position_or_len p vpcs < length vpcs
    within p h =
        let found = sym (list_any-position p vpcs) ∙ h in
        grind (arith, nat_tests)

split-key : (n m a b : ℕ) → a < 2 ^ 32 → b < 2 ^ 32 → n * 4294967296 + a ≡ m * 4294967296 + b → (n ≡ m) × (a ≡ b)
split-key n m a b la lb e = (omega arith, omega arith)

-- two keys are equal where the addresses are the same
pub same_key : (d : Description) (a b : List ℕ × ℕ) → has_vpc d a.0 ≡ true → a.1 < 2 ^ 32 → has_vpc d b.0 ≡ true → b.1 < 2 ^ 32 → (key_of d a == key_of d b) ≡ same_address a b
same_key d a b ha la hb lb = by (key_of d a == key_of d b) (bytes_eq a.0 b.0) (a.1 == b.1) refl refl refl
  where
    equal : (m n : ℕ) → (m == n) ≡ true → m ≡ n
    equal m n h = grind (arith, nat_tests)

    equals : (m n : ℕ) → m ≡ n → (m == n) ≡ true
    equals m n h = grind (arith, nat_tests)

    by : (x y z : Bool) → (key_of d a == key_of d b) ≡ x → bytes_eq a.0 b.0 ≡ y → (a.1 == b.1) ≡ z → x ≡ (y && z)
    by true true true e f g = refl
    by true true false e f g =
        let parts = split-key (position_or_len (λ v. bytes_eq v.id a.0) d.vpcs) (position_or_len (λ v. bytes_eq v.id b.0) d.vpcs) a.1 b.1 la lb (equal (key_of d a) (key_of d b) e) in
        let same = equals a.1 b.1 parts.1 in
        absurd (cc)
    by true false z e f g =
        let parts = split-key (position_or_len (λ v. bytes_eq v.id a.0) d.vpcs) (position_or_len (λ v. bytes_eq v.id b.0) d.vpcs) a.1 b.1 la lb (equal (key_of d a) (key_of d b) e) in
        let same = (bytes_eq-Decides a.0 b.0).1 (same_id d.vpcs a.0 b.0 ha hb parts.0) in
        absurd (cc)
    by false true true e f g =
        let vpcs : a.0 ≡ b.0 = (bytes_eq-Decides a.0 b.0).0 f in
        let last : a.1 ≡ b.1 = equal a.1 b.1 g in
        let keys = equals (key_of d a) (key_of d b) (ap (λ id. position_or_len (λ v. bytes_eq v.id id) d.vpcs * 4294967296 + a.1) vpcs ∙ ap (λ n. position_or_len (λ v. bytes_eq v.id b.0) d.vpcs * 4294967296 + n) last) in
        absurd (cc)
    by false true false e f g = refl
    by false false z e f g = refl

-- whether an address is among others, by the keys
pub among-keys : (d : Description) (a : List ℕ × ℕ) (earlier : List (List ℕ × ℕ)) → has_vpc d a.0 ≡ true → a.1 < 2 ^ 32 → AreKnown d earlier → list_any (λ n. key_of d a == n) (map (key_of d) earlier) ≡ list_any (same_address a) earlier
among-keys d a [] ha la known = refl
among-keys d a (b ∷ bs) ha la known =
    let head = same_key d a b ha la known.0 known.1 in
    let rest = among-keys d a bs ha la known.2 in
    ap (λ (x : Bool). x || list_any (λ n. key_of d a == n) (map (key_of d) bs)) head ∙ ap (λ (x : Bool). same_address a b || x) rest

known-push : (d : Description) (a : List ℕ × ℕ) (earlier : List (List ℕ × ℕ)) → has_vpc d a.0 ≡ true → a.1 < 2 ^ 32 → AreKnown d earlier → AreKnown d (earlier ++ a ∷ [])
known-push d a [] ha la known = (ha, la, tt)
known-push d a (b ∷ bs) ha la known = (known.0, known.1, known-push d a bs ha la known.2)

-- one more address
pub keys-push : (d : Description) (a : List ℕ × ℕ) (earlier : List (List ℕ × ℕ)) (keys now : List ℕ) → has_vpc d a.0 ≡ true → a.1 < 2 ^ 32 → AreKeys d earlier keys → now ≡ keys ++ key_of d a ∷ [] → AreKeys d (earlier ++ a ∷ []) now
keys-push d a earlier keys now ha la are e = record {
  known = known-push d a earlier ha la are.known;
  same = e ∙ ap (λ (ns : List ℕ). ns ++ key_of d a ∷ []) are.same ∙ sym (map-append (key_of d) earlier (a ∷ []));
}

-- ---- what an addition tells

pub keys-fresh : {E : Type 0} (d : Description) (a : List ℕ × ℕ) (key : ℕ) (keys : List ℕ) (r : Result Bool E) → has_vpc d a.0 ≡ true → a.1 < 2 ^ 32 → key ≡ key_of d a → IfOk r (λ b. b ≡ not (list_any (λ n. key == n) keys)) → (earlier : List (List ℕ × ℕ)) → AreKeys d earlier keys → IfOk r (λ b. b ≡ not (list_any (same_address a) earlier))
keys-fresh d a key keys (Ok b) ha la is e earlier are =
    e ∙ ap (λ k. not (list_any (λ n. k == n) keys)) is ∙ ap (λ (ns : List ℕ). not (list_any (λ n. key_of d a == n) ns)) are.same ∙ ap not (among-keys d a earlier ha la are.known)
keys-fresh d a key keys (Err x) ha la is e earlier are = tt

pub keys-added : {E : Type 0} (d : Description) (a : List ℕ × ℕ) (key : ℕ) (keys now : List ℕ) (r : Result Bool E) → has_vpc d a.0 ≡ true → a.1 < 2 ^ 32 → key ≡ key_of d a → IfOk r (λ b. now ≡ cond b (keys ++ key ∷ []) keys) → (earlier : List (List ℕ × ℕ)) → AreKeys d earlier keys → IfOk r (λ b. IsTrue b → AreKeys d (earlier ++ a ∷ []) now)
keys-added d a key keys now (Ok true) ha la is e earlier are = λ h. keys-push d a earlier keys now ha la are (e ∙ ap (λ (k : ℕ). keys ++ k ∷ []) is)
keys-added d a key keys now (Ok false) ha la is e earlier are = λ h. absurd (cc)
keys-added d a key keys now (Err x) ha la is e earlier are = tt

-- ---- an interface's addresses, one after another

next-in : (vpc : List ℕ) (xs : List (ℕ × Option ℕ)) (i : ℕ) (x : ℕ × Option ℕ) → i < length xs → x ≡ get_or xs i x → addresses_in vpc (drop i xs) ≡ (vpc, x.0) ∷ addresses_in vpc (drop (i + 1) xs)
next-in vpc xs i x within is =
    ap (addresses_in vpc) (drop_more xs i x within) ∙ ap (λ (y : ℕ × Option ℕ). (vpc, y.0) ∷ addresses_in vpc (drop (i + 1) xs)) (sym is)

pub taken-in : (vpc : List ℕ) (earlier : List (List ℕ × ℕ)) (xs : List (ℕ × Option ℕ)) (i : ℕ) (x : ℕ × Option ℕ) → i < length xs → x ≡ get_or xs i x → (earlier ++ addresses_in vpc (take i xs)) ++ (vpc, x.0) ∷ [] ≡ earlier ++ addresses_in vpc (take (i + 1) xs)
taken-in vpc earlier xs i x within is =
    let taken = (take_at_read xs i x within).1 ∙ ap (λ (y : ℕ × Option ℕ). take i xs ++ y ∷ []) (sym is) in
    let mapped = ap (addresses_in vpc) taken ∙ map-append (λ (y : ℕ × Option ℕ). (vpc, y.0)) (take i xs) (x ∷ []) in
    append_assoc earlier (addresses_in vpc (take i xs)) ((vpc, x.0) ∷ []) ∙ ap (λ (ys : List (List ℕ × ℕ)). earlier ++ ys) (sym mapped)

cons-twice : (E bs : List (List ℕ × ℕ)) (a : List ℕ × ℕ) → list_any (same_address a) E ≡ true → first_cause (map twice (repeats_after same_address E (a ∷ bs))) ≡ Some (twice a)
cons-twice E bs a h = rw h

cons-once : (E bs : List (List ℕ × ℕ)) (a : List ℕ × ℕ) → list_any (same_address a) E ≡ false → repeats_after same_address E (a ∷ bs) ≡ repeats_after same_address (E ++ a ∷ []) bs
cons-once E bs a h = rw h

pub told-twice : (vpc : List ℕ) (earlier : List (List ℕ × ℕ)) (xs : List (ℕ × Option ℕ)) (i : ℕ) (x : ℕ × Option ℕ) (all : List (List ℕ × ℕ)) → i < length xs → x ≡ get_or xs i x → false ≡ not (list_any (same_address (vpc, x.0)) (earlier ++ addresses_in vpc (take i xs))) → repeats_after same_address (earlier ++ addresses_in vpc (take i xs)) (addresses_in vpc (drop i xs)) ≡ repeats_after same_address earlier all → first_cause (map twice (repeats_after same_address earlier all)) ≡ Some (twice (vpc, x.0))
told-twice vpc earlier xs i x all within is fresh rest =
    let E = earlier ++ addresses_in vpc (take i xs) in
    ap (λ (bs : List (List ℕ × ℕ)). first_cause (map twice bs)) (sym rest)
    ∙ ap (λ (bs : List (List ℕ × ℕ)). first_cause (map twice (repeats_after same_address E bs))) (next-in vpc xs i x within is)
    ∙ cons-twice E (addresses_in vpc (drop (i + 1) xs)) (vpc, x.0) (true-of (list_any (same_address (vpc, x.0)) E) fresh)
  where
    true-of : (b : Bool) → false ≡ not b → b ≡ true
    true-of true h = refl
    true-of false h = absurd (cc)

pub rest-once : (vpc : List ℕ) (earlier : List (List ℕ × ℕ)) (xs : List (ℕ × Option ℕ)) (i : ℕ) (x : ℕ × Option ℕ) (all : List (List ℕ × ℕ)) → i < length xs → x ≡ get_or xs i x → true ≡ not (list_any (same_address (vpc, x.0)) (earlier ++ addresses_in vpc (take i xs))) → repeats_after same_address (earlier ++ addresses_in vpc (take i xs)) (addresses_in vpc (drop i xs)) ≡ repeats_after same_address earlier all → repeats_after same_address (earlier ++ addresses_in vpc (take (i + 1) xs)) (addresses_in vpc (drop (i + 1) xs)) ≡ repeats_after same_address earlier all
rest-once vpc earlier xs i x all within is fresh rest =
    let E = earlier ++ addresses_in vpc (take i xs) in
    ap (λ (F : List (List ℕ × ℕ)). repeats_after same_address F (addresses_in vpc (drop (i + 1) xs))) (sym (taken-in vpc earlier xs i x within is))
    ∙ sym (cons-once E (addresses_in vpc (drop (i + 1) xs)) (vpc, x.0) (false-of (list_any (same_address (vpc, x.0)) E) fresh))
    ∙ ap (repeats_after same_address E) (sym (next-in vpc xs i x within is))
    ∙ rest
  where
    false-of : (b : Bool) → true ≡ not b → b ≡ false
    false-of true h = absurd (cc)
    false-of false h = refl

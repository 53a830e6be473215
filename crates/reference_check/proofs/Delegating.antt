-- The delegated blocks of interfaces, one interface after the other.
use Rattle.std.proofs.Common.{◌≡◌, ◌∙◌, ◌+◌, ◌-◌, ◌++◌, ◌<◌, ◌^◌, ◌≤◌, ◌⊎◌, ◌&&◌, ◌||◌, ◌∷◌, [], ℕ, All, Bool, List, None, Option, Some, ap, arith, bytes_eq, cond, false, find, flat_map, get_or, inl, inr, length, map, nat_le, option_map, position, refl, subst, sym, take, true}
use Rattle.std.specs.List.{AllByRecursion, Contains, count_by, list_any}
use Rattle.std.specs.Option.{option_or}
use Rattle.std.proofs.lemmas.Bool.{and_from, and_parts, both_ways, cases_Bool, cases_lt, le-leb, leb-true, or_from, or_right}
use Rattle.std.proofs.lemmas.Bool.Decides.{nat_tests}
use Rattle.std.proofs.lemmas.List.{append-nil, get_or-take, length-take-le, take_more}
use Rattle.std.proofs.lemmas.List.Elements.{All-append, All-contains, All-map, Contains-get_or, recursion_from_All}
use Rattle.std.proofs.lemmas.List.Folds.{find-append}
use Rattle.std.proofs.lemmas.List.Quantifiers.{position-Some}
use Rattle.std.proofs.lemmas.List.Sums.{sum_by-append}
use Rattle.std.proofs.lemmas.Map.Keys.{apart_from_distinct}
use Rattle.vpc_base.proofs.Bytes.{bytes_self, same_bytes}
use Rattle.vpc_base.proofs.Members.{AllByRecursion-at, Contains-cases, Contains-flat_map, Contains-here, Contains-later, Contains-none, list_any-member, list_any-none, map-member, member-list_any}
use Rattle.vpc_base.proofs.Tests.{count_by-cons}
use Rattle.number_tables.specs.Keys as keys
use Rattle.number_tables.specs.Runs.{has_key, value_of}
use Rattle.number_tables.specs.declared.runs.KeyRun.{KeyRun}
use Rattle.prefix_text.specs.Block.{Block, holds, last_of}
use Rattle.address_sets.specs.Runs.{AreApart, is_in, is_of}
use Rattle.address_sets.specs.declared.sets.Run.{Run}
use Rattle.vpc_laws.specs.Accepted.{both_have}
use Rattle.vpc_laws.proofs.Claims.{apart}
use Rattle.vpc_model.specs.Accepted.{duplicate_addresses}
use Rattle.vpc_model.specs.Choice.{or_else}
use Rattle.vpc_model.specs.Cuts.{block_cuts}
use Rattle.vpc_model.specs.Lookup.{has_address, has_vpc, is_assigned, vpc_no, vpc_of_interface}
use Rattle.vpc_model.specs.declared.rows.Description.{Description}
use Rattle.vpc_model.specs.declared.rows.Interface.{Interface}
use Rattle.reference_check.specs.Blocks.{AddsBlocks, AreBlocks, FindBlocks, IsBlockRun, block_ends, is_delegated, key_run}
use Rattle.reference_check.specs.Keys.{key_of}
use Rattle.reference_check.proofs.Adding.{key-between, key-is}
use Rattle.reference_check.proofs.Positions.{count-none, position-push}

-- ---- values of runs in two lists

or-map : {A B : Type 0} (f : A → B) (o p : Option A) → option_map f (option_or o p) ≡ or_else (option_map f o) (option_map f p)
or-map f None p = refl
or-map f (Some x) p = refl

value_of-append : (k : ℕ) (xs ys : List (KeyRun ℕ)) → value_of k (xs ++ ys) ≡ or_else (value_of k xs) (value_of k ys)
value_of-append k xs ys = ap (option_map (λ r. r.value)) (find-append (has_key k) xs ys) ∙ or-map (λ r. r.value) (find (has_key k) xs) (find (has_key k) ys)

-- no run has a key without a value
none-has : (k : ℕ) (runs : List (KeyRun ℕ)) → value_of k runs ≡ None → list_any (has_key k) runs ≡ false
none-has k [] none = refl
none-has k (r ∷ rs) none = by (has_key k r) refl none (none-has k rs)
  where
    by : (b : Bool) → has_key k r ≡ b → option_map (λ (x : KeyRun ℕ). x.value) (cond b (Some r) (find (has_key k) rs)) ≡ None
        → (value_of k rs ≡ None → list_any (has_key k) rs ≡ false) → (has_key k r || list_any (has_key k) rs) ≡ false
    by true e h next = absurd cc
    by false e h next = ap (λ b. b || list_any (has_key k) rs) e ∙ next h

-- ---- the runs of one interface

-- without blocks it has none
pub adds-none : (d : Description) (n : ℕ) (e : Interface) (runs : List (KeyRun ℕ)) → e.prefixes ≡ [] → AddsBlocks d n e runs runs
adds-none d n e runs none = record {
  runs = [];
  apart = record { apart = tt; some = λ k x within. absurd (omega arith) };
  same = λ a. ap (list_any (holds a)) (sym none);
  fit = λ k x within. absurd (omega arith);
  added = sym (append-nil runs);
}

-- each has the one value
value_of-one : (v n k : ℕ) (rs : List Run) → value_of k (map (key_run v n) rs) ≡ cond (list_any (has_key k) (map (key_run v n) rs)) (Some n) None
value_of-one v n k [] = refl
value_of-one v n k (r ∷ rs) = by (has_key k (key_run v n r)) (value_of-one v n k rs)
  where
    by : (b : Bool) → value_of k (map (key_run v n) rs) ≡ cond (list_any (has_key k) (map (key_run v n) rs)) (Some n) None
        → option_map (λ (x : KeyRun ℕ). x.value) (cond b (Some (key_run v n r)) (find (has_key k) (map (key_run v n) rs))) ≡ cond (b || list_any (has_key k) (map (key_run v n) rs)) (Some n) None
    by true rest = refl
    by false rest = rest

-- a run has the key of an address of its VPC where it has the address
one-key : (d : Description) (v n : ℕ) (vpc w : List ℕ) (a : ℕ) (r : Run) → v ≡ (vpc_no d vpc).0 → has_vpc d vpc ≡ true → has_vpc d w ≡ true → a < 2 ^ 32 → r.last < 2 ^ 32
    → has_key (key_of d (w, a)) (key_run v n r) ≡ (bytes_eq vpc w && is_of a r)
one-key d v n vpc w a r numbered has other small fits = by (has_key (key_of d (w, a)) (key_run v n r)) (bytes_eq vpc w && is_of a r) refl refl
  where
    by : (b c : Bool) → has_key (key_of d (w, a)) (key_run v n r) ≡ b → (bytes_eq vpc w && is_of a r) ≡ c → b ≡ c
    by true true e f = refl
    by false false e f = refl
    by true false e f =
        let ends = and_parts (nat_le (keys.key_of v r.first) (key_of d (w, a))) (nat_le (key_of d (w, a)) (keys.key_of v r.last)) e in
        let parts = key-between d v vpc w a r.first r.last numbered has other small fits (leb-true (keys.key_of v r.first) (key_of d (w, a)) ends.0) (leb-true (key_of d (w, a)) (keys.key_of v r.last) ends.1) in
        absurd (both_ways (bytes_eq vpc w && is_of a r) f
        (and_from (bytes_eq vpc w) (is_of a r) (subst (λ i. bytes_eq vpc i ≡ true) (sym parts.0) (bytes_self vpc))
        (and_from (nat_le r.first a) (nat_le a r.last) (le-leb r.first a parts.1) (le-leb a r.last parts.2))))
    by false true e f =
        let parts = and_parts (bytes_eq vpc w) (is_of a r) f in
        let ends = and_parts (nat_le r.first a) (nat_le a r.last) parts.1 in
        let from = leb-true r.first a ends.0 in
        let to = leb-true a r.last ends.1 in
        let key : keys.key_of v a ≡ key_of d (w, a) = key-is d v vpc a numbered ∙ ap (λ (i : List ℕ). key_of d (i, a)) (same_bytes vpc w parts.0) in
        absurd (both_ways (has_key (key_of d (w, a)) (key_run v n r)) e (subst (λ k. has_key k (key_run v n r) ≡ true) key (has-within from to)))
      where
        has-within : r.first ≤ a → a ≤ r.last → has_key (keys.key_of v a) (key_run v n r) ≡ true
        has-within from to =
            and_from (nat_le (keys.key_of v r.first) (keys.key_of v a)) (nat_le (keys.key_of v a) (keys.key_of v r.last))
            (le-leb (keys.key_of v r.first) (keys.key_of v a) (omega arith)) (le-leb (keys.key_of v a) (keys.key_of v r.last) (omega arith))

-- ---- runs that lie apart

ends-before : (v n k : ℕ) (r : Run) → k < keys.key_of v r.first → has_key k (key_run v n r) ≡ false
ends-before v n k r before = grind (arith, nat_tests)

later-none : (v n k : ℕ) (r : Run) (rs : List Run) → AllByRecursion (λ s. (r.first ≤ s.first) × (r.last + 1 < s.first)) rs → k ≤ keys.key_of v r.last → count_by (has_key k) (map (key_run v n) rs) ≡ 0
later-none v n k r [] later le = refl
later-none v n k r (s ∷ ss) later le =
    let rest = later-none v n k r ss later.1 le in
    let all = count_by-cons (has_key k) (key_run v n s) (map (key_run v n) ss) in
    let gap = later.0.1 in
    let none = ends-before v n k s (omega arith) in
    let here : cond {A = ℕ} (has_key k (key_run v n s)) 1 0 ≡ 0 = ap {B = ℕ} (λ b. cond b 1 0) none in
    omega arith

up-to : (v n k : ℕ) (r : Run) → has_key k (key_run v n r) ≡ true → k ≤ keys.key_of v r.last
up-to v n k r has = leb-true k (keys.key_of v r.last) (and_parts (nat_le (keys.key_of v r.first) k) (nat_le k (keys.key_of v r.last)) has).1

one-apart : (v n k : ℕ) (rs : List Run) → AreApart rs → count_by (has_key k) (map (key_run v n) rs) ≤ 1
one-apart v n k [] apart = omega arith
one-apart v n k (r ∷ rs) apart =
    let all = count_by-cons (has_key k) (key_run v n r) (map (key_run v n) rs) in
    elim (cases_Bool (has_key k (key_run v n r))) [
      | inl has ↦
          let rest = later-none v n k r rs apart.0 (up-to v n k r has) in
          let here : cond {A = ℕ} (has_key k (key_run v n r)) 1 0 ≡ 1 = ap {B = ℕ} (λ b. cond b 1 0) has in
          omega arith
      | inr lacks ↦
          let rest = one-apart v n k rs apart.1 in
          let here : cond {A = ℕ} (has_key k (key_run v n r)) 1 0 ≡ 0 = ap {B = ℕ} (λ b. cond b 1 0) lacks in
          omega arith
    ]

-- ---- one more interface

-- the runs of an interface have the keys of its addresses
added-has : (d : Description) (v n : ℕ) (vpc w : List ℕ) (a : ℕ) (rs : List Run) → v ≡ (vpc_no d vpc).0 → has_vpc d vpc ≡ true → has_vpc d w ≡ true → a < 2 ^ 32
    → AllByRecursion (λ r. r.last < 2 ^ 32) rs → list_any (has_key (key_of d (w, a))) (map (key_run v n) rs) ≡ (is_in a rs && bytes_eq vpc w)
added-has d v n vpc w a [] numbered has other small fit = refl
added-has d v n vpc w a (r ∷ rs) numbered has other small fit =
    ap (λ b. b || list_any (has_key (key_of d (w, a))) (map (key_run v n) rs)) (one-key d v n vpc w a r numbered has other small fit.0)
    ∙ ap (λ b. (bytes_eq vpc w && is_of a r) || b) (added-has d v n vpc w a rs numbered has other small fit.1)
    ∙ by (bytes_eq vpc w) (is_of a r) (is_in a rs)
  where
    by : (x y z : Bool) → ((x && y) || (z && x)) ≡ ((y || z) && x)
    by true true z = refl
    by true false true = refl
    by true false false = refl
    by false true true = refl
    by false true false = refl
    by false false true = refl
    by false false false = refl

-- an interface has what is delegated to it
delegated-has : (d : Description) (vpc : List ℕ) (a : ℕ) (e : Interface) → is_delegated d vpc a e ≡ true → (vpc_of_interface d e ≡ vpc) × (has_address e a ≡ true)
delegated-has d vpc a e is =
    let parts = and_parts (list_any (holds a) e.prefixes) (bytes_eq (vpc_of_interface d e) vpc) is in
    (same_bytes (vpc_of_interface d e) vpc parts.1, or_right (is_assigned e a) (list_any (holds a) e.prefixes) parts.0)

-- no earlier interface has an address of a later one's blocks
none-before : (d : Description) (n : ℕ) (e : Interface) (vpc : List ℕ) (a : ℕ) → duplicate_addresses d ≡ [] → n < length d.interfaces → e ≡ get_or d.interfaces n e → is_delegated d vpc a e ≡ true
    → position (is_delegated d vpc a) (take n d.interfaces) ≡ None
none-before d n e vpc a once within is has = by (position (is_delegated d vpc a) (take n d.interfaces)) refl
  where
    by : (o : Option ℕ) → position (is_delegated d vpc a) (take n d.interfaces) ≡ o → position (is_delegated d vpc a) (take n d.interfaces) ≡ None
    by None none = none
    by (Some j) found =
        let at = position-Some (is_delegated d vpc a) (take n d.interfaces) j e found in
        let long = length-take-le n d.interfaces (omega arith) in
        let before : j < n = omega arith in
        let one = delegated-has d vpc a (get_or d.interfaces j e) (subst (λ x. is_delegated d vpc a x ≡ true) (get_or-take n d.interfaces j e before) at.1) in
        let other = delegated-has d vpc a (get_or d.interfaces n e) (subst (λ x. is_delegated d vpc a x ≡ true) is has) in
        let x = get_or d.interfaces j e in
        let y = get_or d.interfaces n e in
        let same : vpc_of_interface d x ≡ vpc_of_interface d y = one.0 ∙ sym other.0 in
        absurd (both_ways (both_have d a x y) (apart_from_distinct (both_have d a) d.interfaces j n e (apart d a once) before within)
        (and_from (bytes_eq (vpc_of_interface d x) (vpc_of_interface d y)) (has_address x a && has_address y a)
        (subst (λ (i : List ℕ). bytes_eq (vpc_of_interface d x) i ≡ true) same (bytes_self (vpc_of_interface d x)))
        (and_from (has_address x a) (has_address y a) one.1 other.1)))

own-has : (d : Description) (n : ℕ) (e : Interface) (old new : List (KeyRun ℕ)) (adds : AddsBlocks d n e old new) (vpc : List ℕ) (a : ℕ) → has_vpc d (vpc_of_interface d e) ≡ true → has_vpc d vpc ≡ true → a < 2 ^ 32
    → list_any (has_key (key_of d (vpc, a))) (map (key_run (vpc_no d (vpc_of_interface d e)).0 n) adds.runs) ≡ is_delegated d vpc a e
own-has d n e old new adds vpc a has other small =
    added-has d (vpc_no d (vpc_of_interface d e)).0 n (vpc_of_interface d e) vpc a adds.runs refl has other small (recursion_from_All (λ r. r.last < 2 ^ 32) adds.runs adds.fit)
    ∙ ap (λ b. b && bytes_eq (vpc_of_interface d e) vpc) (adds.same a)

-- a key of one of its runs is that of an address of its blocks
own-key : (d : Description) (n : ℕ) (e : Interface) (old new : List (KeyRun ℕ)) (adds : AddsBlocks d n e old new) (k : ℕ)
    → list_any (has_key k) (map (key_run (vpc_no d (vpc_of_interface d e)).0 n) adds.runs) ≡ true → (a : ℕ) × (a < 2 ^ 32) × (k ≡ key_of d (vpc_of_interface d e, a)) × (is_delegated d (vpc_of_interface d e) a e ≡ true)
own-key d n e old new adds k has =
    let vpc = vpc_of_interface d e in
    let v = (vpc_no d vpc).0 in
    let one = list_any-member (has_key k) (map (key_run v n) adds.runs) has in
    let run = map-member (key_run v n) adds.runs one.0 one.1 in
    let r = run.0 in
    let here : has_key k (key_run v n r) ≡ true = ap (has_key k) run.2 ∙ one.2 in
    let ends = and_parts (nat_le (keys.key_of v r.first) k) (nat_le k (keys.key_of v r.last)) here in
    let from = leb-true (keys.key_of v r.first) k ends.0 in
    let to = leb-true k (keys.key_of v r.last) ends.1 in
    let fits = All-contains (λ (x : Run). x.last < 2 ^ 32) adds.runs r adds.fit run.1 in
    let a = k - keys.key_of v 0 in
    let key : k ≡ keys.key_of v a = omega arith in
    let inside : is_of a r ≡ true = and_from (nat_le r.first a) (nat_le a r.last) (le-leb r.first a (omega arith)) (le-leb a r.last (omega arith)) in
    let member = member-list_any (is_of a) adds.runs r run.1 inside in
    (a, omega arith, key, and_from (list_any (holds a) e.prefixes) (bytes_eq vpc vpc) (sym (adds.same a) ∙ member) (bytes_self vpc))

apart-more : (d : Description) (n : ℕ) (e : Interface) (old new : List (KeyRun ℕ)) (adds : AddsBlocks d n e old new) → duplicate_addresses d ≡ [] → n < length d.interfaces → e ≡ get_or d.interfaces n e
    → has_vpc d (vpc_of_interface d e) ≡ true → AreBlocks d (take n d.interfaces) old → (k : ℕ) → count_by (has_key k) (old ++ map (key_run (vpc_no d (vpc_of_interface d e)).0 n) adds.runs) ≤ 1
apart-more d n e old new adds once within is has are k =
    let vpc = vpc_of_interface d e in
    let own = map (key_run (vpc_no d vpc).0 n) adds.runs in
    let all = sum_by-append (λ (r : KeyRun ℕ). cond (has_key k r) 1 0) old own in
    elim (cases_Bool (list_any (has_key k) own)) [
      | inl there ↦
          let key = own-key d n e old new adds k there in
          let told = are.tell vpc key.0 has key.1 ∙ none-before d n e vpc key.0 once within is key.3 in
          let before = count-none (has_key k) old (none-has k old (ap (λ m. value_of m old) key.2 ∙ told)) in
          let one = one-apart (vpc_no d vpc).0 n k adds.runs adds.apart.apart in
          omega arith
      | inr none ↦
          let after = count-none (has_key k) own none in
          let one = are.apart k in
          omega arith
    ]

-- ---- where runs begin and end

-- no run has the address after one or before it
beside : (rs : List Run) (r : Run) → AreApart rs → AllByRecursion (λ s. s.first ≤ s.last) rs → Contains rs r → (is_in (r.last + 1) rs ≡ false) × ((a : ℕ) → a + 1 ≡ r.first → is_in a rs ≡ false)
beside [] r apart some has = absurd (Contains-none r has)
beside (s ∷ ss) r apart some has =
    elim (Contains-cases s r ss has) [
      | inl same ↦ subst (λ (x : Run). (is_in (x.last + 1) (s ∷ ss) ≡ false) × ((a : ℕ) → a + 1 ≡ x.first → is_in a (s ∷ ss) ≡ false)) same (first apart.0)
      | inr later ↦ among (beside ss r apart.1 some.1 later) (AllByRecursion-at (λ t. (s.first ≤ t.first) × (s.last + 1 < t.first)) ss r apart.0 later) (AllByRecursion-at (λ t. t.first ≤ t.last) ss r some.1 later)
    ]
  where
    not-of : (a : ℕ) (t : Run) → (a < t.first) ⊎ (t.last < a) → is_of a t ≡ false
    not-of a t (inl before) = grind (arith, nat_tests)
    not-of a t (inr after) = grind (arith, nat_tests)

    none-of : (a : ℕ) → AllByRecursion (λ t. (s.first ≤ t.first) × (s.last + 1 < t.first)) ss → a ≤ s.last + 1 → is_in a ss ≡ false
    none-of a gaps le =
        list_any-none (is_of a) ss (λ t member. let gap = (AllByRecursion-at (λ t. (s.first ≤ t.first) × (s.last + 1 < t.first)) ss t gaps member).1 in not-of a t (inl (omega arith)))

    first : AllByRecursion (λ t. (s.first ≤ t.first) × (s.last + 1 < t.first)) ss → (is_in (s.last + 1) (s ∷ ss) ≡ false) × ((a : ℕ) → a + 1 ≡ s.first → is_in a (s ∷ ss) ≡ false)
    first gaps =
        let own = some.0 in (
          or_from (is_of (s.last + 1) s) (is_in (s.last + 1) ss) (not-of (s.last + 1) s (inr (omega arith))) (none-of (s.last + 1) gaps (omega arith)),
          λ a next. or_from (is_of a s) (is_in a ss) (not-of a s (inl (omega arith))) (none-of a gaps (omega arith)),
        )

    among : (is_in (r.last + 1) ss ≡ false) × ((a : ℕ) → a + 1 ≡ r.first → is_in a ss ≡ false) → (s.first ≤ r.first) × (s.last + 1 < r.first) → r.first ≤ r.last
        → (is_in (r.last + 1) (s ∷ ss) ≡ false) × ((a : ℕ) → a + 1 ≡ r.first → is_in a (s ∷ ss) ≡ false)
    among rest gap own =
        let after = gap.1 in (
          or_from (is_of (r.last + 1) s) (is_in (r.last + 1) ss) (not-of (r.last + 1) s (inr (omega arith))) rest.0,
          λ a next. or_from (is_of a s) (is_in a ss) (not-of a s (inr (omega arith))) (rest.1 a next),
        )

within-block : (a : ℕ) (b : Block) → b.first ≤ a → a ≤ last_of b → holds a b ≡ true
within-block a b from to = and_from (nat_le b.first a) (nat_le a (last_of b)) (le-leb b.first a from) (le-leb a (last_of b) to)

-- a block begins where a run does
run-begins : (rs : List Run) (bs : List Block) (r : Run) → AreApart rs → AllByRecursion (λ s. s.first ≤ s.last) rs → ((a : ℕ) → is_in a rs ≡ list_any (holds a) bs) → Contains rs r → (b : Block) × Contains bs b × (b.first ≡ r.first)
run-begins rs bs r apart some same has =
    let own = AllByRecursion-at (λ s. s.first ≤ s.last) rs r some has in
    let here : is_of r.first r ≡ true = and_from (nat_le r.first r.first) (nat_le r.first r.last) (le-leb r.first r.first (omega arith)) (le-leb r.first r.last own) in
    let one = list_any-member (holds r.first) bs (sym (same r.first) ∙ member-list_any (is_of r.first) rs r has here) in
    let b = one.0 in
    let ends = and_parts (nat_le b.first r.first) (nat_le r.first (last_of b)) one.2 in
    let from = leb-true b.first r.first ends.0 in
    let to = leb-true r.first (last_of b) ends.1 in
    (b, one.1, by b one.1 from to (cases_lt b.first r.first))
  where
    by : (b : Block) → Contains bs b → b.first ≤ r.first → r.first ≤ last_of b → (b.first < r.first) ⊎ (r.first ≤ b.first) → b.first ≡ r.first
    by b member from to (inl before) =
        let a = r.first - 1 in
        let none = (beside rs r apart some has).1 a (omega arith) in
        let there = same a ∙ member-list_any (holds a) bs b member (within-block a b (omega arith) (omega arith)) in
        absurd (both_ways (is_in a rs) none there)
    by b member from to (inr le) = omega arith

-- and one ends where a run does
run-ends : (rs : List Run) (bs : List Block) (r : Run) → AreApart rs → AllByRecursion (λ s. s.first ≤ s.last) rs → ((a : ℕ) → is_in a rs ≡ list_any (holds a) bs) → Contains rs r → (b : Block) × Contains bs b × (last_of b ≡ r.last)
run-ends rs bs r apart some same has =
    let own = AllByRecursion-at (λ s. s.first ≤ s.last) rs r some has in
    let here : is_of r.last r ≡ true = and_from (nat_le r.first r.last) (nat_le r.last r.last) (le-leb r.first r.last own) (le-leb r.last r.last (omega arith)) in
    let one = list_any-member (holds r.last) bs (sym (same r.last) ∙ member-list_any (is_of r.last) rs r has here) in
    let b = one.0 in
    let ends = and_parts (nat_le b.first r.last) (nat_le r.last (last_of b)) one.2 in
    let from = leb-true b.first r.last ends.0 in
    let to = leb-true r.last (last_of b) ends.1 in
    (b, one.1, by b one.1 from to (cases_lt r.last (last_of b)))
  where
    by : (b : Block) → Contains bs b → b.first ≤ r.last → r.last ≤ last_of b → (r.last < last_of b) ⊎ (last_of b ≤ r.last) → last_of b ≡ r.last
    by b member from to (inl after) =
        let none = (beside rs r apart some has).0 in
        let there = same (r.last + 1) ∙ member-list_any (holds (r.last + 1)) bs b member (within-block (r.last + 1) b (omega arith) (omega arith)) in
        absurd (both_ways (is_in (r.last + 1) rs) none there)
    by b member from to (inr le) = omega arith

run-bounds : (d : Description) (n : ℕ) (e : Interface) (old new : List (KeyRun ℕ)) (adds : AddsBlocks d n e old new) → Contains d.interfaces e → (r : Run) → Contains adds.runs r
    → IsBlockRun (block_ends d.interfaces) (key_run (vpc_no d (vpc_of_interface d e)).0 n r)
run-bounds d n e old new adds member r has =
    let some : AllByRecursion (λ s. s.first ≤ s.last) adds.runs = recursion_from_All (λ s. s.first ≤ s.last) adds.runs (λ k x within. leb-true _ _ (adds.apart.some k x within)) in
    let own = AllByRecursion-at (λ s. s.first ≤ s.last) adds.runs r some has in
    let fits = All-contains (λ (x : Run). x.last < 2 ^ 32) adds.runs r adds.fit has in
    let begins = run-begins adds.runs e.prefixes r adds.apart.apart some adds.same has in
    let ends = run-ends adds.runs e.prefixes r adds.apart.apart some adds.same has in
    let b = begins.0 in
    let c = ends.0 in
    let here : Contains (block_cuts b) r.first = subst (Contains (block_cuts b)) begins.2 (Contains-here b.first ((last_of b + 1) ∷ [])) in
    let after : Contains (block_cuts c) (r.last + 1) =
    subst (λ m. Contains (block_cuts c) (m + 1)) ends.2 (Contains-later c.first ((last_of c + 1) ∷ []) (last_of c + 1) (Contains-here (last_of c + 1) [])) in
    record {
      vpc = (vpc_no d (vpc_of_interface d e)).0;
      first = r.first;
      last = r.last;
      from = refl;
      to = refl;
      small = omega arith;
      fits = fits;
      begins = Contains-flat_map (λ (x : Interface). flat_map block_cuts x.prefixes) d.interfaces e r.first member (Contains-flat_map block_cuts e.prefixes b r.first begins.1 here);
      ends = Contains-flat_map (λ (x : Interface). flat_map block_cuts x.prefixes) d.interfaces e (r.last + 1) member (Contains-flat_map block_cuts e.prefixes c (r.last + 1) ends.1 after);
    }

-- ---- all runs

pub blocks-more : (d : Description) (n : ℕ) (e : Interface) (old new : List (KeyRun ℕ)) → duplicate_addresses d ≡ [] → n < length d.interfaces → e ≡ get_or d.interfaces n e
    → has_vpc d (vpc_of_interface d e) ≡ true → AddsBlocks d n e old new → AreBlocks d (take n d.interfaces) old → AreBlocks d (take (n + 1) d.interfaces) new
blocks-more d n e old new once within is has adds are =
    let v = (vpc_no d (vpc_of_interface d e)).0 in
    let own = map (key_run v n) adds.runs in
    let more : take (n + 1) d.interfaces ≡ take n d.interfaces ++ e ∷ [] = take_more d.interfaces n e within ∙ ap (λ (x : Interface). take n d.interfaces ++ x ∷ []) (sym is) in
    let bounds = All-map (IsBlockRun (block_ends d.interfaces)) (key_run v n) adds.runs
    (λ k x inside. run-bounds d n e old new adds (n, within, sym is) (get_or adds.runs k x) (Contains-get_or adds.runs k x inside)) in
    record {
      apart = λ k. subst (λ rs. count_by (has_key k) rs ≤ 1) (sym adds.added) (apart-more d n e old new adds once within is has are k);
      tell = λ vpc a other small.
          ap (value_of (key_of d (vpc, a))) adds.added
          ∙ value_of-append (key_of d (vpc, a)) old own
          ∙ ap (λ (o : Option ℕ). or_else o (value_of (key_of d (vpc, a)) own)) (are.tell vpc a other small)
          ∙ ap (λ (o : Option ℕ). or_else (position (is_delegated d vpc a) (take n d.interfaces)) o)
          (value_of-one v n (key_of d (vpc, a)) adds.runs ∙ ap (λ b. cond b (Some n) None) (own-has d n e old new adds vpc a has other small))
          ∙ sym (position-push (is_delegated d vpc a) (take n d.interfaces) e n (length-take-le n d.interfaces (omega arith)))
          ∙ ap (position (is_delegated d vpc a)) (sym more);
      bounds = subst (All (IsBlockRun (block_ends d.interfaces))) (sym adds.added) (All-append (IsBlockRun (block_ends d.interfaces)) old own are.bounds bounds);
    }

-- a table of the runs finds them
pub find-blocks : (d : Description) (runs set : List (KeyRun ℕ)) → AreBlocks d d.interfaces runs → ((k : ℕ) → value_of k set ≡ value_of k runs) → ((r : KeyRun ℕ) → Contains set r → Contains runs r) → FindBlocks d set
find-blocks d runs set are values members = record {
  tell = λ vpc a has small. values (key_of d (vpc, a)) ∙ are.tell vpc a has small;
  bounds = λ k x within. All-contains (IsBlockRun (block_ends d.interfaces)) runs (get_or set k x) are.bounds (members (get_or set k x) (Contains-get_or set k x within));
}

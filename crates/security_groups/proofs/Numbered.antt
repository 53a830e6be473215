-- Groups, members and prefix lists, found by numbers as by ids.
use Rattle.std.proofs.Common.{All, Bool, List, None, Option, Some, [], ap, arith, bytes_eq, cond, false, filter_map, find, flat_map, get_or, inl, inr, length, ltb, map, option_map, position, refl, subst, suc, sym, true, ℕ, ◌&&◌, ◌+◌, ◌<◌, ◌==◌, ◌^◌, ◌||◌, ◌∙◌, ◌∷◌, ◌≡◌}
use Rattle.std.specs.List.{AllByRecursion, AllZip, list_any, position_or_len}
use Rattle.vpc_base.proofs.Lemmas.{All-head, All-tail, and_right, both_ways, bytes_self, cases_Bool, cases_lt, eq-eqb, false_from_ne_true, find-nowhere, get_or_default, le-ltb, list_any-agree, list_any-append, lt-ltb, ltb-true, missing_number, ne_eqb, position-at, recursion_from_All, same_bytes, zip_at}
use Rattle.address_sets.specs.declared.sets.Run.{Run}
use Rattle.prefix_text.specs.Block.{Block, holds}
use Rattle.vpc_laws.specs.Types.{Description, Dir, Group, GroupNo, Interface, PrefixList}
use Rattle.vpc_model.specs.Terms.{entries_of, has_address, is_assigned, is_listed, is_member, may_name, no_group, reference_counts, vpcs_of_group}
use Rattle.reference_check.proofs.Maps.{found_number, read_row}
use Rattle.number_tables.specs.Keys.{key_of}
use Rattle.number_tables.proofs.KeyLemmas.{key_of-same}
use Rattle.security_groups.specs.Terms.{AreFit, HasEntriesOf, HasMembersOf, MemberSets, counted, groups_with, has_block, has_entry, has_member, holds_for, key_with, keys_with, list_no, number_of}
use Rattle.security_groups.proofs.OnceEach.{list_any-once}

-- ---- searches

-- the number of the first that passes, by the first of the list
pub position-cons : {X : Type 0} (p : X → Bool) (x : X) (xs : List X) → position p (x ∷ xs) ≡ cond (p x) (Some 0) (option_map (λ k. suc k) (position p xs))
position-cons p x xs =
    elim (cases_Bool (p x)) [
      | inl passes ↦ rw (passes, lt-ltb 0 (suc (length xs)) (omega arith)) refl
      | inr fails ↦ rw fails (later (position_or_len p xs) (length xs))
    ]
  where
    later : (a n : ℕ) → cond (ltb (1 + a) (suc n)) (Some (1 + a)) None ≡ option_map (λ k. suc k) (cond (ltb a n) (Some a) None)
    later a n =
        elim (cases_lt a n) [
          | inl below ↦ rw (lt-ltb a n below, lt-ltb (1 + a) (suc n) (omega arith)) (ap Some (omega arith))
          | inr above ↦ rw (le-ltb a n above, le-ltb (1 + a) (suc n) (omega arith)) refl
        ]

-- a test of what a value gives, where it gives something
abbrev pub any_if : {Y : Type 0} → (Y → Bool) → Option Y → Bool
any_if p None = false
any_if p (Some y) = p y

-- a test of what is kept, as a test of all
pub list_any-filter_map : {X Y : Type 0} (p : Y → Bool) (f : X → Option Y) (xs : List X) → list_any p (filter_map f xs) ≡ list_any (λ x. any_if p (f x)) xs
list_any-filter_map p f [] = refl
list_any-filter_map {X = X} {Y = Y} p f (x ∷ xs) = by (f x) refl (list_any-filter_map p f xs)
  where
    by : (o : Option Y) → f x ≡ o → list_any p (filter_map f xs) ≡ list_any (λ y. any_if p (f y)) xs → list_any p (filter_map f (x ∷ xs)) ≡ (any_if p (f x) || list_any (λ y. any_if p (f y)) xs)
    by None e rest = rw e rest
    by (Some y) e rest = rw e (ap (λ (b : Bool). p y || b) rest)

-- ---- prefix lists

-- an entry by a list's number is one by its id
pub any_entry-is : (d : Description) (lists : List (List Run)) (a : ℕ) (id : List ℕ) → AllZip HasEntriesOf d.lists lists → any_if (has_entry lists a) (list_no d id) ≡ list_any (holds a) (entries_of d id)
any_entry-is d lists a id zip = by (list_no d id) refl
  where
    none : PrefixList
    none = record { id = []; entries = [] }

    entries_if : Option PrefixList → List Block
    entries_if None = []
    entries_if (Some l) = l.entries

    by : (o : Option ℕ) → list_no d id ≡ o → any_if (has_entry lists a) (list_no d id) ≡ list_any (holds a) (entries_of d id)
    by None missing =
        let test : (PrefixList → Bool) = λ l. bytes_eq l.id id in
        let found : find test d.lists ≡ None = find-nowhere test d.lists (missing_number test d.lists missing) in
        let entries : entries_of d id ≡ [] = ap entries_if found in
        ap (any_if (has_entry lists a)) missing ∙ sym (ap (list_any (holds a)) entries)
    by (Some k) some =
        let test : (PrefixList → Bool) = λ l. bytes_eq l.id id in
        let is = found_number test d.lists k some in
        let row = get_or d.lists k none in
        let found : find test d.lists ≡ Some row = sym (read_row test d.lists k row is (get_or_default d.lists k none row is.within)) in
        let entries : entries_of d id ≡ row.entries = ap entries_if found in
        ap (any_if (has_entry lists a)) some ∙ zip_at HasEntriesOf d.lists lists k none [] zip is.within a ∙ sym (ap (list_any (holds a)) entries)

-- ---- groups of interfaces

-- the row of a group that is found
group-id : (d : Description) (id : List ℕ) (k : ℕ) → position (λ (g : Group). bytes_eq g.id id) d.groups ≡ Some k → (get_or d.groups k no_group).id ≡ id
group-id d id k found = same_bytes (get_or d.groups k no_group).id id (position-at (λ (g : Group). bytes_eq g.id id) d.groups k no_group found).1

-- a group's number is this one where its id is
pub number-is : (d : Description) (group : List ℕ) (k : ℕ) → position (λ (g : Group). bytes_eq g.id group) d.groups ≡ Some k → (i : List ℕ) → any_if (λ n. n == k) (number_of d i) ≡ bytes_eq i group
number-is d group k found i = by (position (λ (g : Group). bytes_eq g.id i) d.groups) refl
  where
    numbered : Option ℕ → Option ℕ
    numbered o = option_map (λ (g : GroupNo). g.0) (option_map (λ n. record { 0 = n }) o)

    by : (o : Option ℕ) → position (λ (g : Group). bytes_eq g.id i) d.groups ≡ o → any_if (λ n. n == k) (number_of d i) ≡ bytes_eq i group
    by None none =
        rw none
        (sym
        (false_from_ne_true (bytes_eq i group) (λ same.
        let e : i ≡ group = same_bytes i group same in
        let other : position (λ (g : Group). bytes_eq g.id group) d.groups ≡ None = subst (λ (x : List ℕ). position (λ (g : Group). bytes_eq g.id x) d.groups ≡ None) e none in
        absurd cc)))
    by (Some j) some =
        rw some
        (elim (cases_Bool (bytes_eq i group)) [
          | inl same ↦
              let e : i ≡ group = same_bytes i group same in
              let other : position (λ (g : Group). bytes_eq g.id group) d.groups ≡ Some j = subst (λ (x : List ℕ). position (λ (g : Group). bytes_eq g.id x) d.groups ≡ Some j) e some in
              let numbers : j ≡ k = cc in
              eq-eqb j k numbers ∙ sym same
          | inr differ ↦
              ne_eqb j k (λ numbers.
              let e : i ≡ group = sym (group-id d i j some) ∙ ap (λ n. (get_or d.groups n no_group).id) numbers ∙ group-id d group k found in
              both_ways (bytes_eq i group) differ (sym (ap (bytes_eq i) e) ∙ bytes_self i))
              ∙ sym differ
        ])

-- an interface has a group's number where it has its id
pub groups_with-is : (d : Description) (group : List ℕ) (k : ℕ) (e : Interface) → position (λ (g : Group). bytes_eq g.id group) d.groups ≡ Some k → list_any (λ n. n == k) (groups_with d e) ≡ is_listed group e.groups
groups_with-is d group k e found =
    list_any-once (λ n. n == k) (filter_map (number_of d) e.groups)
    ∙ list_any-filter_map (λ n. n == k) (number_of d) e.groups
    ∙ list_any-agree (λ i. any_if (λ n. n == k) (number_of d i)) (λ i. bytes_eq i group) (number-is d group k found) e.groups

-- ---- members

-- a common first part
or_and : (s t h : Bool) → ((s && t) || (s && h)) ≡ (s && (t || h))
or_and true t h = refl
or_and false t h = refl

-- a common second part
and_or : (s t h : Bool) → ((s && h) || (t && h)) ≡ ((s || t) && h)
and_or true true true = refl
and_or true true false = refl
and_or true false true = refl
and_or true false false = refl
and_or false t h = refl

-- one address
keys-is : (k a b : ℕ) (groups : List ℕ) → b < 2 ^ 32 → a < 2 ^ 32 → list_any (λ n. n == key_of k a) (map (key_with b) groups) ≡ (list_any (λ n. n == k) groups && (b == a))
keys-is k a b [] fits_b fits_a = refl
keys-is k a b (g ∷ gs) fits_b fits_a =
    ap (λ (x : Bool). x || list_any (λ n. n == key_of k a) (map (key_with b) gs)) (key_of-same g k b a fits_b fits_a)
    ∙ ap (λ (x : Bool). (g == k && (b == a)) || x) (keys-is k a b gs fits_b fits_a)
    ∙ and_or (g == k) (list_any (λ n. n == k) gs) (b == a)

-- the addresses of an interface
keys_with-is : (k a : ℕ) (groups : List ℕ) (xs : List (ℕ × Option ℕ)) → AllByRecursion (λ (x : ℕ × Option ℕ). x.0 < 2 ^ 32) xs → a < 2 ^ 32 → list_any (λ n. n == key_of k a) (keys_with groups xs) ≡ (list_any (λ n. n == k) groups && list_any (λ x. x.0 == a) xs)
keys_with-is k a groups [] fits fits_a = sym (and_right (list_any (λ n. n == k) groups) false refl)
keys_with-is k a groups (x ∷ xs) fits fits_a =
    list_any-append (λ n. n == key_of k a) (map (key_with x.0) groups) (keys_with groups xs)
    ∙ ap (λ (b : Bool). b || list_any (λ n. n == key_of k a) (keys_with groups xs)) (keys-is k a x.0 groups fits.0 fits_a)
    ∙ ap (λ (b : Bool). (list_any (λ n. n == k) groups && (x.0 == a)) || b) (keys_with-is k a groups xs fits.1 fits_a)
    ∙ or_and (list_any (λ n. n == k) groups) (x.0 == a) (list_any (λ y. y.0 == a) xs)

-- all interfaces
all_members-is : (d : Description) (group : List ℕ) (k a : ℕ) (es : List Interface) → position (λ (g : Group). bytes_eq g.id group) d.groups ≡ Some k → All (λ (e : Interface). AreFit e.addresses) es → a < 2 ^ 32
    → list_any (λ n. n == key_of k a) (flat_map (λ e. keys_with (groups_with d e) e.addresses) es) ≡ list_any (λ e. is_listed group e.groups && is_assigned e a) es
all_members-is d group k a [] found fits fits_a = refl
all_members-is d group k a (e ∷ es) found fits fits_a =
    let here = recursion_from_All (λ (x : ℕ × Option ℕ). x.0 < 2 ^ 32) e.addresses (All-head (λ (x : Interface). AreFit x.addresses) e es fits) in
    let later = All-tail (λ (x : Interface). AreFit x.addresses) e es fits in
    list_any-append (λ n. n == key_of k a) (keys_with (groups_with d e) e.addresses) (flat_map (λ x. keys_with (groups_with d x) x.addresses) es)
    ∙ ap (λ (b : Bool). b || list_any (λ n. n == key_of k a) (flat_map (λ x. keys_with (groups_with d x) x.addresses) es))
    (keys_with-is k a (groups_with d e) e.addresses here fits_a ∙ ap (λ (b : Bool). b && is_assigned e a) (groups_with-is d group k e found))
    ∙ ap (λ (b : Bool). (is_listed group e.groups && is_assigned e a) || b) (all_members-is d group k a es found later fits_a)

-- the blocks of an interface
holds_for-is : (d : Description) (group : List ℕ) (k a : ℕ) (es : List Interface) → position (λ (g : Group). bytes_eq g.id group) d.groups ≡ Some k
    → list_any (holds_for d k a) es ≡ list_any (λ e. is_listed group e.groups && list_any (holds a) e.prefixes) es
holds_for-is d group k a es found =
    list_any-agree (holds_for d k a) (λ e. is_listed group e.groups && list_any (holds a) e.prefixes)
    (λ (e : Interface). ap (λ (b : Bool). b && list_any (holds a) e.prefixes) (groups_with-is d group k e found)) es

-- an interface that has an address, or holds it in a block
either-is : (group : List ℕ) (a : ℕ) (es : List Interface)
    → (list_any (λ e. is_listed group e.groups && is_assigned e a) es || list_any (λ e. is_listed group e.groups && list_any (holds a) e.prefixes) es)
    ≡ list_any (λ e. is_listed group e.groups && has_address e a) es
either-is group a [] = refl
either-is group a (e ∷ es) =
    by (is_listed group e.groups) (is_assigned e a) (list_any (holds a) e.prefixes) (list_any (λ e. is_listed group e.groups && is_assigned e a) es)
    (list_any (λ e. is_listed group e.groups && list_any (holds a) e.prefixes) es) (list_any (λ e. is_listed group e.groups && has_address e a) es) (either-is group a es)
  where
    by : (s t h p q r : Bool) → (p || q) ≡ r → (((s && t) || p) || ((s && h) || q)) ≡ ((s && (t || h)) || r)
    by false t h p q r e = e
    by true true h p q r e = refl
    by true false true true q r e = refl
    by true false true false q r e = refl
    by true false false p q r e = e

-- a member by a group's number
member-is : (d : Description) (members : MemberSets) (group : List ℕ) (k a : ℕ) → HasMembersOf d members → position (λ (g : Group). bytes_eq g.id group) d.groups ≡ Some k → a < 2 ^ 32
    → has_member members a k ≡ is_member d group a
member-is d members group k a has found fits =
    let within : k < length d.groups = ltb-true k (length d.groups) (position-at (λ (g : Group). bytes_eq g.id group) d.groups k no_group found).0 in
    ap (λ (b : Bool). b || has_block members a k) (has.keys (key_of k a) ∙ all_members-is d group k a d.interfaces found has.fit fits)
    ∙ ap (λ (b : Bool). list_any (λ e. is_listed group e.groups && is_assigned e a) d.interfaces || b) (has.delegated k a within ∙ holds_for-is d group k a d.interfaces found)
    ∙ either-is group a d.interfaces

-- ---- references

-- a member by a group's number is one by its id
pub any_member-is : (d : Description) (members : MemberSets) (dir : Dir) (vpc : List ℕ) (a : ℕ) (group : List ℕ) → HasMembersOf d members → a < 2 ^ 32
    → any_if (has_member members a) (counted d dir vpc group) ≡ (reference_counts d dir vpc group && is_member d group a)
any_member-is d members dir vpc a group has fits_a = by (position (λ (g : Group). bytes_eq g.id group) d.groups) refl
  where
    without : (gs : List Group) → list_any (λ (g : Group). bytes_eq g.id group) gs ≡ false → list_any (λ (g : Group). bytes_eq g.id group && list_any (may_name d dir vpc) (vpcs_of_group d g)) gs ≡ false
    without [] none = refl
    without (g ∷ gs) none =
        elim (cases_Bool (bytes_eq g.id group)) [
          | inl here ↦ let some : true ≡ false = rw here at none in absurd cc
          | inr other ↦ let rest : list_any (λ (x : Group). bytes_eq x.id group) gs ≡ false = rw other at none in rw other (without gs rest)
        ]

    by : (o : Option ℕ) → position (λ (g : Group). bytes_eq g.id group) d.groups ≡ o → any_if (has_member members a) (counted d dir vpc group) ≡ (reference_counts d dir vpc group && is_member d group a)
    by None none =
        let uncounted : reference_counts d dir vpc group ≡ false = without d.groups (missing_number (λ (g : Group). bytes_eq g.id group) d.groups none) in
        rw (none, uncounted) refl
    by (Some k) some =
        rw some
        (elim (cases_Bool (reference_counts d dir vpc group)) [
          | inl counts ↦ rw counts (member-is d members group k a has some fits_a)
          | inr ignored ↦ rw ignored refl
        ])

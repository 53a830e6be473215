-- Keys of the numbers of groups, VPCs and transit gateways.
use Rattle.std.proofs.Common.{◌≡◌, ◌∙◌, ◌&&◌, ◌<◌, ◌==◌, ◌||◌, ◌∷◌, ◌^◌, [], ℕ, Bool, Contains, List, None, Option, Some, ap, arith, bytes_eq, cond, false, filter, flat_map, get_or, length, map, option_map, position, refl, subst, suc, sym, true, zero}
use Rattle.std.specs.List.{IsDistinct, list_any}
use Rattle.std.proofs.lemmas.List.Folds.{list_any-append}
use Rattle.vpc_base.proofs.Lemmas.{AllByRecursion-at, Contains-get_or, IsDistinct-head, IsDistinct-tail, and_comm, bytes_self, get_or-map, length-map, or-false}
use Rattle.vpc_laws.specs.Types.{Attachment, Description, Group, Peering}
use Rattle.vpc_model.specs.declared.rows.GroupVpc.{GroupVpc}
use Rattle.vpc_laws.proofs.Lemmas.{accepted_has_nothing_twice}
use Rattle.vpc_model.specs.Terms.{IsAccepted, are_peers, group_at, is_listed, lets_name, no_group}
use Rattle.vpc_model.specs.Groups.{is_pair_of}
use Rattle.number_tables.specs.Keys.{key_of}
use Rattle.number_tables.proofs.KeyLemmas.{key_of-same}
use Rattle.security_groups.specs.Members.{number_of}
use Rattle.security_groups.specs.Terms.{HasIds, further_of, is_number, place_of}
use Rattle.security_groups.specs.NumberKeys.{attached_keys, both_if, both_keys, key_if, numbers_if}
use Rattle.security_groups.proofs.IdPlaces.{number-any, place-listed, place-within, same-number}
use Rattle.security_groups.proofs.Numbered.{number-is, position-cons}

-- ---- the key of two numbers

-- low numbers have 32 bits
abbrev pub Fits : Option ℕ → Type 0
Fits o = (k : ℕ) → o ≡ Some k → k < 2 ^ 32

pub key-is : (a b : Option ℕ) (m k : ℕ) → Fits b → k < 2 ^ 32 → list_any (λ n. n == key_of m k) (key_if a b) ≡ (is_number a m && is_number b k)
key-is None b m k fits small = refl
key-is (Some i) None m k fits small = and_comm false (i == m)
key-is (Some i) (Some j) m k fits small = or-false (key_of i j == key_of m k) ∙ key_of-same i m j k (fits j refl) small

pub places-fit : (ids : List (List ℕ)) → length ids < 2 ^ 32 → (v : List ℕ) → Fits (place_of ids v)
places-fit ids few v k found = let within = place-within ids v k found in omega arith

-- ---- further VPCs of groups

-- the number of a group is where its id stands first
pub own-number : (gs : List Group) (k : ℕ) → IsDistinct bytes_eq (map (λ (g : Group). g.id) gs) → k < length gs → position (λ (g : Group). bytes_eq g.id (get_or gs k no_group).id) gs ≡ Some k
own-number [] k differ within = absurd (omega arith)
own-number (g ∷ gs) zero differ within =
    position-cons (λ (x : Group). bytes_eq x.id g.id) g gs ∙ ap (λ (b : Bool). cond b (Some 0) (option_map (λ j. suc j) (position (λ (x : Group). bytes_eq x.id g.id) gs))) (bytes_self g.id)
own-number (g ∷ gs) (suc k) differ within =
    let id = (get_or gs k no_group).id in
    let id_of : (Group → List ℕ) = λ x. x.id in
    let inside : k < length gs = omega arith in
    let has = subst (Contains (map id_of gs)) (get_or-map id_of gs k no_group [] inside) (Contains-get_or (map id_of gs) k [] (omega (arith, length-map gs id_of))) in
    let apart : bytes_eq g.id id ≡ false = AllByRecursion-at (λ (y : List ℕ). bytes_eq g.id y ≡ false) (map id_of gs) id (IsDistinct-head bytes_eq g.id (map id_of gs) differ) has in
    position-cons (λ (x : Group). bytes_eq x.id id) g gs
    ∙ ap (λ (b : Bool). cond b (Some 0) (option_map (λ j. suc j) (position (λ (x : Group). bytes_eq x.id id) gs))) apart
    ∙ ap (option_map (λ j. suc j)) (own-number gs k (IsDistinct-tail bytes_eq g.id (map id_of gs) differ) inside)

-- one more row
row-more : (p : List ℕ → Bool) (q : Bool) (x : GroupVpc) (test : GroupVpc → Bool) (xs : List GroupVpc) → test x ≡ q
    → list_any p (map (λ (y : GroupVpc). y.vpc) (filter test (x ∷ xs))) ≡ ((q && p x.vpc) || list_any p (map (λ (y : GroupVpc). y.vpc) (filter test xs)))
row-more p true x test xs is = rw is refl
row-more p false x test xs is = rw is refl

-- rows of a group
rows-are : (d : Description) (ids : List (List ℕ)) (g k : ℕ) (id : List ℕ) (xs : List GroupVpc) → length ids < 2 ^ 32 → k < 2 ^ 32 → position (λ (x : Group). bytes_eq x.id id) d.groups ≡ Some g
    → list_any (λ n. n == key_of g k) (flat_map (λ x. key_if (number_of d x.group) (place_of ids x.vpc)) xs) ≡ list_any (λ v. is_number (place_of ids v) k) (map (λ x. x.vpc) (filter (λ x. bytes_eq x.group id) xs))
rows-are d ids g k id [] few small own = refl
rows-are d ids g k id (x ∷ xs) few small own =
    let keys : (GroupVpc → List ℕ) = λ y. key_if (number_of d y.group) (place_of ids y.vpc) in
    let test : (ℕ → Bool) = λ n. n == key_of g k in
    let far : (List ℕ → Bool) = λ v. is_number (place_of ids v) k in
    let mine : (GroupVpc → Bool) = λ y. bytes_eq y.group id in
    let is : is_number (number_of d x.group) g ≡ bytes_eq x.group id = number-any (number_of d x.group) g ∙ number-is d id g own x.group in
    list_any-append test (keys x) (flat_map keys xs)
    ∙ ap (λ (b : Bool). b || list_any test (flat_map keys xs)) (key-is (number_of d x.group) (place_of ids x.vpc) g k (places-fit ids few x.vpc) small ∙ ap (λ (b : Bool). b && far x.vpc) is)
    ∙ ap (λ (b : Bool). (mine x && far x.vpc) || b) (rows-are d ids g k id xs few small own)
    ∙ sym (row-more far (mine x) x mine xs refl)

pub pairs-are : (d : Description) (ids : List (List ℕ)) (g k : ℕ) → IsAccepted d → length ids < 2 ^ 32 → g < length d.groups → k < 2 ^ 32
    → list_any (λ n. n == key_of g k) (flat_map (λ x. key_if (number_of d x.group) (place_of ids x.vpc)) d.scope.vpcs) ≡ list_any (λ v. is_number (place_of ids v) k) (further_of d (group_at d (record { 0 = g })))
pairs-are d ids g k accepted few within small =
    let distinct = (accepted_has_nothing_twice d accepted).ids in
    rows-are d ids g k (get_or d.groups g no_group).id d.scope.vpcs few small (own-number d.groups g (((((((distinct.1).1).1).1).1).1).0) within)

-- ---- peerings

pair-is : (ids : List (List ℕ)) (v w : List ℕ) (m k : ℕ) (o : Option (List ℕ × List ℕ)) → length ids < 2 ^ 32 → place_of ids v ≡ Some m → place_of ids w ≡ Some k
    → list_any (λ n. n == key_of m k) (both_keys (numbers_if ids o)) ≡ is_pair_of v w o
pair-is ids v w m k None few at_v at_w = refl
pair-is ids v w m k (Some pair) few at_v at_w =
    by (place_of ids pair.0) (place_of ids pair.1) (places-fit ids few pair.0) (places-fit ids few pair.1)
    ∙ ap (λ (b : Bool). (b && is_number (place_of ids pair.1) k) || (is_number (place_of ids pair.0) k && is_number (place_of ids pair.1) m)) (same-number ids v m at_v pair.0)
    ∙ ap (λ (b : Bool). (bytes_eq pair.0 v && b) || (is_number (place_of ids pair.0) k && is_number (place_of ids pair.1) m)) (same-number ids w k at_w pair.1)
    ∙ ap (λ (b : Bool). (bytes_eq pair.0 v && bytes_eq pair.1 w) || (b && is_number (place_of ids pair.1) m)) (same-number ids w k at_w pair.0)
    ∙ ap (λ (b : Bool). (bytes_eq pair.0 v && bytes_eq pair.1 w) || (bytes_eq pair.0 w && b)) (same-number ids v m at_v pair.1)
  where
    by : (a b : Option ℕ) → Fits a → Fits b → list_any (λ n. n == key_of m k) (both_keys (both_if a b)) ≡ ((is_number a m && is_number b k) || (is_number a k && is_number b m))
    by None b fits_a fits_b = refl
    by (Some i) None fits_a fits_b = rw (and_comm (i == m) false, and_comm (i == k) false) refl
    by (Some i) (Some j) fits_a fits_b =
        let small_m : m < 2 ^ 32 = places-fit ids few v m at_v in
        let small_k : k < 2 ^ 32 = places-fit ids few w k at_w in
        ap (λ (b : Bool). b || (key_of j i == key_of m k || false)) (key_of-same i m j k (fits_b j refl) small_k)
        ∙ ap (λ (b : Bool). (i == m && (j == k)) || b) (or-false (key_of j i == key_of m k) ∙ key_of-same j m i k (fits_a i refl) small_k ∙ and_comm (j == m) (i == k))

peerings-are : (ids : List (List ℕ)) (v w : List ℕ) (m k : ℕ) (xs : List Peering) → length ids < 2 ^ 32 → place_of ids v ≡ Some m → place_of ids w ≡ Some k
    → list_any (λ n. n == key_of m k) (flat_map (λ x. both_keys (numbers_if ids x.pair)) xs) ≡ list_any (λ x. is_pair_of v w x.pair) xs
peerings-are ids v w m k [] few at_v at_w = refl
peerings-are ids v w m k (x ∷ xs) few at_v at_w =
    let test : (ℕ → Bool) = λ n. n == key_of m k in
    let keys : (Peering → List ℕ) = λ y. both_keys (numbers_if ids y.pair) in
    list_any-append test (keys x) (flat_map keys xs)
    ∙ ap (λ (t : Bool). t || list_any test (flat_map keys xs)) (pair-is ids v w m k x.pair few at_v at_w)
    ∙ ap (λ (t : Bool). is_pair_of v w x.pair || t) (peerings-are ids v w m k xs few at_v at_w)

pub peers-are : (d : Description) (ids : List (List ℕ)) (v w : List ℕ) (m k : ℕ) → length ids < 2 ^ 32 → place_of ids v ≡ Some m → place_of ids w ≡ Some k
    → list_any (λ n. n == key_of m k) (flat_map (λ x. both_keys (numbers_if ids x.pair)) d.peerings) ≡ are_peers d v w
peers-are d ids v w m k few at_v at_w = peerings-are ids v w m k d.peerings few at_v at_w

-- ---- attachments

attachment-is : (d : Description) (ids attachments gateways : List (List ℕ)) (v : List ℕ) (m k : ℕ) (a : Attachment) → length gateways < 2 ^ 32 → HasIds d.scope.gateways gateways → HasIds d.scope.attachments attachments
    → place_of ids v ≡ Some m → k < 2 ^ 32
    → list_any (λ n. n == key_of m k) (attached_keys ids attachments gateways a) ≡ (lets_name d a && (bytes_eq a.vpc v && is_number (place_of gateways a.gateway) k))
attachment-is d ids attachments gateways v m k a few same_gateways same_attachments at_v small =
    by (is_listed a.id attachments) refl
  where
    let_by : (o : Option ℕ) → place_of gateways a.gateway ≡ o → (bytes_eq a.vpc v && is_number o k) ≡ (is_listed a.gateway d.scope.gateways && (bytes_eq a.vpc v && is_number o k))
    let_by None none = and_comm (bytes_eq a.vpc v) false ∙ sym (ap (λ (b : Bool). is_listed a.gateway d.scope.gateways && b) (and_comm (bytes_eq a.vpc v) false) ∙ and_comm (is_listed a.gateway d.scope.gateways) false)
    let_by (Some j) some = sym (ap (λ (b : Bool). b && (bytes_eq a.vpc v && (j == k))) (sym (same_gateways a.gateway) ∙ place-listed gateways a.gateway j some))

    by : (s : Bool) → is_listed a.id attachments ≡ s
        → list_any (λ n. n == key_of m k) (attached_keys ids attachments gateways a) ≡ (lets_name d a && (bytes_eq a.vpc v && is_number (place_of gateways a.gateway) k))
    by false none =
        let out : is_listed a.id d.scope.attachments ≡ false = sym (same_attachments a.id) ∙ none in
        rw (none, out) refl
    by true there =
        let inside : is_listed a.id d.scope.attachments ≡ true = sym (same_attachments a.id) ∙ there in
        rw (there, inside)
        (key-is (place_of ids a.vpc) (place_of gateways a.gateway) m k (places-fit gateways few a.gateway) small
        ∙ ap (λ (b : Bool). b && is_number (place_of gateways a.gateway) k) (same-number ids v m at_v a.vpc)
        ∙ let_by (place_of gateways a.gateway) refl)

pub attached-are : (d : Description) (ids attachments gateways : List (List ℕ)) (v : List ℕ) (m k : ℕ) (xs : List Attachment) → length gateways < 2 ^ 32 → HasIds d.scope.gateways gateways → HasIds d.scope.attachments attachments
    → place_of ids v ≡ Some m → k < 2 ^ 32
    → list_any (λ n. n == key_of m k) (flat_map (attached_keys ids attachments gateways) xs) ≡ list_any (λ a. lets_name d a && (bytes_eq a.vpc v && is_number (place_of gateways a.gateway) k)) xs
attached-are d ids attachments gateways v m k [] few same_gateways same_attachments at_v small = refl
attached-are d ids attachments gateways v m k (a ∷ xs) few same_gateways same_attachments at_v small =
    let test : (ℕ → Bool) = λ n. n == key_of m k in
    let keys : (Attachment → List ℕ) = attached_keys ids attachments gateways in
    let passes : (Attachment → Bool) = λ b. lets_name d b && (bytes_eq b.vpc v && is_number (place_of gateways b.gateway) k) in
    list_any-append test (keys a) (flat_map keys xs)
    ∙ ap (λ (t : Bool). t || list_any test (flat_map keys xs)) (attachment-is d ids attachments gateways v m k a few same_gateways same_attachments at_v small)
    ∙ ap (λ (t : Bool). passes a || t) (attached-are d ids attachments gateways v m k xs few same_gateways same_attachments at_v small)

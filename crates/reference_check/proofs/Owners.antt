-- The interface that has an address.
use Rattle.std.proofs.Common.{Bool, List, None, Some, [], add-zero, ap, append_assoc, arith, bytes_eq, cond, drop, false, flat_map, get_or, length, map, nat_lt, not, position, refl, replicate, suc, sym, true, zero, zero-add, ℕ, ◌&&◌, ◌*◌, ◌++◌, ◌+◌, ◌<◌, ◌==◌, ◌^◌, ◌||◌, ◌∙◌, ◌∷◌, ◌≡◌}
use Rattle.std.specs.List.{list_any, position_or_len}
use Rattle.vpc_base.proofs.Lemmas.{bytes_eq-Decides, bytes_eq-comm, drop_more, get_or-append-add, get_or-map, get_or-replicate, get_or_append_left, length-append, length-map, length-replicate, list_any-append, list_any-position, list_any_at, list_any_map, missing_number, nat_tests, position-nowhere, position-there}
use Rattle.vpc_model.specs.Terms.{duplicate_ids, has_vpc, is_assigned, private_addresses, same_address, vpc_at, vpc_of_interface}
use Rattle.vpc_laws.specs.Types.{Description, Interface, Vpc, VpcNo}
use Rattle.reference_check.specs.Hosts.{is_assigned_in, owners_from}
use Rattle.reference_check.specs.Keys.{AreKeys, AreKnown, addresses_of, key_of}
use Rattle.reference_check.proofs.Described.{vpcs-differ}
use Rattle.reference_check.proofs.Distinct.{AreDistinct, distinct}
use Rattle.reference_check.proofs.Keyed.{same_key}
use Rattle.reference_check.proofs.Maps.{and-any, found_number}
use Rattle.vpc_model.specs.Lookup.{no_vpc}

-- the first that passes in two lists
position-append : {X : Type 0} (q : X → Bool) (xs ys : List X) → position_or_len q (xs ++ ys) ≡ cond (list_any q xs) (position_or_len q xs) (length xs + position_or_len q ys)
position-append q [] ys = omega arith
position-append {X = X} q (x ∷ xs) ys = by (q x) (list_any q xs) (position-append q xs ys)
  where
    by : (a b : Bool) → position_or_len q (xs ++ ys) ≡ cond b (position_or_len q xs) (length xs + position_or_len q ys) → cond (not a) (1 + position_or_len q (xs ++ ys)) 0 ≡ cond (a || b) (cond (not a) (1 + position_or_len q xs) 0) (suc (length xs) + position_or_len q ys)
    by true b h = refl
    by false true h = ap (λ n. 1 + n) h
    by false false h = grind arith

pub any-flat : {X E : Type 0} (q : X → Bool) (g : E → List X) (es : List E) → list_any q (flat_map g es) ≡ list_any (λ e. list_any q (g e)) es
any-flat q g [] = refl
any-flat q g (e ∷ es) = list_any-append q (g e) (flat_map g es) ∙ ap (λ b. list_any q (g e) || b) (any-flat q g es)

-- the owner of the first address that passes is the first interface with one that does
pub owner : {X : Type 0} (q : X → Bool) (g : Interface → List X) (n : ℕ) (es : List Interface) (d : ℕ) → ((e : Interface) → length (g e) ≡ length e.addresses) → list_any q (flat_map g es) ≡ true → get_or (owners_from n es) (position_or_len q (flat_map g es)) d ≡ n + position_or_len (λ e. list_any q (g e)) es
owner q g n [] d sizes h = absurd (cc)
owner {X = X} q g n (e ∷ es) d sizes h =
    by (list_any q (g e)) refl (position-append q (g e) (flat_map g es)) (list_any-append q (g e) (flat_map g es)) (owner q g (n + 1) es d sizes)
  where
    by : (b : Bool) → list_any q (g e) ≡ b → position_or_len q (g e ++ flat_map g es) ≡ cond (list_any q (g e)) (position_or_len q (g e)) (length (g e) + position_or_len q (flat_map g es)) → list_any q (g e ++ flat_map g es) ≡ (list_any q (g e) || list_any q (flat_map g es)) → (list_any q (flat_map g es) ≡ true → get_or (owners_from (n + 1) es) (position_or_len q (flat_map g es)) d ≡ n + 1 + position_or_len (λ e. list_any q (g e)) es) → get_or (replicate (length e.addresses) n ++ owners_from (n + 1) es) (position_or_len q (g e ++ flat_map g es)) d ≡ n + cond (not (list_any q (g e))) (1 + position_or_len (λ e. list_any q (g e)) es) 0
    by true i place any next =
        let found = sym (list_any-position q (g e)) ∙ i in
        let size = sizes e in
        let within : position_or_len q (g e) < length e.addresses = grind (arith, nat_tests) in
        let at : position_or_len q (g e ++ flat_map g es) ≡ position_or_len q (g e) = place ∙ ap (λ b. cond b (position_or_len q (g e)) (length (g e) + position_or_len q (flat_map g es))) i in
        let inside : position_or_len q (g e) < length (replicate (length e.addresses) n) = rw (length-replicate (length e.addresses) n) within in
        ap (λ k. get_or (replicate (length e.addresses) n ++ owners_from (n + 1) es) k d) at
        ∙ get_or_append_left (replicate (length e.addresses) n) (owners_from (n + 1) es) d (position_or_len q (g e)) inside
        ∙ get_or-replicate (length e.addresses) (position_or_len q (g e)) n d within
        ∙ sym (add-zero n)
        ∙ ap (λ b. n + cond (not b) (1 + position_or_len (λ e. list_any q (g e)) es) 0) (sym i)
    by false i place any next =
        let later : list_any q (flat_map g es) ≡ true = ap (λ b. b || list_any q (flat_map g es)) (sym i) ∙ sym any ∙ h in
        let at : position_or_len q (g e ++ flat_map g es) ≡ length (replicate (length e.addresses) n) + position_or_len q (flat_map g es) = place ∙ ap (λ b. cond b (position_or_len q (g e)) (length (g e) + position_or_len q (flat_map g es))) i ∙ ap (λ m. m + position_or_len q (flat_map g es)) (sizes e ∙ sym (length-replicate (length e.addresses) n)) in
        let one : n + 1 + position_or_len (λ e. list_any q (g e)) es ≡ n + (1 + position_or_len (λ e. list_any q (g e)) es) = omega arith in
        ap (λ k. get_or (replicate (length e.addresses) n ++ owners_from (n + 1) es) k d) at
        ∙ get_or-append-add (replicate (length e.addresses) n) (owners_from (n + 1) es) (position_or_len q (flat_map g es)) d
        ∙ next later
        ∙ one
        ∙ ap (λ b. n + cond (not b) (1 + position_or_len (λ e. list_any q (g e)) es) 0) (sym i)

-- ---- by keys

-- the address is assigned to an interface of the VPC
pub host-test : (d : Description) (id : List ℕ) (a : ℕ) (e : Interface) → list_any (λ p. same_address p (id, a)) (addresses_of d e) ≡ (is_assigned e a && bytes_eq (vpc_of_interface d e) id)
host-test d id a e =
    list_any_map (λ x. (vpc_of_interface d e, x.0)) (λ p. same_address p (id, a)) (λ x. bytes_eq (vpc_of_interface d e) id && (x.0 == a)) (λ x. refl) e.addresses
    ∙ and-any (bytes_eq (vpc_of_interface d e) id) (λ x. x.0 == a) e.addresses

-- a key stands where its address does
pub key-position : (d : Description) (t : List ℕ × ℕ) (addresses : List (List ℕ × ℕ)) → has_vpc d t.0 ≡ true → t.1 < 2 ^ 32 → AreKnown d addresses → position_or_len (λ n. n == key_of d t) (map (key_of d) addresses) ≡ position_or_len (λ p. same_address p t) addresses
key-position d t [] ht lt known = refl
key-position d t (p ∷ ps) ht lt known =
    let head = same_key d p t known.0 known.1 ht lt in
    let rest = key-position d t ps ht lt known.2 in
    ap (λ b. cond (not b) (1 + position_or_len (λ n. n == key_of d t) (map (key_of d) ps)) 0) head ∙ ap (λ n. cond (not (same_address p t)) (1 + n) 0) rest

differ-at : (ts : List (List ℕ)) (t : List ℕ) (k : ℕ) (d : List ℕ) → list_any (λ u. bytes_eq u t) ts ≡ false → k < length ts → bytes_eq (get_or ts k d) t ≡ false
differ-at ts t k d none within = by (bytes_eq (get_or ts k d) t) refl
  where
    by : (b : Bool) → bytes_eq (get_or ts k d) t ≡ b → bytes_eq (get_or ts k d) t ≡ false
    by true h =
        let there = list_any_at (λ u. bytes_eq u t) ts k d within h in
        absurd (cc)
    by false h = h

-- ids that differ are found where they stand
number-of : (vpcs : List Vpc) (k : ℕ) (d : Vpc) → AreDistinct (map (λ v. v.id) vpcs) → k < length vpcs → position_or_len (λ v. bytes_eq v.id (get_or vpcs k d).id) vpcs ≡ k
number-of [] k d differ within = absurd (omega arith)
number-of (v ∷ vs) zero d differ within =
    let same : bytes_eq v.id v.id ≡ true = (bytes_eq-Decides v.id v.id).1 refl in
    rw same refl
number-of (v ∷ vs) (suc k) d differ within =
    let inner : k < length vs = omega arith in
    let other = differ-at (map (λ w. w.id) vs) v.id k d.id differ.0 (rw (length-map vs (λ w. w.id)) inner) in
    let row = get_or-map (λ w. w.id) vs k d d.id inner in
    let apart : bytes_eq v.id (get_or vs k d).id ≡ false = bytes_eq-comm v.id (get_or vs k d).id ∙ ap (λ i. bytes_eq i v.id) (sym row) ∙ other in
    rw apart (ap (λ n. 1 + n) (number-of vs k d differ.1 inner) ∙ omega arith)

-- ---- the interface of a VPC to which an address is assigned

abbrev pub id_of : Description → VpcNo → List ℕ
id_of d v = let row = vpc_at d v in row.id

-- the key of an address by the VPC's number is that by its id
pub numbered-key : (d : Description) (v : VpcNo) (a : ℕ) → duplicate_ids d ≡ [] → v.0 < length d.vpcs → (v.0 * 4294967296 + a ≡ key_of d (id_of d v, a)) × (has_vpc d (id_of d v) ≡ true)
numbered-key d v a differ within =
    let id = id_of d v in
    let number = number-of d.vpcs v.0 no_vpc (distinct (map (λ w. w.id) d.vpcs) (vpcs-differ d differ)) within in
    let self : bytes_eq id id ≡ true = (bytes_eq-Decides id id).1 refl in
    (ap (λ n. n * 4294967296 + a) (sym number), list_any_at (λ w. bytes_eq w.id id) d.vpcs v.0 no_vpc within self)

-- what the key of an address finds is what its place among the addresses is
pub record IsPlaced (d : Description) (keys : List ℕ) (v : VpcNo) (a : ℕ) : Type 0 where
  pub first : position_or_len (λ n. n == v.0 * 4294967296 + a) keys ≡ position_or_len (λ p. same_address p (id_of d v, a)) (private_addresses d)
  pub any : list_any (λ n. n == v.0 * 4294967296 + a) keys ≡ list_any (λ p. same_address p (id_of d v, a)) (private_addresses d)

placed : (d : Description) (keys : List ℕ) (v : VpcNo) (a : ℕ) → AreKeys d (private_addresses d) keys → duplicate_ids d ≡ [] → v.0 < length d.vpcs → a < 2 ^ 32 → IsPlaced d keys v a
placed d keys v a are differ within small =
    let id = id_of d v in
    let numbered = numbered-key d v a differ within in
    let described : has_vpc d id ≡ true = numbered.1 in
    let key : v.0 * 4294967296 + a ≡ key_of d (id, a) = numbered.0 in
    let first = ap (λ k. position_or_len (λ n. n == k) keys) key ∙ ap (λ (ns : List ℕ). position_or_len (λ n. n == key_of d (id, a)) ns) are.same ∙ key-position d (id, a) (private_addresses d) described small are.known in
    let count : length keys ≡ length (private_addresses d) = ap length are.same ∙ length-map (private_addresses d) (key_of d) in
    record {
      first = first;
      any = list_any-position (λ n. n == v.0 * 4294967296 + a) keys
          ∙ ap (λ m. nat_lt m (length keys)) first
          ∙ ap (λ m. nat_lt (position_or_len (λ p. same_address p (id, a)) (private_addresses d)) m) count
          ∙ sym (list_any-position (λ p. same_address p (id, a)) (private_addresses d));
    }

-- an address is there where it is assigned
any-host : (d : Description) (v : VpcNo) (a : ℕ) → list_any (λ p. same_address p (id_of d v, a)) (private_addresses d) ≡ list_any (is_assigned_in d v a) d.interfaces
any-host d v a =
    any-flat (λ p. same_address p (id_of d v, a)) (addresses_of d) d.interfaces
    ∙ ap (λ (test : Interface → Bool). list_any test d.interfaces) (λ i e. host-test d (id_of d v) a e i)

pub host-found : (d : Description) (keys owners : List ℕ) (v : VpcNo) (a k dflt : ℕ) → AreKeys d (private_addresses d) keys → owners ≡ owners_from 0 d.interfaces → duplicate_ids d ≡ [] → v.0 < length d.vpcs → a < 2 ^ 32 → position (λ n. n == v.0 * 4294967296 + a) keys ≡ Some k → position (is_assigned_in d v a) d.interfaces ≡ Some (get_or owners k dflt)
host-found d keys owners v a k dflt are owned differ within small h =
    let found = found_number (λ n. n == v.0 * 4294967296 + a) keys k h in
    let place = placed d keys v a are differ within small in
    let q : List ℕ × ℕ → Bool = λ p. same_address p (id_of d v, a) in
    let there : list_any q (private_addresses d) ≡ true = sym place.any ∙ found.there in
    let sizes : (e : Interface) → length (addresses_of d e) ≡ length e.addresses = λ e. length-map e.addresses (λ x. (vpc_of_interface d e, x.0)) in
    let whose = owner q (addresses_of d) 0 d.interfaces dflt sizes there in
    let same : position_or_len (λ e. list_any q (addresses_of d e)) d.interfaces ≡ position_or_len (is_assigned_in d v a) d.interfaces = ap (λ (test : Interface → Bool). position_or_len test d.interfaces) (λ i e. host-test d (id_of d v) a e i) in
    let at : get_or owners k dflt ≡ position_or_len (is_assigned_in d v a) d.interfaces = ap (λ (os : List ℕ). get_or os k dflt) owned ∙ ap (λ n. get_or (owners_from 0 d.interfaces) n dflt) (sym found.number ∙ place.first) ∙ whose ∙ zero-add _ ∙ same in
    position-there (is_assigned_in d v a) d.interfaces (sym (any-host d v a) ∙ there) ∙ ap (λ (n : ℕ). Some n) (sym at)

pub host-missing : (d : Description) (keys : List ℕ) (v : VpcNo) (a : ℕ) → AreKeys d (private_addresses d) keys → duplicate_ids d ≡ [] → v.0 < length d.vpcs → a < 2 ^ 32 → position (λ n. n == v.0 * 4294967296 + a) keys ≡ None → position (is_assigned_in d v a) d.interfaces ≡ None
host-missing d keys v a are differ within small h =
    let place = placed d keys v a are differ within small in
    position-nowhere (is_assigned_in d v a) d.interfaces (sym (any-host d v a) ∙ sym place.any ∙ missing_number (λ n. n == v.0 * 4294967296 + a) keys h)

-- an owner for each key
owners-length : {X : Type 0} (g : Interface → List X) (n : ℕ) (es : List Interface) → ((e : Interface) → length (g e) ≡ length e.addresses) → length (owners_from n es) ≡ length (flat_map g es)
owners-length g n [] sizes = refl
owners-length g n (e ∷ es) sizes =
    let rest = owners-length g (n + 1) es sizes in
    length-append (replicate (length e.addresses) n) (owners_from (n + 1) es)
    ∙ ap (λ m. m + length (owners_from (n + 1) es)) (length-replicate (length e.addresses) n ∙ sym (sizes e))
    ∙ ap (λ m. length (g e) + m) rest
    ∙ sym (length-append (g e) (flat_map g es))

pub owner-within : (d : Description) (keys owners : List ℕ) (k : ℕ) → AreKeys d (private_addresses d) keys → owners ≡ owners_from 0 d.interfaces → k < length keys → k < length owners
owner-within d keys owners k are owned within =
    let sizes : (e : Interface) → length (addresses_of d e) ≡ length e.addresses = λ e. length-map e.addresses (λ x. (vpc_of_interface d e, x.0)) in
    let count : length owners ≡ length keys = ap length owned ∙ owners-length (addresses_of d) 0 d.interfaces sizes ∙ sym (ap length are.same ∙ length-map (private_addresses d) (key_of d)) in
    rw count within

-- one more interface
pub owners-next : (items now all : List ℕ) (es : List Interface) (n : ℕ) (e : Interface) → n < length es → e ≡ get_or es n e → now ≡ items ++ replicate (length e.addresses) n → items ++ owners_from n (drop n es) ≡ all → now ++ owners_from (n + 1) (drop (n + 1) es) ≡ all
owners-next items now all es n e within is added rest =
    let next : drop n es ≡ e ∷ drop (n + 1) es = drop_more es n e within ∙ ap (λ (x : Interface). x ∷ drop (n + 1) es) (sym is) in
    ap (λ (xs : List ℕ). xs ++ owners_from (n + 1) (drop (n + 1) es)) added
    ∙ append_assoc items (replicate (length e.addresses) n) (owners_from (n + 1) (drop (n + 1) es))
    ∙ ap (λ (xs : List Interface). items ++ owners_from n xs) (sym next)
    ∙ rest

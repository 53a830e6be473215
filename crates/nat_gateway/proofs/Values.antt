-- Look-ups in tables, and what they have of the first entries of a list.
use Rattle.std.proofs.Common.{Bool, List, None, Option, Some, [], add-one, ap, ap₂, arith, cond, false, find, get_or, inl, inr, is_eq, is_some, length, length-append, nat_cmp, option_map, refl, subst, sym, take, true, ℕ, ◌++◌, ◌+◌, ◌<◌, ◌==◌, ◌∙◌, ◌∷◌, ◌≡◌}
use Rattle.std.specs.Map.{lookup}
use Rattle.std.specs.Option.{option_or}
use Rattle.vpc_base.proofs.Lemmas.{and_comm, and_parts, cases_Bool, find-append, none_if, take-append-le, take-suc}
use Rattle.conn_tracking.specs.Order.{order_by_ports}
use Rattle.conn_tracking.proofs.Lookups.{is_eq-number, is_eq-then, order_by_ports_is_same}
use Rattle.nat_gateway.specs.Terms.{AreValues, IsFirst, Sent, order_of_sent, same_sent, value_at}
use Rattle.vpc_laws.specs.Types.{Header, NatNo}
use Rattle.vpc_laws.proofs.Same.{NatNo-same, same_header-true}
use Rattle.vpc_model.specs.Terms.{Translation, same_header}

lookup-alike : {K X : Type 0} (p q : K → Bool) → ((k : K) → p k ≡ q k) → (es : List (K × X)) → lookup p es ≡ lookup q es
lookup-alike p q alike [] = refl
lookup-alike p q alike (e ∷ es) = rw (alike e.0, lookup-alike p q alike es)

-- ---- keys

-- the order tells headers at gateways apart
order_is_same_sent : (a b : Sent) → is_eq (order_of_sent a b) ≡ same_sent a b
order_is_same_sent a b =
    is_eq-then (order_by_ports a.header b.header) (nat_cmp a.nat.0 b.nat.0) (same_header a.header b.header) (a.nat.0 == b.nat.0)
    (order_by_ports_is_same a.header b.header) (is_eq-number a.nat.0 b.nat.0)
    ∙ and_comm (same_header a.header b.header) (a.nat.0 == b.nat.0)

pub same_sent-true : (a b : Sent) → same_sent a b ≡ true → a ≡ b
same_sent-true a b e =
    let parts = and_parts (a.nat.0 == b.nat.0) (same_header a.header b.header) e in
    let make : NatNo → Header → Sent = λ n h. record { nat = n; header = h } in
    ap₂ make (NatNo-same a.nat b.nat parts.0) (same_header-true a.header b.header parts.1)

-- ---- tables

pub search_is_value : {W : Type 0} (table : List (Sent × W)) (key : Sent) → lookup (λ k. is_eq (order_of_sent key k)) table ≡ value_at table key
search_is_value table key = lookup-alike (λ k. is_eq (order_of_sent key k)) (same_sent key) (order_is_same_sent key) table

-- a value that is put is found by its key, and changes no other
pub put_is_value : {W : Type 0} (old new : List (Sent × W)) (key : Sent) (v : W)
    → ((k : Sent) → lookup (λ q. is_eq (order_of_sent k q)) new ≡ cond (is_eq (order_of_sent key k)) (Some v) (lookup (λ q. is_eq (order_of_sent k q)) old))
    → (k : Sent) → value_at new k ≡ cond (same_sent key k) (Some v) (value_at old k)
put_is_value old new key v updates k = sym (search_is_value new k) ∙ updates k ∙ rw (order_is_same_sent key k, search_is_value old k) refl

-- ---- the first value of each key

find-one : {X : Type 0} (p : X → Bool) (xs : List X) (x : X) → find p (xs ++ x ∷ []) ≡ option_or (find p xs) (cond (p x) (Some x) None)
find-one p xs x = find-append p xs (x ∷ [])

found-one : {W : Type 0} (value_of : Translation → W) (p : Translation → Bool) (ts : List Translation) (t : Translation) (b : Bool) → p t ≡ b
    → option_map value_of (find p (ts ++ t ∷ [])) ≡ option_map value_of (option_or (find p ts) (cond b (Some t) None))
found-one value_of p ts t b e = ap (λ o. option_map value_of o) (find-one p ts t) ∙ ap (λ d. option_map value_of (option_or (find p ts) (cond d (Some t) None))) e

-- what is found stays
keep : {W : Type 0} (f : Translation → W) (a b : Option Translation) (r : Option W) → r ≡ option_map f a → is_some r ≡ true → r ≡ option_map f (option_or a b)
keep f (Some t) b r e some = e
keep f None b r e some = let none : is_some r ≡ false = ap is_some e in cc

-- nothing more is found
same : {W : Type 0} (f : Translation → W) (a : Option Translation) → option_map f a ≡ option_map f (option_or a None)
same f (Some t) = refl
same f None = refl

-- what is new is found
new : {W : Type 0} (f : Translation → W) (a : Option Translation) (t : Translation) (r : Option W) → r ≡ option_map f a → r ≡ None → Some (f t) ≡ option_map f (option_or a (Some t))
new f None t r e none = refl
new f (Some u) t r e none = let x : None ≡ Some (f u) = sym none ∙ e in cc

-- a translation of a key that the table has changes nothing
pub values_keep : {W : Type 0} (key_of : Translation → Sent) (value_of : Translation → W) (table : List (Sent × W)) (ts : List Translation) (t : Translation)
    → is_some (value_at table (key_of t)) ≡ true → AreValues key_of value_of table ts → AreValues key_of value_of table (ts ++ t ∷ [])
values_keep key_of value_of table ts t has all = record {
  at = λ k.
      elim (cases_Bool (same_sent (key_of t) k)) [
        | inl here ↦
            let e = same_sent-true (key_of t) k here in
            let some = subst (λ (q : Sent). is_some (value_at table q) ≡ true) e has in
            keep value_of (find (λ u. same_sent (key_of u) k) ts) (Some t) (value_at table k) (all.at k) some ∙ sym (found-one value_of (λ u. same_sent (key_of u) k) ts t true here)
        | inr other ↦
            all.at k ∙ same value_of (find (λ u. same_sent (key_of u) k) ts) ∙ sym (found-one value_of (λ u. same_sent (key_of u) k) ts t false other)
      ];
}

-- one of a key that the table doesn't have is put
pub values_put : {W : Type 0} (key_of : Translation → Sent) (value_of : Translation → W) (old more : List (Sent × W)) (ts : List Translation) (t : Translation)
    → value_at old (key_of t) ≡ None → ((k : Sent) → value_at more k ≡ cond (same_sent (key_of t) k) (Some (value_of t)) (value_at old k))
    → AreValues key_of value_of old ts → AreValues key_of value_of more (ts ++ t ∷ [])
values_put key_of value_of old more ts t none put all = record {
  at = λ k.
      elim (cases_Bool (same_sent (key_of t) k)) [
        | inl here ↦
            let e = same_sent-true (key_of t) k here in
            let nothing = subst (λ (q : Sent). value_at old q ≡ None) e none in
            put k ∙ rw here (new value_of (find (λ u. same_sent (key_of u) k) ts) t (value_at old k) (all.at k) nothing) ∙ sym (found-one value_of (λ u. same_sent (key_of u) k) ts t true here)
        | inr other ↦
            put k ∙ rw other (all.at k ∙ same value_of (find (λ u. same_sent (key_of u) k) ts)) ∙ sym (found-one value_of (λ u. same_sent (key_of u) k) ts t false other)
      ];
}

-- ---- the first entries of a list

pub first-more : {T : Type 0} (Are : T → List Translation → Type 0) (old new : T) (count : ℕ) (ts : List Translation) (t : Translation)
    → IsFirst Are old count ts → count < length ts → t ≡ get_or ts count t
    → ((us : List Translation) → Are old us → Are new (us ++ t ∷ [])) → IsFirst Are new (count + 1) ts
first-more Are old new count ts t first below at added = record {
  within = omega arith;
  first =
      let longer = take-suc ts count t below in
      let next : take (count + 1) ts ≡ take count ts ++ t ∷ [] = rw add-one (longer ∙ ap (λ u. take count ts ++ u ∷ []) (sym at)) in
      subst (Are new) (sym next) (added (take count ts) first.first);
}

pub first-same : {T : Type 0} (Are : T → List Translation → Type 0) (old new : T) (count : ℕ) (ts : List Translation)
    → IsFirst Are old count ts → ((us : List Translation) → Are old us → Are new us) → IsFirst Are new count ts
first-same Are old new count ts first stays = record { within = first.within; first = stays (take count ts) first.first }

pub first-longer : {T : Type 0} (Are : T → List Translation → Type 0) (table : T) (count : ℕ) (ts : List Translation) (t : Translation)
    → IsFirst Are table count ts → IsFirst Are table count (ts ++ t ∷ [])
first-longer Are table count ts t first = record {
  within = let e = length-append ts (t ∷ []) in let k = first.within in omega arith;
  first = subst (Are table) (sym (take-append-le count ts (t ∷ []) first.within)) first.first;
}

-- ---- the same, as the code has it

pub values_had : {W : Type 0} (key_of : Translation → Sent) (value_of : Translation → W) (table : List (Sent × W)) (ts : List Translation) (t : Translation) (key : Sent) (r : Option W)
    → key ≡ key_of t → r ≡ value_at table key → is_some r ≡ true → AreValues key_of value_of table ts → AreValues key_of value_of table (ts ++ t ∷ [])
values_had key_of value_of table ts t key r e is some all =
    values_keep key_of value_of table ts t (ap (λ (s : Sent). is_some (value_at table s)) (sym e) ∙ ap is_some (sym is) ∙ some) all

pub values_added : {W : Type 0} (key_of : Translation → Sent) (value_of : Translation → W) (old more : List (Sent × W)) (ts : List Translation) (t : Translation) (key : Sent) (v : W) (r : Option W)
    → key ≡ key_of t → v ≡ value_of t → r ≡ value_at old key → is_some r ≡ false → ((k : Sent) → value_at more k ≡ cond (same_sent key k) (Some v) (value_at old k))
    → AreValues key_of value_of old ts → AreValues key_of value_of more (ts ++ t ∷ [])
values_added {W = W} key_of value_of old more ts t key v r e f is none put all =
    values_put key_of value_of old more ts t (ap (value_at old) (sym e) ∙ sym is ∙ none_if r none)
    (λ k. put k ∙ ap (λ (s : Sent). cond (same_sent s k) (Some v) (value_at old k)) e ∙ ap (λ (x : W). cond (same_sent (key_of t) k) (Some x) (value_at old k)) f) all

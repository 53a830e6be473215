-- One more translation in each table, and look-ups in a table and the rest of its list.
use Rattle.std.proofs.Common.{Bool, Err, List, None, Ok, OnErr, OnOk, Option, Result, Some, [], ap, arith, cond, count_by, drop, false, find, inl, inr, is_some, min, nat_le, option_and_then, option_map, refl, subst, sym, take, true, unwrap_or, ℕ, ◌&&◌, ◌++◌, ◌+◌, ◌-◌, ◌<◌, ◌==◌, ◌||◌, ◌∙◌, ◌∷◌, ◌≡◌, ◌≤◌}
use Rattle.vpc_base.proofs.Lemmas.{cases_Bool, count_by-push, list_any-append, list_any-take-drop, nat_tests}
use Rattle.vpc_base.specs.Header.{opening_of}
use Rattle.conn_tracking.proofs.Lookups.{answers_open}
use Rattle.nat_gateway.specs.Terms.{Afters, AllUsed, AreCounts, ArePorts, AreValues, Befores, Counts, HasAfters, HasBefores, HasCounts, IsFirst, IsKept, SameUsed, Sent, flow_of, is_taken_beside, is_used, made_into, same_sent, value_at, with_port}
use Rattle.nat_gateway.proofs.Lists.{count_by-take-drop, first_free-alike, first_free-nothing, first_free-over, found-take-drop, free_here, free_later}
use Rattle.nat_gateway.proofs.Runs.{IsPut}
use Rattle.nat_gateway.proofs.Values.{first-longer, same_sent-true}
use Rattle.vpc_laws.proofs.Books.{IsBook-nil}
use Rattle.vpc_laws.specs.Translations.{IsBook}
use Rattle.vpc_laws.specs.Types.{Header, NatNo}
use Rattle.vpc_base.specs.Header.{reply_of}
use Rattle.vpc_model.specs.Terms.{Translation, first_free, inward, is_full, is_header, is_taken, same_header, shares}

-- ---- taken ports

regroup : (nat proto dst q p : Bool) → (nat && (proto && (true && (dst && (p && q))))) ≡ ((nat && (proto && (dst && q))) && p)
regroup false proto dst q p = refl
regroup true false dst q p = refl
regroup true true false q p = refl
regroup true true true true true = refl
regroup true true true true false = refl
regroup true true true false true = refl
regroup true true true false false = refl

-- the port of a translation is this one of a gateway and header
port_of_is : (t : Translation) (n : NatNo) (h : Header) (port : ℕ) → same_sent (with_port (flow_of t.nat t.after) t.after.p) (with_port (flow_of n h) port) ≡ (shares n h t && (t.after.p == port))
port_of_is t n h port = regroup (t.nat.0 == n.0) (t.after.proto == h.proto) (t.after.dst == h.dst) (t.after.q == h.q) (t.after.p == port)

some-or : (b : Bool) (v : ℕ) (o r : Option ℕ) → r ≡ cond b (Some v) o → is_some r ≡ (is_some o || b)
some-or true v (Some x) r e = ap is_some e
some-or true v None r e = ap is_some e
some-or false v (Some x) r e = ap is_some e
some-or false v None r e = ap is_some e

or-last : (a b : Bool) → (a || b) ≡ (a || (b || false))
or-last true b = refl
or-last false true = refl
or-last false false = refl

-- one more taken port
pub ports-take : (old new : List (Sent × ℕ)) (ts : List Translation) (t : Translation) → IsPut old new (with_port (flow_of t.nat t.after) t.after.p) (t.after.p + 1) → ArePorts old ts → ArePorts new (ts ++ t ∷ [])
ports-take old new ts t put all n h port =
    let key = with_port (flow_of t.nat t.after) t.after.p in
    let at = with_port (flow_of n h) port in
    some-or (same_sent key at) (t.after.p + 1) (value_at old at) (value_at new at) (put.at at)
    ∙ rw (port_of_is t n h port, all n h port) (or-last (is_taken ts n h port) (shares n h t && (t.after.p == port)))
    ∙ sym (list_any-append (λ s. shares n h s && (s.after.p == port)) ts (t ∷ []))

-- ---- counts

and-true : (nat proto dst q : Bool) → (nat && (proto && (true && (dst && (true && q))))) ≡ (nat && (proto && (dst && q)))
and-true nat proto dst q = refl

flow_of_is : (t : Translation) (n : NatNo) (h : Header) → same_sent (flow_of t.nat t.after) (flow_of n h) ≡ shares n h t
flow_of_is t n h = and-true (t.nat.0 == n.0) (t.after.proto == h.proto) (t.after.dst == h.dst) (t.after.q == h.q)

capped : (count many : ℕ) → count ≡ min many 55000 → count < 55000 → count + 1 ≡ min (many + 1) 55000
capped count many e below = omega arith

capped-full : (count many : ℕ) (b : Bool) → count ≡ min many 55000 → 55000 ≤ count → count ≡ min (many + cond b 1 0) 55000
capped-full count many true e full = omega arith
capped-full count many false e full = omega arith

-- one more that is counted
counts-put-at : (old new : List (Sent × ℕ)) (ts : List Translation) (t : Translation) (count : ℕ) → count ≡ unwrap_or (value_at old (flow_of t.nat t.after)) 0 → count < 55000
    → IsPut old new (flow_of t.nat t.after) (count + 1) → AreCounts old ts → AreCounts new (ts ++ t ∷ [])
counts-put-at old new ts t count is room put all n h =
    let key : Sent = flow_of t.nat t.after in
    let at : Sent = flow_of n h in
    elim (cases_Bool (same_sent key at)) [
      | inl here ↦
          let same : key ≡ at = same_sent-true key at here in
          let moved : unwrap_or (value_at old key) 0 ≡ unwrap_or (value_at old at) 0 = ap (λ (s : Sent). unwrap_or (value_at old s) 0) same in
          let was : count ≡ min (count_by (shares n h) ts) 55000 = is ∙ moved ∙ all n h in
          let value : value_at new at ≡ Some (count + 1) = put.at at ∙ rw here refl in
          let now : unwrap_or (value_at new at) 0 ≡ count + 1 = ap (λ (o : Option ℕ). unwrap_or o 0) value in
          let hit : shares n h t ≡ true = sym (flow_of_is t n h) ∙ here in
          let one : count_by (shares n h) (ts ++ t ∷ []) ≡ count_by (shares n h) ts + 1 = count_by-push (shares n h) ts t ∙ ap (λ (b : Bool). count_by (shares n h) ts + cond b 1 0) hit in
          now ∙ capped count (count_by (shares n h) ts) was room ∙ ap (λ (k : ℕ). min k 55000) (sym one)
      | inr other ↦
          let value : value_at new at ≡ value_at old at = put.at at ∙ rw other refl in
          let now : unwrap_or (value_at new at) 0 ≡ unwrap_or (value_at old at) 0 = ap (λ (o : Option ℕ). unwrap_or o 0) value in
          let miss : shares n h t ≡ false = sym (flow_of_is t n h) ∙ other in
          let none : count_by (shares n h) (ts ++ t ∷ []) ≡ count_by (shares n h) ts + 0 = count_by-push (shares n h) ts t ∙ ap (λ (b : Bool). count_by (shares n h) ts + cond b 1 0) miss in
          let less : count_by (shares n h) (ts ++ t ∷ []) ≡ count_by (shares n h) ts = omega arith in
          now ∙ all n h ∙ ap (λ (k : ℕ). min k 55000) (sym less)
    ]

-- 55,000 stand for more too
counts-full-at : (table : List (Sent × ℕ)) (ts : List Translation) (t : Translation) (count : ℕ) → count ≡ unwrap_or (value_at table (flow_of t.nat t.after)) 0 → 55000 ≤ count
    → AreCounts table ts → AreCounts table (ts ++ t ∷ [])
counts-full-at table ts t count is full all n h =
    let key : Sent = flow_of t.nat t.after in
    let at : Sent = flow_of n h in
    let pushed = count_by-push (shares n h) ts t in
    elim (cases_Bool (same_sent key at)) [
      | inl here ↦
          let same : key ≡ at = same_sent-true key at here in
          let moved : unwrap_or (value_at table key) 0 ≡ unwrap_or (value_at table at) 0 = ap (λ (s : Sent). unwrap_or (value_at table s) 0) same in
          let now : unwrap_or (value_at table at) 0 ≡ count = sym (is ∙ moved) in
          let was : count ≡ min (count_by (shares n h) ts) 55000 = sym now ∙ all n h in
          now ∙ capped-full count (count_by (shares n h) ts) (shares n h t) was full ∙ ap (λ (k : ℕ). min k 55000) (sym pushed)
      | inr other ↦
          let miss : shares n h t ≡ false = sym (flow_of_is t n h) ∙ other in
          let none : count_by (shares n h) (ts ++ t ∷ []) ≡ count_by (shares n h) ts + 0 = pushed ∙ ap (λ (b : Bool). count_by (shares n h) ts + cond b 1 0) miss in
          let less : count_by (shares n h) (ts ++ t ∷ []) ≡ count_by (shares n h) ts = omega arith in
          all n h ∙ ap (λ (k : ℕ). min k 55000) (sym less)
    ]

-- ---- look-ups in a table and the rest

-- what the table has is found first
pub value-in_table : {V : Type 0} (key_of : Translation → Sent) (value_of : Translation → V) (table : List (Sent × V)) (count : ℕ) (ts : List Translation) (key : Sent) (v : V)
    → AreValues key_of value_of table (take count ts) → value_at table key ≡ Some v → Some v ≡ option_map value_of (find (λ t. same_sent (key_of t) key) ts)
value-in_table key_of value_of table count ts key v first is =
    let at = sym is ∙ first.at key in
    let all = found-take-drop value_of (λ t. same_sent (key_of t) key) count ts in
    sym (all ∙ rw (← at) refl)

-- what it doesn't have is found in the rest
pub value-in_rest : {V : Type 0} (key_of : Translation → Sent) (value_of : Translation → V) (table : List (Sent × V)) (count : ℕ) (ts later : List Translation) (key : Sent) (r : Option V)
    → AreValues key_of value_of table (take count ts) → value_at table key ≡ None → later ≡ drop count ts
    → r ≡ option_map value_of (find (λ t. same_sent (key_of t) key) later) → r ≡ option_map value_of (find (λ t. same_sent (key_of t) key) ts)
value-in_rest key_of value_of table count ts later key r first none is rest =
    let at = sym none ∙ first.at key in
    let all = found-take-drop value_of (λ t. same_sent (key_of t) key) count ts in
    rest ∙ ap (λ (us : List Translation). option_map value_of (find (λ t. same_sent (key_of t) key) us)) is ∙ sym (all ∙ rw (← at) refl)

full-alike : (a b all count : ℕ) → a + b ≡ all → count ≡ min a 55000 → nat_le (55000 - count) b ≡ nat_le 55000 all
full-alike a b all count e is = grind (arith, nat_tests)

-- a flow is full where the table and the rest together have 55,000
pub full-by-rest : (table : List (Sent × ℕ)) (count : ℕ) (ts : List Translation) (later : List Translation) (n : NatNo) (h : Header) (known rest : ℕ)
    → AreCounts table (take count ts) → known ≡ unwrap_or (value_at table (flow_of n h)) 0 → later ≡ drop count ts → rest ≡ count_by (shares n h) later → nat_le (55000 - known) rest ≡ is_full ts n h
full-by-rest table count ts later n h known rest first is tail at =
    full-alike (count_by (shares n h) (take count ts)) rest (count_by (shares n h) ts) known
    (ap (λ (k : ℕ). count_by (shares n h) (take count ts) + k) (at ∙ ap (count_by (shares n h)) tail) ∙ count_by-take-drop (shares n h) count ts) (is ∙ first n h)

-- a port is free of all where it is free of the table and the rest
pub free-beside : (table : List (Sent × ℕ)) (count : ℕ) (ts later : List Translation) (n : NatNo) (h : Header) (k port : ℕ) (o : Option ℕ)
    → ArePorts table (take count ts) → later ≡ drop count ts → o ≡ first_free (is_taken_beside table later n h) k port → o ≡ first_free (is_taken ts n h) k port
free-beside table count ts later n h k port o first tail is =
    is ∙ first_free-alike (is_taken_beside table later n h) (is_taken ts n h)
    (λ x. ap (λ (b : Bool). b || is_taken later n h x) (first n h x) ∙ ap (λ (us : List Translation). is_taken (take count ts) n h x || is_taken us n h x) tail
    ∙ sym (list_any-take-drop (λ t. shares n h t && (t.after.p == x)) count ts)) k port

-- the table may have other ends for the same ports
pub ports-same : (old new : List (Sent × ℕ)) (count : ℕ) (ts : List Translation) → SameUsed new old → IsFirst ArePorts old count ts → IsFirst ArePorts new count ts
ports-same old new count ts same first = record { within = first.within; first = λ n h port. same (flow_of n h) port ∙ first.first n h port }

-- ---- answers

find-alike : {X : Type 0} (p q : X → Bool) → ((x : X) → p x ≡ q x) → (xs : List X) → find p xs ≡ find q xs
find-alike p q alike [] = refl
find-alike p q alike (x ∷ xs) = rw (alike x, find-alike p q alike xs) refl

find-none : {X : Type 0} (p : X → Bool) → ((x : X) → p x ≡ false) → (xs : List X) → find p xs ≡ None
find-none p none [] = refl
find-none p none (x ∷ xs) = rw (none x) (find-none p none xs)

then-reply : (o : Option Translation) → option_and_then (λ (t : Translation). reply_of t.before) o ≡ option_and_then reply_of (option_map (λ (t : Translation). t.before) o)
then-reply (Some t) = refl
then-reply None = refl

same_header-flip : (a b : Header) → same_header a b ≡ same_header b a
same_header-flip a b = grind (arith, nat_tests)

-- an answer is one to the open that the gateway made into the open that it answers
pub inward-by_open : (ts : List Translation) (n : NatNo) (h k : Header) (before r : Option Header) → opening_of h ≡ Some k → before ≡ option_map (λ (t : Translation). t.before) (made_into ts n k) → r ≡ option_and_then reply_of before → r ≡ inward ts n h
inward-by_open ts n h k before r e was is =
    let one : (t : Translation) → ((t.nat.0 == n.0) && is_header h (reply_of t.after)) ≡ ((t.nat.0 == n.0) && same_header t.after k) = λ t. ap (λ b. (t.nat.0 == n.0) && b) (answers_open t.after h ∙ ap (is_header t.after) e ∙ same_header-flip k t.after) in
    let found = find-alike (λ t. (t.nat.0 == n.0) && is_header h (reply_of t.after)) (λ t. (t.nat.0 == n.0) && same_header t.after k) one ts in
    is ∙ ap (option_and_then reply_of) was ∙ sym (then-reply (made_into ts n k)) ∙ ap (option_and_then (λ (t : Translation). reply_of t.before)) (sym found)

-- and there is none to what answers no open
pub inward-without_open : (ts : List Translation) (n : NatNo) (h : Header) → opening_of h ≡ None → None ≡ inward ts n h
inward-without_open ts n h e =
    let both : (a : Bool) → (a && false) ≡ false = elim [ true ↦ refl | false ↦ refl ] in
    let one : (t : Translation) → ((t.nat.0 == n.0) && is_header h (reply_of t.after)) ≡ false = λ t. ap (λ b. (t.nat.0 == n.0) && b) (answers_open t.after h ∙ ap (is_header t.after) e) ∙ both (t.nat.0 == n.0) in
    ap (option_and_then (λ (t : Translation). reply_of t.before)) (sym (find-none (λ t. (t.nat.0 == n.0) && is_header h (reply_of t.after)) one ts))

-- ---- the same, as the code has it

pub counts-put : (old new : List (Sent × ℕ)) (ts : List Translation) (t : Translation) (flow : Sent) (count : ℕ) → flow ≡ flow_of t.nat t.after → count ≡ unwrap_or (value_at old flow) 0 → count < 55000
    → ((k : Sent) → value_at new k ≡ cond (same_sent flow k) (Some (count + 1)) (value_at old k)) → AreCounts old ts → AreCounts new (ts ++ t ∷ [])
counts-put old new ts t flow count e is room put all =
    let key : Sent = flow_of t.nat t.after in
    let moved : unwrap_or (value_at old flow) 0 ≡ unwrap_or (value_at old key) 0 = ap (λ (s : Sent). unwrap_or (value_at old s) 0) e in
    counts-put-at old new ts t count (is ∙ moved) room (subst (λ (s : Sent). IsPut old new s (count + 1)) e (record { at = put })) all

pub counts-full : (table : List (Sent × ℕ)) (ts : List Translation) (t : Translation) (flow : Sent) (count : ℕ) → flow ≡ flow_of t.nat t.after → count ≡ unwrap_or (value_at table flow) 0 → 55000 ≤ count
    → AreCounts table ts → AreCounts table (ts ++ t ∷ [])
counts-full table ts t flow count e is full all =
    let key : Sent = flow_of t.nat t.after in
    let moved : unwrap_or (value_at table flow) 0 ≡ unwrap_or (value_at table key) 0 = ap (λ (s : Sent). unwrap_or (value_at table s) 0) e in
    counts-full-at table ts t count (is ∙ moved) full all

pub ports-taken : (old new : List (Sent × ℕ)) (ts : List Translation) (t : Translation) (key : Sent) → key ≡ with_port (flow_of t.nat t.after) t.after.p
    → ((k : Sent) → value_at new k ≡ cond (same_sent key k) (Some (key.header.p + 1)) (value_at old k)) → ArePorts old ts → ArePorts new (ts ++ t ∷ [])
ports-taken old new ts t key e put all =
    ports-take old new ts t (subst (λ (s : Sent). IsPut old new s (s.header.p + 1)) e (record { at = put })) all

-- ---- answers of a call

pub either : {X E : Type 0} (r : Result X E) {P Q R : Type 0} → OnOk r P → OnErr r Q → (P → R) → (Q → R) → R
either (Ok x) p q f g = f p
either (Err e) p q f g = g q

-- ---- the first free port beside a table

used-beside : (table now : List (Sent × ℕ)) (later : List Translation) (n : NatNo) (h : Header) (flow : Sent) (from end : ℕ) → flow ≡ flow_of n h → SameUsed now table → AllUsed now flow from end
    → (x : ℕ) → from ≤ x → x < end → is_taken_beside table later n h x ≡ true
used-beside table now later n h flow from end e same all x a b =
    let here : is_used table (flow_of n h) x ≡ true = sym (same (flow_of n h) x) ∙ subst (λ (s : Sent). is_used now s x ≡ true) e (all x a b) in
    ap (λ (u : Bool). u || is_taken later n h x) here

pub beside-nothing : (table now : List (Sent × ℕ)) (later : List Translation) (n : NatNo) (h : Header) (flow : Sent) (port free end : ℕ) (o : Option ℕ) → flow ≡ flow_of n h → SameUsed now table → AllUsed now flow port free
    → port ≤ end → end ≤ free → first_free (is_taken_beside table later n h) (end - port) port ≡ o → None ≡ o
beside-nothing table now later n h flow port free end o e same all from past rest =
    sym (first_free-nothing (is_taken_beside table later n h) port free end from past (used-beside table now later n h flow port free e same all)) ∙ rest

beside-at : (table now : List (Sent × ℕ)) (later : List Translation) (n : NatNo) (h : Header) (flow : Sent) (port free end : ℕ) (o : Option ℕ) → flow ≡ flow_of n h → SameUsed now table → AllUsed now flow port free
    → port ≤ free → free < end → first_free (is_taken_beside table later n h) (end - port) port ≡ o → first_free (is_taken_beside table later n h) (end - free) free ≡ o
beside-at table now later n h flow port free end o e same all from below rest =
    sym (first_free-over (is_taken_beside table later n h) port free end from (omega arith) (used-beside table now later n h flow port free e same all)) ∙ rest

unused-beside : (table now : List (Sent × ℕ)) (n : NatNo) (h : Header) (flow : Sent) (x : ℕ) (b : Bool) → flow ≡ flow_of n h → SameUsed now table → is_used now flow x ≡ b → is_used table (flow_of n h) x ≡ b
unused-beside table now n h flow x b e same is = sym (same (flow_of n h) x) ∙ subst (λ (s : Sent). is_used now s x ≡ b) e is

pub beside-free : (table now : List (Sent × ℕ)) (later : List Translation) (n : NatNo) (h : Header) (flow : Sent) (port free end : ℕ) (o : Option ℕ) (r : Bool) → flow ≡ flow_of n h → SameUsed now table → AllUsed now flow port free
    → port ≤ free → free < end → is_used now flow free ≡ false → r ≡ is_taken later n h free → r ≡ false → first_free (is_taken_beside table later n h) (end - port) port ≡ o → Some free ≡ o
beside-free table now later n h flow port free end o r e same all from below unused is none rest =
    let here : is_taken_beside table later n h free ≡ r = ap (λ (u : Bool). u || is_taken later n h free) (unused-beside table now n h flow free false e same unused) ∙ sym is in
    free_here (is_taken_beside table later n h) free end r o below (beside-at table now later n h flow port free end o e same all from below rest) (sym here) none

pub beside-next : (table now : List (Sent × ℕ)) (later : List Translation) (n : NatNo) (h : Header) (flow : Sent) (port free end : ℕ) (o : Option ℕ) (r : Bool) → flow ≡ flow_of n h → SameUsed now table → AllUsed now flow port free
    → port ≤ free → free < end → is_used now flow free ≡ false → r ≡ is_taken later n h free → r ≡ true → first_free (is_taken_beside table later n h) (end - port) port ≡ o
    → first_free (is_taken_beside table later n h) (end - (free + 1)) (free + 1) ≡ o
beside-next table now later n h flow port free end o r e same all from below unused is used rest =
    let here : is_taken_beside table later n h free ≡ r = ap (λ (u : Bool). u || is_taken later n h free) (unused-beside table now n h flow free false e same unused) ∙ sym is in
    free_later (is_taken_beside table later n h) free end r o below (beside-at table now later n h flow port free end o e same all from below rest) (sym here) used

-- ---- books

kept_nothing : IsKept [] (record { table = [] }) 0 (record { table = [] }) 0 [] 0 (record { table = [] }) 0
kept_nothing = record {
  in_order = IsBook-nil;
  afters = record { within = omega arith; first = record { at = λ k. refl } };
  befores = record { within = omega arith; first = record { at = λ k. refl } };
  ports = record { within = omega arith; first = λ n h port. refl };
  counts = record { within = omega arith; first = λ n h. refl };
}

pub kept_new : (ts : List Translation) (a b : List (Sent × Header)) (p c : List (Sent × ℕ)) → ts ≡ [] → a ≡ [] → b ≡ [] → p ≡ [] → c ≡ []
    → IsKept ts (record { table = a }) 0 (record { table = b }) 0 p 0 (record { table = c }) 0
kept_new ts a b p c e f g h i = rw (e, f, g, h, i) kept_nothing

-- one more translation, which no table has yet
pub kept_longer : (ts : List Translation) (a : Afters) (i : ℕ) (b : Befores) (j : ℕ) (p : List (Sent × ℕ)) (k : ℕ) (c : Counts) (l : ℕ) (t : Translation)
    → IsKept ts a i b j p k c l → IsBook (ts ++ t ∷ []) → IsKept (ts ++ t ∷ []) a i b j p k c l
kept_longer ts a i b j p k c l t kept book = record {
  in_order = book;
  afters = first-longer HasAfters a i ts t kept.afters;
  befores = first-longer HasBefores b j ts t kept.befores;
  ports = first-longer ArePorts p k ts t kept.ports;
  counts = first-longer HasCounts c l ts t kept.counts;
}

-- the table of ports may have other ends
pub kept_same : (ts : List Translation) (a : Afters) (i : ℕ) (b : Befores) (j : ℕ) (p q : List (Sent × ℕ)) (k : ℕ) (c : Counts) (l : ℕ)
    → IsKept ts a i b j p k c l → SameUsed q p → IsKept ts a i b j q k c l
kept_same ts a i b j p q k c l kept same = record { in_order = kept.in_order; afters = kept.afters; befores = kept.befores; ports = ports-same p q k ts same kept.ports; counts = kept.counts }

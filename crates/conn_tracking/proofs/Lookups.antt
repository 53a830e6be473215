-- Look-ups among connections.
use Rattle.std.proofs.Common.{Bool, List, None, Some, [], ap, arith, cond, drop, false, get_or, is_eq, length, length-append, nat_cmp, refl, sym, take, true, ℕ, ◌&&◌, ◌++◌, ◌+◌, ◌<◌, ◌==◌, ◌||◌, ◌∙◌, ◌∷◌, ◌≡◌}
use Rattle.std.specs.Cmp.{eq_by_cmp_equiv}
use Rattle.std.specs.List.{list_any}
use Rattle.std.specs.Ordering.{bool_cmp, ordering_then}
use Rattle.std.specs.declared.cmp.Ordering.{Ordering}
use Rattle.std.specs.declared.cmp.Ordering.TheVariants.{Equal, Greater, Less}
use Rattle.vpc_base.proofs.Lemmas.{and_comm, eqb-comm, list_any-agree, list_any-take-drop, list_any_more, nat_tests, take-append-le}
use Rattle.vpc_base.specs.Terms.{opening_of, opposite, reply_of, same_dir}
use Rattle.vpc_base.specs.declared.headers.Dir.TheVariants.{Inward, Outward}
use Rattle.vpc_model.specs.declared.numbers.EniNo.{EniNo}
use Rattle.vpc_model.specs.Types.{Dir, Header}
use Rattle.vpc_model.specs.Connections.{Connection, is_header, is_tracked, same_connection, same_header}
use Rattle.conn_tracking.specs.Order.{dir_is_outward, order_by_ports, order_of_connections, order_of_connections_total, order_of_ports}
use Rattle.conn_tracking.specs.Tracked.{AreFirst}

-- ---- lists

list_any-none : {X : Type 0} (p : X → Bool) → ((x : X) → p x ≡ false) → (xs : List X) → list_any p xs ≡ false
list_any-none p none [] = refl
list_any-none p none (x ∷ xs) = rw (none x, list_any-none p none xs)

-- ---- connections in order

-- nothing differs where neither part does
pub is_eq-then : (x y : Ordering) (b c : Bool) → is_eq x ≡ b → is_eq y ≡ c → is_eq (ordering_then x y) ≡ (b && c)
is_eq-then x y b c e f = parts x ∙ ap (λ (d : Bool). d && is_eq y) e ∙ ap (λ (d : Bool). b && d) f
  where
    parts : (o : Ordering) → is_eq (ordering_then o y) ≡ (is_eq o && is_eq y)
    parts Less = refl
    parts Equal = refl
    parts Greater = refl

pub is_eq-number : (x y : ℕ) → is_eq (nat_cmp x y) ≡ (x == y)
is_eq-number x y = grind (arith, nat_tests)

is_eq-dir : (d e : Dir) → is_eq (bool_cmp (dir_is_outward d) (dir_is_outward e)) ≡ same_dir d e
is_eq-dir Inward Inward = refl
is_eq-dir Inward Outward = refl
is_eq-dir Outward Inward = refl
is_eq-dir Outward Outward = refl

fields-turned : (p q dst src proto : Bool) → ((((p && q) && dst) && src) && proto) ≡ (proto && (src && (dst && (p && q))))
fields-turned p q dst src proto =
    and_comm (((p && q) && dst) && src) proto
    ∙ ap (λ (b : Bool). proto && b) (and_comm ((p && q) && dst) src ∙ ap (λ (b : Bool). src && b) (and_comm (p && q) dst))

-- the order tells headers apart
pub order_by_ports_is_same : (a b : Header) → is_eq (order_by_ports a b) ≡ same_header a b
order_by_ports_is_same a b =
    let p = a.p == b.p in
    let q = a.q == b.q in
    let dst = a.dst == b.dst in
    let src = a.src == b.src in
    let proto = a.proto == b.proto in
    let ports = order_of_ports a b in
    let to = ordering_then ports (nat_cmp a.dst b.dst) in
    let from = ordering_then to (nat_cmp a.src b.src) in
    is_eq-then from (nat_cmp a.proto b.proto) (((p && q) && dst) && src) proto
    (is_eq-then to (nat_cmp a.src b.src) ((p && q) && dst) src
    (is_eq-then ports (nat_cmp a.dst b.dst) (p && q) dst
    (is_eq-then (nat_cmp a.p b.p) (nat_cmp a.q b.q) p q (is_eq-number a.p b.p) (is_eq-number a.q b.q)) (is_eq-number a.dst b.dst)) (is_eq-number a.src b.src)) (is_eq-number a.proto b.proto)
    ∙ fields-turned p q dst src proto

parts-turned : (header eni dir : Bool) → ((header && eni) && dir) ≡ (eni && (dir && header))
parts-turned true true true = refl
parts-turned true true false = refl
parts-turned true false dir = refl
parts-turned false true true = refl
parts-turned false true false = refl
parts-turned false false dir = refl

-- and connections
order_is_same : (a b : Connection) → is_eq (order_of_connections a b) ≡ same_connection a b
order_is_same a b =
    let header = same_header a.header b.header in
    let eni = a.eni.0 == b.eni.0 in
    let dir = same_dir a.dir b.dir in
    is_eq-then (ordering_then (order_by_ports a.header b.header) (nat_cmp a.eni.0 b.eni.0)) (bool_cmp (dir_is_outward a.dir) (dir_is_outward b.dir)) (header && eni) dir
    (is_eq-then (order_by_ports a.header b.header) (nat_cmp a.eni.0 b.eni.0) header eni (order_by_ports_is_same a.header b.header) (is_eq-number a.eni.0 b.eni.0))
    (is_eq-dir a.dir b.dir)
    ∙ parts-turned header eni dir

same_connection-flip : (a b : Connection) → same_connection a b ≡ same_connection b a
same_connection-flip a b = sym (order_is_same a b) ∙ (eq_by_cmp_equiv order_of_connections_total).symm a b ∙ order_is_same b a

-- a search in order finds what is the same
search_is_any : (c : Connection) (known : List Connection) → list_any (λ k. is_eq (order_of_connections c k)) known ≡ list_any (same_connection c) known
search_is_any c known = list_any-agree (λ k. is_eq (order_of_connections c k)) (same_connection c) (order_is_same c) known

-- ---- the first ones in order, and the rest

-- one of the known ones is one of the list
pub has_in_known : (known : List Connection) (count : ℕ) (conns : List Connection) (c : Connection) (found : Bool)
    → AreFirst known count conns → found ≡ list_any (λ k. is_eq (order_of_connections c k)) known → found ≡ true → found ≡ list_any (same_connection c) conns
has_in_known known count conns c found first is here =
    let all = list_any-take-drop (same_connection c) count conns in
    let at = is ∙ search_is_any c known ∙ first.same c in
    sym (all ∙ rw (← at, here) refl)

-- what isn't known is in the list where it is in the rest
pub has_in_later : (known : List Connection) (count : ℕ) (conns later : List Connection) (c : Connection) (found among : Bool)
    → AreFirst known count conns → found ≡ list_any (λ k. is_eq (order_of_connections c k)) known → found ≡ false
    → later ≡ drop count conns → among ≡ list_any (same_connection c) later → among ≡ list_any (same_connection c) conns
has_in_later known count conns later c found among first is none rest has =
    let all = list_any-take-drop (same_connection c) count conns in
    let at = is ∙ search_is_any c known ∙ first.same c in
    has ∙ ap (list_any (same_connection c)) rest ∙ sym (all ∙ rw (← at, none) refl)

-- one more that is known
pub learn_one : (known more : List Connection) (count : ℕ) (conns : List Connection) (c : Connection)
    → AreFirst known count conns → count < length conns → c ≡ get_or conns count c
    → ((q : Connection) → list_any (λ k. is_eq (order_of_connections q k)) more ≡ cond (is_eq (order_of_connections c q)) true (list_any (λ k. is_eq (order_of_connections q k)) known))
    → AreFirst more (count + 1) conns
learn_one known more count conns c first below at updates = record {
  within = omega arith;
  same = λ q.
      let old = sym (search_is_any q known) in
      let new = sym (search_is_any q more) ∙ updates q in
      let longer = list_any_more (same_connection q) conns count c below in
      new ∙ rw (order_is_same c q, same_connection-flip c q, search_is_any q known, first.same q) (added (same_connection q c) (list_any (same_connection q) (take count conns))) ∙ ap (λ d. list_any (same_connection q) (take count conns) || same_connection q d) at ∙ sym longer;
}
  where
    added : (a b : Bool) → cond a true b ≡ (b || a)
    added true true = refl
    added true false = refl
    added false true = refl
    added false false = refl

-- the first ones are as they were where the list gets longer
pub first_of_longer : (known : List Connection) (count : ℕ) (conns : List Connection) (c : Connection) → AreFirst known count conns → AreFirst known count (conns ++ c ∷ [])
first_of_longer known count conns c first = record {
  within = let e = length-append conns (c ∷ []) in omega arith;
  same = λ q. first.same q ∙ ap (list_any (same_connection q)) (sym (take-append-le count conns (c ∷ []) first.within));
}

-- ---- answers

-- a header answers an open where that open is the one whose reply the header is
pub answers_open : (c h : Header) → is_header h (reply_of c) ≡ is_header c (opening_of h)
answers_open c h = grind (arith, nat_tests)

pub same_dir-flip : (a b : Dir) → same_dir a b ≡ same_dir b a
same_dir-flip Inward Inward = refl
same_dir-flip Inward Outward = refl
same_dir-flip Outward Inward = refl
same_dir-flip Outward Outward = refl

-- a header is tracked where its open passed the other way
pub tracked_by_open : (conns : List Connection) (i : EniNo) (d : Dir) (h k : Header) → opening_of h ≡ Some k
    → list_any (same_connection (record { eni = i; dir = opposite d; header = k })) conns ≡ is_tracked conns i d h
tracked_by_open conns i d h k e = list_any-agree _ _ one conns
  where
    one : (c : Connection) → same_connection (record { eni = i; dir = opposite d; header = k }) c ≡ ((c.eni.0 == i.0) && (same_dir c.dir (opposite d) && is_header h (reply_of c.header)))
    one c =
        let eni = eqb-comm i.0 c.eni.0 in
        let dir = same_dir-flip (opposite d) c.dir in
        let header = answers_open c.header h ∙ ap (is_header c.header) e in
        rw (eni, dir, header) refl

-- and isn't where it is no reply
pub untracked_without_open : (conns : List Connection) (i : EniNo) (d : Dir) (h : Header) → opening_of h ≡ None → false ≡ is_tracked conns i d h
untracked_without_open conns i d h none = sym (list_any-none _ one conns)
  where
    both : (a b : Bool) → (a && (b && false)) ≡ false
    both true true = refl
    both true false = refl
    both false b = refl

    one : (c : Connection) → ((c.eni.0 == i.0) && (same_dir c.dir (opposite d) && is_header h (reply_of c.header))) ≡ false
    one c = rw (answers_open c.header h, none) (both (c.eni.0 == i.0) (same_dir c.dir (opposite d)))

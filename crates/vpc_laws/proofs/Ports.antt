-- A port that isn't taken is found: where all 64,512 ports are taken, as many translations have them.
use Rattle.std.proofs.Common.{◌≡◌, ℕ, zero, suc, Option, Some, None, unwrap_or, subst, ◌+◌, ◌-◌, ◌≤◌, ◌<◌, ◌^◌, ◌==◌, ◌&&◌, Bool, true, false, List, [], ◌∷◌, refl, cond, arith, ltb, inl, inr}
use Rattle.std.specs.List.{list_any, count_by}
use Rattle.std.proofs.lemmas.Bool.{cases_Bool, cond_both, and_parts, and_from, and_right, ltb-false, eqb-true, or_cases, false≢true, ltb-true, lt-ltb, le-ltb}
use Rattle.std.proofs.lemmas.Bool.Decides.{nat_tests}
use Rattle.std.proofs.lemmas.List.Sums.{sum_by-cons}
use Rattle.vpc_laws.specs.Types.{Header, NatNo}
use Rattle.vpc_model.specs.Choice.{or_else}
use Rattle.vpc_model.specs.Nat.{Translation, first_free, first_port, free_port, is_taken, new_translation, shares}

-- ---- counts

weight-le : (a b : Bool) → (a ≡ true → b ≡ true) → cond a 1 0 ≤ cond b 1 0
weight-le true true f = omega arith
weight-le true false f = absurd (false≢true (f refl))
weight-le false true f = omega arith
weight-le false false f = omega arith

weight-less : (a b : Bool) → a ≡ false → b ≡ true → cond a 1 0 + 1 ≤ cond b 1 0
weight-less a b fails passes = rw (fails, passes) (omega arith)

pub count_by-le : {X : Type 0} (p q : X → Bool) → ((x : X) → p x ≡ true → q x ≡ true) → (xs : List X) → count_by p xs ≤ count_by q xs
count_by-le p q f [] = omega arith
count_by-le p q f (x ∷ xs) =
    let by_p = sum_by-cons (λ y. cond (p y) 1 0) x xs in
    let by_q = sum_by-cons (λ y. cond (q y) 1 0) x xs in
    let head = weight-le (p x) (q x) (f x) in
    let rest = count_by-le p q f xs in
    omega arith

-- where one item passes the second test alone, it counts more
count_by-less : {X : Type 0} (p q hit : X → Bool) → ((x : X) → p x ≡ true → q x ≡ true) → ((x : X) → hit x ≡ true → (p x ≡ false) × (q x ≡ true)) → (xs : List X) → list_any hit xs ≡ true → count_by p xs + 1 ≤ count_by q xs
count_by-less p q hit f apart [] e = absurd (false≢true e)
count_by-less p q hit f apart (x ∷ xs) e =
    let by_p = sum_by-cons (λ y. cond (p y) 1 0) x xs in
    let by_q = sum_by-cons (λ y. cond (q y) 1 0) x xs in
    elim (or_cases (hit x) (list_any hit xs) e) [
      | inl here ↦
          let head = weight-less (p x) (q x) (apart x here).0 (apart x here).1 in
          let rest = count_by-le p q f xs in
          omega arith
      | inr later ↦
          let head = weight-le (p x) (q x) (f x) in
          let rest = count_by-less p q hit f apart xs later in
          omega arith
    ]

-- ---- searches

-- what a search finds, if it does
abbrev Hit : (ℕ → Type 0) → Option ℕ → Type 0
Hit P None = Unit {0}
Hit P (Some x) = P x

-- what two searches and a last resort give
unwrap_or-hit : (P : ℕ → Type 0) (a b : Option ℕ) (port : ℕ) → Hit P a → Hit P b → (a ≡ None → b ≡ None → P port) → P (unwrap_or (or_else a b) port)
unwrap_or-hit P (Some x) b port at_a at_b else = at_a
unwrap_or-hit P None (Some y) port at_a at_b else = at_b
unwrap_or-hit P None None port at_a at_b else = else refl refl

first_free-fits : (taken : ℕ → Bool) (n port : ℕ) → 1024 ≤ port → port + n ≤ 65536 → Hit (λ x. (1024 ≤ x) × (x < 65536)) (first_free taken n port)
first_free-fits taken zero port a b = tt
first_free-fits taken (suc n) port a b =
    cond_both (taken port) (first_free taken n (port + 1)) (Some port) (λ o. Hit (λ x. (1024 ≤ x) × (x < 65536)) o)
    (λ _. first_free-fits taken n (port + 1) (omega arith) (omega arith)) (λ _. (a, omega arith))

first_free-free : (taken : ℕ → Bool) (n port : ℕ) → Hit (λ x. taken x ≡ false) (first_free taken n port)
first_free-free taken zero port = tt
first_free-free taken (suc n) port =
    cond_both (taken port) (first_free taken n (port + 1)) (Some port) (λ o. Hit (λ x. taken x ≡ false) o)
    (λ _. first_free-free taken n (port + 1)) (λ free. free)

first_free-none : (taken : ℕ → Bool) (n port : ℕ) → first_free taken n port ≡ None → (x : ℕ) → port ≤ x → x < port + n → taken x ≡ true
first_free-none taken zero port e x a b = absurd (omega arith)
first_free-none taken (suc n) port e x a b =
    elim (cases_Bool (taken port)) [
      | inl here ↦ elim (cases_Bool (ltb port x)) [
        | inl above ↦ let less = ltb-true port x above in first_free-none taken n (port + 1) (rw here at e) x (omega arith) (omega arith)
        | inr not_above ↦
            let most = ltb-false port x not_above in
            let same : port ≡ x = omega arith in
            subst (λ y. taken y ≡ true) same here
      ]
      | inr free ↦ let found = (rw free at e) in cc
    ]

pub first_port-fits : (p : ℕ) → p < 65536 → (1024 ≤ first_port p) × (first_port p < 65536)
first_port-fits p a = grind (arith, nat_tests)

pub free_port-fits : (taken : ℕ → Bool) (port : ℕ) → 1024 ≤ port → port < 65536 → (1024 ≤ free_port taken port) × (free_port taken port < 65536)
free_port-fits taken port a b =
    unwrap_or-hit (λ x. (1024 ≤ x) × (x < 65536)) (first_free taken (65536 - port) port) (first_free taken (port - 1024) 1024) port
    (first_free-fits taken (65536 - port) port a (omega arith)) (first_free-fits taken (port - 1024) 1024 (omega arith) (omega arith)) (λ _ _. (a, b))

pub new_translation-fits : (ts : List Translation) (n : NatNo) (own : ℕ) (h : Header) → h.p < 2 ^ 16 → let t = new_translation ts n own h in (1024 ≤ t.after.p) × (t.after.p < 2 ^ 16)
new_translation-fits ts n own h fits = let good = first_port-fits h.p fits in free_port-fits (is_taken ts n h) (first_port h.p) good.0 good.1

-- ---- taken ports are translations

-- the translation shares the four, and has a port below this one
abbrev is_below : NatNo → Header → ℕ → Translation → Bool
is_below n h port t = shares n h t && ltb t.after.p port

is_below-more : (n : NatNo) (h : Header) (port : ℕ) (t : Translation) → is_below n h port t ≡ true → is_below n h (port + 1) t ≡ true
is_below-more n h port t e =
    let parts = and_parts (shares n h t) (ltb t.after.p port) e in
    let below = ltb-true t.after.p port parts.1 in
    and_from (shares n h t) (ltb t.after.p (port + 1)) parts.0 (lt-ltb t.after.p (port + 1) (omega arith))

is_below-shares : (n : NatNo) (h : Header) (port : ℕ) (t : Translation) → is_below n h port t ≡ true → shares n h t ≡ true
is_below-shares n h port t e = (and_parts (shares n h t) (ltb t.after.p port) e).0

is_below-hit : (n : NatNo) (h : Header) (port : ℕ) (t : Translation) → (shares n h t && (t.after.p == port)) ≡ true → (is_below n h port t ≡ false) × (is_below n h (port + 1) t ≡ true)
is_below-hit n h port t e =
    let parts = and_parts (shares n h t) (t.after.p == port) e in
    let same = eqb-true t.after.p port parts.1 in (
      and_right (shares n h t) (ltb t.after.p port) (le-ltb t.after.p port (omega arith)),
      and_from (shares n h t) (ltb t.after.p (port + 1)) parts.0 (lt-ltb t.after.p (port + 1) (omega arith)),
    )

-- one more taken port is one more translation
taken-counts : (ts : List Translation) (n : NatNo) (h : Header) (k : ℕ) → ((x : ℕ) → 1024 ≤ x → x < 1024 + k → is_taken ts n h x ≡ true) → k ≤ count_by (is_below n h (1024 + k)) ts
taken-counts ts n h zero taken = omega arith
taken-counts ts n h (suc k) taken =
    let rest = taken-counts ts n h k (λ x a b. taken x a (omega arith)) in
    let one = count_by-less (is_below n h (1024 + k)) (is_below n h (1024 + k + 1)) (λ t. shares n h t && (t.after.p == 1024 + k)) (is_below-more n h (1024 + k)) (is_below-hit n h (1024 + k)) ts (taken (1024 + k) (omega arith) (omega arith)) in
    let next : 1024 + suc k ≡ 1024 + k + 1 = omega arith in
    rw next (omega arith)

-- where the two searches find nothing, all ports are taken
all-taken : (taken : ℕ → Bool) (port : ℕ) → 1024 ≤ port → port < 65536 → first_free taken (65536 - port) port ≡ None → first_free taken (port - 1024) 1024 ≡ None
    → (x : ℕ) → 1024 ≤ x → x < 1024 + 64512 → taken x ≡ true
all-taken taken port a b late early x c d =
    elim (cases_Bool (ltb x port)) [
      | inl below ↦ let less = ltb-true x port below in first_free-none taken (port - 1024) 1024 early x c (omega arith)
      | inr above ↦ let most = ltb-false x port above in first_free-none taken (65536 - port) port late x most (omega arith)
    ]

pub free_port_is_free : (ts : List Translation) (n : NatNo) (h : Header) → h.p < 2 ^ 16 → count_by (shares n h) ts < 64512 → is_taken ts n h (free_port (is_taken ts n h) (first_port h.p)) ≡ false
free_port_is_free ts n h fits few =
    let taken = is_taken ts n h in
    let port = first_port h.p in
    let good = first_port-fits h.p fits in
    unwrap_or-hit (λ x. taken x ≡ false) (first_free taken (65536 - port) port) (first_free taken (port - 1024) 1024) port
    (first_free-free taken (65536 - port) port) (first_free-free taken (port - 1024) 1024)
    (λ late early.
    let many = taken-counts ts n h 64512 (all-taken taken port good.0 good.1 late early) in
    let all = count_by-le (is_below n h (1024 + 64512)) (shares n h) (is_below-shares n h (1024 + 64512)) ts in
    absurd (omega arith))

-- The order of headers.
use Rattle.std.proofs.Common.{◌≡◌, ℕ, ◌≤◌, ◌<◌, arith, ap, sym, ◌∙◌, ⊎_elim}
use Rattle.std.proofs.lemmas.Bool.Decides.{nat_tests}
use Rattle.std.proofs.lemmas.Cmp.{nat_cmp_total, then_total, on_total}
use Rattle.std.proofs.lemmas.Bool.{cases_lt}
use Rattle.std.specs.Cmp.{IsTotalOrder}
use Rattle.std.specs.Ordering.{ordering_then, nat_cmp}
use Rattle.std.specs.declared.cmp.Ordering.{Ordering}
use Rattle.std.specs.declared.cmp.Ordering.TheVariants.{Less, Equal, Greater}
use Rattle.vpc_base.specs.declared.headers.Header.{Header}
use Rattle.vpc_base.specs.Header.{order_of, IsBefore}

-- headers are totally ordered
pub order_of_total : IsTotalOrder order_of
order_of_total =
    then_total (on_total (λ (h : Header). h.proto) nat_cmp_total)
    (then_total (on_total (λ (h : Header). h.src) nat_cmp_total)
    (then_total (on_total (λ (h : Header). h.dst) nat_cmp_total)
    (then_total (on_total (λ (h : Header). h.p) nat_cmp_total) (on_total (λ (h : Header). h.q) nat_cmp_total))))

-- no field of the first is greater
pub record IsUnder (a b : Header) : Type 0 where
  pub proto : a.proto ≤ b.proto
  pub src : a.src ≤ b.src
  pub dst : a.dst ≤ b.dst
  pub p : a.p ≤ b.p
  pub q : a.q ≤ b.q

less_then : (x y : ℕ) (o : Ordering) → x ≤ y → (x ≡ y → o ≡ Less) → ordering_then (nat_cmp x y) o ≡ Less
less_then x y o le same =
    ⊎_elim (λ lt. less x y o lt) (λ ge. let e : x ≡ y = omega arith in equal x y o e ∙ same e) (cases_lt x y)
  where
    less : (x y : ℕ) (o : Ordering) → x < y → ordering_then (nat_cmp x y) o ≡ Less
    less x y o lt = let e : nat_cmp x y ≡ Less = grind (arith, nat_tests) in ap (λ c. ordering_then c o) e

    equal : (x y : ℕ) (o : Ordering) → x ≡ y → ordering_then (nat_cmp x y) o ≡ o
    equal x y o e = let k : nat_cmp x y ≡ Equal = grind (arith, nat_tests) in ap (λ c. ordering_then c o) k

less_last : (x y : ℕ) → x ≤ y → (x ≡ y → ⊥) → nat_cmp x y ≡ Less
less_last x y le other = grind (arith, nat_tests)

abbrev header : ℕ → ℕ → ℕ → ℕ → ℕ → Header
header proto src dst p q = record { proto = proto; src = src; dst = dst; p = p; q = q }

pub same_fields : (a b : Header) → a.proto ≡ b.proto → a.src ≡ b.src → a.dst ≡ b.dst → a.p ≡ b.p → a.q ≡ b.q → a ≡ b
same_fields a b e1 e2 e3 e4 e5 =
    ap (λ t. header t a.src a.dst a.p a.q) e1
    ∙ ap (λ t. header b.proto t a.dst a.p a.q) e2
    ∙ ap (λ t. header b.proto b.src t a.p a.q) e3
    ∙ ap (λ t. header b.proto b.src b.dst t a.q) e4
    ∙ ap (λ t. header b.proto b.src b.dst b.p t) e5

-- a header whose fields are at most those of another, and not all the same, comes before it
pub before_if_under : (a b : Header) → IsUnder a b → (a ≡ b → ⊥) → IsBefore a b
before_if_under a b under other =
    less_then a.proto b.proto _ under.proto (λ e1.
    less_then a.src b.src _ under.src (λ e2.
    less_then a.dst b.dst _ under.dst (λ e3.
    less_then a.p b.p _ under.p (λ e4.
    less_last a.q b.q under.q (λ e5. other (same_fields a b e1 e2 e3 e4 e5))))))

not_less_then : (x y : ℕ) (o : Ordering) → y ≤ x → (o ≡ Less → ⊥) → ordering_then (nat_cmp x y) o ≡ Less → ⊥
not_less_then x y o le none e =
    ⊎_elim (λ lt. greater x y o lt e) (λ ge. let k : x ≡ y = omega arith in none (sym (equal x y o k) ∙ e)) (cases_lt y x)
  where
    greater : (x y : ℕ) (o : Ordering) → y < x → ordering_then (nat_cmp x y) o ≡ Less → ⊥
    greater x y o lt e = let k : nat_cmp x y ≡ Greater = grind (arith, nat_tests) in let f = sym (ap (λ c. ordering_then c o) k) ∙ e in cc

    equal : (x y : ℕ) (o : Ordering) → x ≡ y → ordering_then (nat_cmp x y) o ≡ o
    equal x y o e = let k : nat_cmp x y ≡ Equal = grind (arith, nat_tests) in ap (λ c. ordering_then c o) k

not_less_last : (x y : ℕ) → y ≤ x → nat_cmp x y ≡ Less → ⊥
not_less_last x y le e = grind (arith, nat_tests)

-- and no header comes before one whose fields are at most its own
pub not_before_if_under : (a b : Header) → IsUnder a b → IsBefore b a → ⊥
not_before_if_under a b under =
    not_less_then b.proto a.proto _ under.proto
    (not_less_then b.src a.src _ under.src
    (not_less_then b.dst a.dst _ under.dst
    (not_less_then b.p a.p _ under.p (not_less_last b.q a.q under.q))))

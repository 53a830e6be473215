-- The order of headers as an order of numbers.
use Rattle.std.proofs.Common.{◌≡◌, ℕ, ◌<◌, ◌+◌, ◌*◌, ◌^◌, ◌⊎◌, arith, ap, sym, refl, ◌∙◌, inl, inr, ⊎_elim}
use Rattle.std.proofs.lemmas.Bool.Decides.{nat_tests}
use Rattle.std.proofs.lemmas.Bool.{cases_lt}
use Rattle.std.specs.Ordering.{ordering_then, ordering_reverse, nat_cmp}
use Rattle.std.specs.declared.cmp.Ordering.{Ordering}
use Rattle.std.specs.declared.cmp.Ordering.TheVariants.{Less, Equal, Greater}
use Rattle.vpc_base.specs.declared.headers.Header.{Header}
use Rattle.vpc_base.specs.Header.{order_of, IsBefore, IsHeader}
use Rattle.header_boxes.proofs.Order.{order_of_total, same_fields}

-- what the first test of an order says: it decides, or it ties and the next decides
then_first : (x y : ℕ) (o : Ordering) → ((x < y) × (ordering_then (nat_cmp x y) o ≡ Less)) ⊎ ((x ≡ y) × (ordering_then (nat_cmp x y) o ≡ o)) ⊎ ((y < x) × (ordering_then (nat_cmp x y) o ≡ Greater))
then_first x y o =
    ⊎_elim
    (λ lt. let e : nat_cmp x y ≡ Less = grind (arith, nat_tests) in inl (lt, ap (λ c. ordering_then c o) e))
    (λ ge. ⊎_elim
    (λ lt. let e : nat_cmp x y ≡ Greater = grind (arith, nat_tests) in inr (inr (lt, ap (λ c. ordering_then c o) e)))
    (λ le. let s : x ≡ y = omega arith in let e : nat_cmp x y ≡ Equal = grind (arith, nat_tests) in inr (inl (s, ap (λ c. ordering_then c o) e)))
    (cases_lt y x))
    (cases_lt x y)

then_less : (x y : ℕ) (o : Ordering) → ordering_then (nat_cmp x y) o ≡ Less → (x < y) ⊎ ((x ≡ y) × (o ≡ Less))
then_less x y o e =
    ⊎_elim (λ k. inl k.0) (⊎_elim (λ k. inr (k.0, sym k.1 ∙ e)) (λ k. let f = sym k.1 ∙ e in cc)) (then_first x y o)

then_equal : (x y : ℕ) (o : Ordering) → ordering_then (nat_cmp x y) o ≡ Equal → (x ≡ y) × (o ≡ Equal)
then_equal x y o e =
    ⊎_elim (λ k. let f = sym k.1 ∙ e in cc) (⊎_elim (λ k. (k.0, sym k.1 ∙ e)) (λ k. let f = sym k.1 ∙ e in cc)) (then_first x y o)

last_less : (x y : ℕ) → nat_cmp x y ≡ Less → x < y
last_less x y e = grind (arith, nat_tests)

last_equal : (x y : ℕ) → nat_cmp x y ≡ Equal → x ≡ y
last_equal x y e = grind (arith, nat_tests)

-- headers that tie are the same
pub same_if_equal : (a b : Header) → order_of a b ≡ Equal → a ≡ b
same_if_equal a b e =
    let s1 = then_equal a.proto b.proto _ e in
    let s2 = then_equal a.src b.src _ s1.1 in
    let s3 = then_equal a.dst b.dst _ s2.1 in
    let s4 = then_equal a.p b.p _ s3.1 in
    same_fields a b s1.0 s2.0 s3.0 s4.0 (last_equal a.q b.q s4.1)

-- of two headers one comes first, or they are the same
pub before_or_same : (a b : Header) → (IsBefore b a → ⊥) → IsBefore a b ⊎ (a ≡ b)
before_or_same a b not_after = by (order_of a b) refl
  where
    by : (o : Ordering) → order_of a b ≡ o → IsBefore a b ⊎ (a ≡ b)
    by Less e = inl e
    by Equal e = inr (same_if_equal a b e)
    by Greater e = absurd (not_after (order_of_total.antisymm b a ∙ ap ordering_reverse e))

-- the number of a header: its fields one after the other, in 104 bits
abbrev pub code_of : Header → ℕ
code_of h = h.proto * 2 ^ 96 + (h.src * 2 ^ 64 + (h.dst * 2 ^ 32 + (h.p * 2 ^ 16 + h.q)))

-- a header that comes before another has the smaller number
pub code_rises : (a b : Header) → IsHeader a → IsBefore a b → code_of a < code_of b
code_rises a b fits e =
    let f2 = fits.src in
    let f3 = fits.dst in
    let f4 = fits.p in
    let f5 = fits.q in
    ⊎_elim (λ lt. omega arith) (λ s1.
    let e1 = s1.0 in
    ⊎_elim (λ lt. omega arith) (λ s2.
    let e2 = s2.0 in
    ⊎_elim (λ lt. omega arith) (λ s3.
    let e3 = s3.0 in
    ⊎_elim (λ lt. omega arith) (λ s4.
    let e4 = s4.0 in
    let lt = last_less a.q b.q s4.1 in omega arith)
    (then_less a.p b.p _ s3.1))
    (then_less a.dst b.dst _ s2.1))
    (then_less a.src b.src _ s1.1))
    (then_less a.proto b.proto _ e)

-- and the header with the smaller number comes first
pub before_if_code : (a b : Header) → IsHeader b → code_of a < code_of b → IsBefore a b
before_if_code a b fits lt = by (order_of a b) refl
  where
    by : (o : Ordering) → order_of a b ≡ o → IsBefore a b
    by Less e = e
    by Equal e = let s = ap code_of (same_if_equal a b e) in absurd (omega arith)
    by Greater e = let r = code_rises b a fits (order_of_total.antisymm b a ∙ ap ordering_reverse e) in absurd (omega arith)

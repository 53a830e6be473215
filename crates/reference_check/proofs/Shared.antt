-- The least address that a claim shares with others.
use Rattle.std.proofs.Common.{◌≡◌, ◌+◌, ◌-◌, ◌<◌, ◌≤◌, ◌⊎◌, ◌&&◌, ◌||◌, ◌∷◌, [], ℕ, Bool, List, None, Option, Some, ap, arith, bytes_eq, cond, false, inl, inr, nat_le, nat_lt, option_map, refl, subst, true}
use Rattle.std.proofs.lemmas.Bool.{and_from, and_parts, both_ways, cases_lt, false≢true, leb-false, leb-true, or_cases, or_left, or_right}
use Rattle.std.proofs.lemmas.Bool.Decides.{nat_tests}
use Rattle.vpc_model.specs.Accepted.{Claim, first_shared, least_shared, lesser, meets}
use Rattle.reference_check.specs.Claimed.{AreSome, IsLeast, is_claimed, is_of}

-- ---- the least number with a property

-- it is one
pub least-one : (P : ℕ → Type 0) (from to : ℕ) (o p : Option ℕ) → IsLeast P from to o → IsLeast P from to p → o ≡ p
least-one P from to None None one other = refl
least-one P from to None (Some n) one other = absurd (one n other.0 other.1 other.2)
least-one P from to (Some m) None one other = absurd (other m one.0 one.1 one.2)
least-one P from to (Some m) (Some n) one other = by (cases_lt m n) (cases_lt n m)
  where
    by : (m < n) ⊎ (n ≤ m) → (n < m) ⊎ (m ≤ n) → Some m ≡ Some n
    by (inl less) more = absurd (other.3 m one.0 less one.2)
    by (inr le) (inl less) = absurd (one.3 n other.0 less other.2)
    by (inr le) (inr ge) = ap (λ (k : ℕ). Some k) (omega arith)

-- that of a property that holds where another one does
pub least-same : (P Q : ℕ → Type 0) (from to : ℕ) (o : Option ℕ) → ((k : ℕ) → P k → Q k) → ((k : ℕ) → Q k → P k) → IsLeast P from to o → IsLeast Q from to o
least-same P Q from to None forth back least = λ k le most has. least k le most (back k has)
least-same P Q from to (Some m) forth back least = (least.0, least.1, forth m least.2, λ k le lt has. least.3 k le lt (back k has))

-- that of either of two properties
pub least-or : (P Q : ℕ → Type 0) (from to : ℕ) (o p : Option ℕ) → IsLeast P from to o → IsLeast Q from to p → IsLeast (λ k. P k ⊎ Q k) from to (lesser o p)
least-or P Q from to None None one other = none
  where
    none : (k : ℕ) → from ≤ k → k ≤ to → P k ⊎ Q k → ⊥
    none k le most (inl has) = one k le most has
    none k le most (inr has) = other k le most has
least-or P Q from to None (Some n) one other = (other.0, other.1, inr other.2, below)
  where
    below : (k : ℕ) → from ≤ k → k < n → P k ⊎ Q k → ⊥
    below k le lt (inl has) = let within = other.1 in one k le (omega arith) has
    below k le lt (inr has) = other.3 k le lt has
least-or P Q from to (Some m) None one other = (one.0, one.1, inl one.2, below)
  where
    below : (k : ℕ) → from ≤ k → k < m → P k ⊎ Q k → ⊥
    below k le lt (inl has) = one.3 k le lt has
    below k le lt (inr has) = let within = one.1 in other k le (omega arith) has
least-or P Q from to (Some m) (Some n) one other = by (nat_lt n m) refl
  where
    before : (k : ℕ) → from ≤ k → k < n → k < m → P k ⊎ Q k → ⊥
    before k le lt less (inl has) = one.3 k le less has
    before k le lt less (inr has) = other.3 k le lt has

    by : (b : Bool) → nat_lt n m ≡ b → IsLeast (λ k. P k ⊎ Q k) from to (cond b (Some n) (Some m))
    by true less = let is = less-of less in (other.0, other.1, inr other.2, λ k le lt has. before k le lt (omega arith) has)
      where
        less-of : nat_lt n m ≡ true → n < m
        less-of h = grind (arith, nat_tests)
    by false most = let is = most-of most in (one.0, one.1, inl one.2, λ k le lt has. before k le (omega arith) lt has)
      where
        most-of : nat_lt n m ≡ false → m ≤ n
        most-of h = grind (arith, nat_tests)

-- that of a property of numbers above another one
pub least-above : (P Q : ℕ → Type 0) (base from to : ℕ) (o : Option ℕ) → ((k : ℕ) → from ≤ k → k ≤ to → P (base + k) → Q k) → ((k : ℕ) → from ≤ k → k ≤ to → Q k → P (base + k))
    → IsLeast P (base + from) (base + to) o → IsLeast Q from to (option_map (λ k. k - base) o)
least-above P Q base from to None forth back least = λ k le most has. least (base + k) (omega arith) (omega arith) (back k le most has)
least-above P Q base from to (Some m) forth back least =
    let ge : base + from ≤ m = least.0 in
    let le : m ≤ base + to = least.1 in
    (omega arith, omega arith, forth (m - base) (omega arith) (omega arith) (subst P (omega arith) least.2), λ k above lt has. least.3 (base + k) (omega arith) (omega arith) (back k above (omega arith) has))

-- ---- what is shared

shared-first : (b c : Claim) → b.first ≤ b.last → c.first ≤ c.last → IsLeast (λ a. is_of c.vpc a b ≡ true) c.first c.last (first_shared b c)
shared-first b c some other = by (meets b c) refl (nat_le b.first c.first) refl
  where
    in-both : (k : ℕ) → b.first ≤ c.last → c.first ≤ b.last → (nat_le b.first c.last && nat_le c.first b.last) ≡ true
    in-both k le most = grind (arith, nat_tests)

    within : (k : ℕ) → b.first ≤ k → k ≤ b.last → (nat_le b.first k && nat_le k b.last) ≡ true
    within k from to = grind (arith, nat_tests)

    by : (t : Bool) → meets b c ≡ t → (u : Bool) → nat_le b.first c.first ≡ u → IsLeast (λ a. is_of c.vpc a b ≡ true) c.first c.last (cond t (Some (cond u c.first b.first)) None)
    by true m true e =
        let parts = and_parts (bytes_eq b.vpc c.vpc) (nat_le b.first c.last && nat_le c.first b.last) m in
        let ends = and_parts (nat_le b.first c.last) (nat_le c.first b.last) parts.1 in
        let begun = leb-true b.first c.first e in
        let last = leb-true c.first b.last ends.1 in
        (omega arith, other, and_from (bytes_eq b.vpc c.vpc) (nat_le b.first c.first && nat_le c.first b.last) parts.0 (within c.first begun last), λ k le lt has. omega arith)
    by true m false e =
        let parts = and_parts (bytes_eq b.vpc c.vpc) (nat_le b.first c.last && nat_le c.first b.last) m in
        let ends = and_parts (nat_le b.first c.last) (nat_le c.first b.last) parts.1 in
        let after = leb-false b.first c.first e in
        let from = leb-true b.first c.last ends.0 in
        (omega arith, from, and_from (bytes_eq b.vpc c.vpc) (nat_le b.first b.first && nat_le b.first b.last) parts.0 (within b.first (omega arith) some), λ k le lt has. before k lt has)
      where
        before : (k : ℕ) → k < b.first → is_of c.vpc k b ≡ true → ⊥
        before k lt has =
            let inside = and_parts (nat_le b.first k) (nat_le k b.last) (and_parts (bytes_eq b.vpc c.vpc) (nat_le b.first k && nat_le k b.last) has).1 in
            let begins = leb-true b.first k inside.0 in
            omega arith
    by false m u e = λ k le most has.
        let parts = and_parts (bytes_eq b.vpc c.vpc) (nat_le b.first k && nat_le k b.last) has in
        let inside = and_parts (nat_le b.first k) (nat_le k b.last) parts.1 in
        let begins = leb-true b.first k inside.0 in
        let ends = leb-true k b.last inside.1 in
        both_ways (meets b c) m (and_from (bytes_eq b.vpc c.vpc) (nat_le b.first c.last && nat_le c.first b.last) parts.0 (in-both k (omega arith) (omega arith)))

-- the least address that a claim shares with others is the least of its own that they have
pub shared-least : (bs : List Claim) (c : Claim) → AreSome bs → c.first ≤ c.last → IsLeast (λ a. is_claimed c.vpc a bs ≡ true) c.first c.last (least_shared bs c)
shared-least [] c some other = λ k le most has. false≢true has
shared-least (b ∷ bs) c some other =
    least-same (λ a. (is_of c.vpc a b ≡ true) ⊎ (is_claimed c.vpc a bs ≡ true)) (λ a. is_claimed c.vpc a (b ∷ bs) ≡ true) c.first c.last (least_shared (b ∷ bs) c)
    (λ k has. join k has) (λ k has. or_cases (is_of c.vpc k b) (is_claimed c.vpc k bs) has)
    (least-or (λ a. is_of c.vpc a b ≡ true) (λ a. is_claimed c.vpc a bs ≡ true) c.first c.last (first_shared b c) (least_shared bs c) (shared-first b c some.0 other) (shared-least bs c some.1 other))
  where
    join : (k : ℕ) → (is_of c.vpc k b ≡ true) ⊎ (is_claimed c.vpc k bs ≡ true) → (is_of c.vpc k b || is_claimed c.vpc k bs) ≡ true
    join k (inl has) = or_left (is_of c.vpc k b) (is_claimed c.vpc k bs) has
    join k (inr has) = or_right (is_of c.vpc k b) (is_claimed c.vpc k bs) has

-- any that is the least is the one
pub shared-is : (bs : List Claim) (c : Claim) (o : Option ℕ) → AreSome bs → c.first ≤ c.last → IsLeast (λ a. is_claimed c.vpc a bs ≡ true) c.first c.last o → o ≡ least_shared bs c
shared-is bs c o some other least = least-one (λ a. is_claimed c.vpc a bs ≡ true) c.first c.last o (least_shared bs c) least (shared-least bs c some other)

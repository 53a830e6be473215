-- Keys that two sets have in common, found by going through both.
use Rattle.std.proofs.Common.{◌≡◌, ◌-◌, ◌<◌, ◌≤◌, ◌==◌, ◌^◌, ℕ, Contains, List, None, Option, Some, arith, false, inl, inr, refl, subst, true}
use Rattle.std.specs.List.{list_any}
use Rattle.vpc_base.proofs.Lemmas.{eq-eqb, eqb-true, false_from_ne_true, list_any-member, member-list_any}
use Rattle.number_tables.specs.Keys.{key_of}
use Rattle.number_tables.specs.Next.{IsNext}
use Rattle.security_groups.specs.Sharing.{IsLowFrom, Shares, has_pair}

-- ---- the least low number from one on

not-there : (keys : List ℕ) (k : ℕ) → ((m : ℕ) → Contains keys m → m ≡ k → ⊥) → list_any (λ n. n == k) keys ≡ false
not-there keys k none =
    false_from_ne_true (list_any (λ n. n == k) keys) (λ some.
    let found = list_any-member (λ n. n == k) keys some in
    none found.0 found.1 (eqb-true found.0 k found.2))

pub low-none : (keys : List ℕ) (high low key : ℕ) (o : Option ℕ) → ((n : ℕ) → o ≡ Some n → ⊥) → key ≡ key_of high low → IsNext keys key o → IsLowFrom keys high low None
low-none keys high low key None is from next k least fits = not-there keys (key_of high k) (λ m has same. let below = next m has in absurd (omega arith))
low-none keys high low key (Some n) is from next k least fits = absurd (is n refl)

at-some : (keys : List ℕ) (n next : ℕ) (o : Option ℕ) → o ≡ Some next → IsNext keys n o → IsNext keys n (Some next)
at-some keys n next o is k = subst (IsNext keys n) is k

pub low-past : (keys : List ℕ) (high low key next : ℕ) (o : Option ℕ) → o ≡ Some next → key ≡ key_of high low → IsNext keys key o → key_of high 4294967295 < next → IsLowFrom keys high low None
low-past keys high low key next o is from tells past k least fits =
    let known = at-some keys key next o is tells in
    not-there keys (key_of high k) (λ m has same. elim (known.2 m has) [ inl below ↦ absurd (omega arith) | inr above ↦ absurd (omega arith) ])

pub low-found : (keys : List ℕ) (high low key next n : ℕ) (o : Option ℕ) → low < 2 ^ 32 → o ≡ Some next → key ≡ key_of high low → IsNext keys key o → next ≤ key_of high 4294967295 → n ≡ next - key_of high 0 → IsLowFrom keys high low (Some n)
low-found keys high low key next n o fits is start tells most number =
    let known = at-some keys key next o is tells in
    let least = known.0 in
    let same : next ≡ key_of high n = omega arith in
    let from : low ≤ n = omega arith in
    let below : n < 2 ^ 32 = omega arith in (
      from,
      below,
      member-list_any (λ m. m == key_of high n) keys next known.1 (eq-eqb next (key_of high n) same),
      λ k after before.
          not-there keys (key_of high k) (λ m has is_key. elim (known.2 m has) [ inl less ↦ absurd (omega arith) | inr more ↦ absurd (omega arith) ]),
    )

-- ---- numbers that both have

-- none below
abbrev pub NoneBelow : List ℕ → ℕ → List ℕ → ℕ → ℕ → Type 0
NoneBelow keys x others y low = (k : ℕ) → k < low → has_pair keys x k ≡ true → has_pair others y k ≡ false

-- ---- each number in turn

-- none below shares
abbrev pub NoSharesBelow : List ℕ → ℕ → List ℕ → ℕ → ℕ → Type 0
NoSharesBelow keys x others y low = (k : ℕ) → k < low → has_pair keys x k ≡ true → Shares others k others y → ⊥

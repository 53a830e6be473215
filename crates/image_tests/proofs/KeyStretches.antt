-- How far from an address on none has a key.
use Rattle.std.proofs.Common.{◌≡◌, ℕ, ◌≤◌, ◌<◌, ◌+◌, ◌-◌, ◌==◌, ◌⊎◌, ◌∷◌, ◌∙◌, [], List, Bool, None, Option, Some, is_some, map, true, false, ap, sym, subst, arith, inl, inr, refl, slice_index_or}
use Rattle.std.specs.List.{Contains, list_any}
use Rattle.std.specs.Prelude.{nat_le}
use Rattle.std.proofs.lemmas.Bool.{cases_Bool, cases_lt, eq-eqb, ne_eqb}
use Rattle.std.proofs.lemmas.Bool.Decides.{nat_tests}
use Rattle.std.proofs.lemmas.List.Elements.{Contains-get_or}
use Rattle.std.proofs.lemmas.List.Folds.{list_any_at, list_any_none}
use Rattle.vpc_base.specs.Cuts.{CutLists}
use Rattle.vpc_base.proofs.Members.{Contains-filter}
use Rattle.vpc_base.proofs.Options.{none_if}
use Rattle.vpc_model.specs.Cuts.{address_cuts, cuts_of_blocks}
use Rattle.cut_laws.specs.Dividing.{CutOut, Divide}
use Rattle.number_tables.specs.Entries.{value_at}
use Rattle.number_tables.specs.Keys.{key_of}
use Rattle.number_tables.specs.Next.{IsNext}
use Rattle.number_tables.specs.declared.tables.Entry.{Entry}
use Rattle.image_tests.specs.Keys.{IsKeyStretch, has_key}

has_key-at : (keys : List ℕ) (high a k : ℕ) → Contains keys k → k ≡ key_of high a → has_key keys high a ≡ true
has_key-at keys high a k (j, within, e) same = list_any_at (λ n. n == key_of high a) keys j k within (eq-eqb _ _ (e ∙ same))

has_key-none : (keys : List ℕ) (high a : ℕ) → ((m : ℕ) → Contains keys m → m ≡ key_of high a → ⊥) → has_key keys high a ≡ false
has_key-none keys high a other =
    list_any_none (λ n. n == key_of high a) keys
    (λ j d within. ne_eqb _ _ (other (slice_index_or keys j d) (Contains-get_or keys j d within)))

-- ---- by the next key

-- no key is as great
pub stretch-none : (keys : List ℕ) (high a : ℕ) (next : Option ℕ) → a ≤ 4294967295 → ((k : ℕ) → next ≡ Some k → ⊥) → IsNext keys (key_of high a) next
    → IsKeyStretch keys high a (4294967295, false)
stretch-none keys high a None fits other below = record {
  from = fits;
  alike = λ b from to. has_key-none keys high b (λ m has same. let lt = below m has in absurd (omega arith));
  alone = λ e. absurd (cc);
  gap = λ e. inl refl;
}
stretch-none keys high a (Some k) fits other below = absurd (other k refl)

-- the address has the next key
pub stretch-key : (keys : List ℕ) (high a k : ℕ) → k ≡ key_of high a → IsNext keys (key_of high a) (Some k) → IsKeyStretch keys high a (a, true)
stretch-key keys high a k same next = record {
  from = omega arith;
  alike = λ b from to. has_key-at keys high b k next.1 (omega arith);
  alone = λ e. refl;
  gap = λ e. absurd (cc);
}

-- the next key is of another high half
pub stretch-past : (keys : List ℕ) (high a k : ℕ) → a ≤ 4294967295 → key_of high 4294967295 < k → IsNext keys (key_of high a) (Some k)
    → IsKeyStretch keys high a (4294967295, false)
stretch-past keys high a k fits past next = record {
  from = fits;
  alike = λ b from to. has_key-none keys high b (λ m has same. past_all b from to m same (next.2 m has));
  alone = λ e. absurd (cc);
  gap = λ e. inl refl;
}
  where
    past_all : (b : ℕ) → a ≤ b → b ≤ 4294967295 → (m : ℕ) → m ≡ key_of high b → (m < key_of high a) ⊎ (k ≤ m) → ⊥
    past_all b from to m same (inl lt) = absurd (omega arith)
    past_all b from to m same (inr le) = absurd (omega arith)

-- the next key is of a later address
pub stretch-before : (keys : List ℕ) (high a k : ℕ) → (k ≡ key_of high a → ⊥) → k ≤ key_of high 4294967295 → IsNext keys (key_of high a) (Some k)
    → IsKeyStretch keys high a (a + (k - key_of high a - 1), false)
stretch-before keys high a k other fits next =
    let least = next.0 in
    let more : key_of high a < k = above (cases_lt (key_of high a) k) in
    record {
      from = omega arith;
      alike = λ b from to. has_key-none keys high b (λ m has same. between b from (omega arith) m same (next.2 m has));
      alone = λ e. absurd (cc);
      gap = λ e. inr (has_key-at keys high (a + (k - key_of high a - 1) + 1) k next.1 (omega arith));
    }
  where
    above : (key_of high a < k) ⊎ (k ≤ key_of high a) → key_of high a < k
    above (inl lt) = lt
    above (inr le) = let least = next.0 in absurd (other (omega arith))

    between : (b : ℕ) → a ≤ b → key_of high b < k → (m : ℕ) → m ≡ key_of high b → (m < key_of high a) ⊎ (k ≤ m) → ⊥
    between b from to m same (inl lt) = absurd (omega arith)
    between b from to m same (inr le) = absurd (omega arith)

-- ---- where a stretch ends is a cut

cut-of : (cuts : CutLists) (a c : ℕ) → Divide (cuts_of_blocks (address_cuts a)) cuts → Contains (address_cuts a) c → c ≤ 4294967295 → Contains cuts.addr c
cut-of cuts a c divide has le = divide.addr c (Contains-filter (λ n. nat_le n 4294967295) (address_cuts a) c has (grind (arith, nat_tests)))

pub stretch-cut : (keys : List ℕ) (high a : ℕ) (x : ℕ × Bool) (cuts : CutLists) → IsKeyStretch keys high a x → CutOut (has_key keys high) cuts
    → x.0 < 4294967295 → Contains cuts.addr (x.0 + 1)
stretch-cut keys high a x cuts s divide lt = elim (cases_Bool x.1) [
  | inl hit ↦
      let from = s.from in
      let same : x.0 ≡ a = s.alone hit in
      let has : has_key keys high a ≡ true = s.alike a (omega arith) from ∙ hit in
      subst (λ (n : ℕ). Contains cuts.addr (n + 1)) (sym same) (cut-of cuts a (a + 1) (divide a (omega arith) has) (1, omega arith, refl) (omega arith))
  | inr miss ↦ ended (s.gap miss)
]
  where
    ended : (x.0 ≡ 4294967295) ⊎ (has_key keys high (x.0 + 1) ≡ true) → Contains cuts.addr (x.0 + 1)
    ended (inl e) = absurd (omega arith)
    ended (inr has) = cut-of cuts (x.0 + 1) (x.0 + 1) (divide (x.0 + 1) (omega arith) has) (0, omega arith, refl) (omega arith)

-- ---- tables

-- there is a value where the key is one of the keys
pub is_some-value_at : {T : Type 0} (k : ℕ) (es : List (Entry T)) → is_some (value_at k es) ≡ list_any (λ n. n == k) (map (λ e. e.key) es)
is_some-value_at {T} k [] = refl
is_some-value_at {T} k (e ∷ es) = elim (cases_Bool (e.key == k)) [
  | inl same ↦ rw same refl
  | inr other ↦ rw other (is_some-value_at k es)
]

-- addresses of a stretch have one value
pub value-in : {T : Type 0} (es : List (Entry T)) (high a b : ℕ) (x : ℕ × Bool) → IsKeyStretch (map (λ e. e.key) es) high a x → a ≤ b → b ≤ x.0
    → value_at (key_of high a) es ≡ value_at (key_of high b) es
value-in {T} es high a b x s from to = elim (cases_Bool x.1) [
  | inl hit ↦
      let same : x.0 ≡ a = s.alone hit in
      ap (λ (n : ℕ). value_at (key_of high n) es) (omega arith)
  | inr miss ↦ none a (omega arith) (omega arith) miss ∙ sym (none b from to miss)
]
  where
    none : (c : ℕ) → a ≤ c → c ≤ x.0 → x.1 ≡ false → value_at (key_of high c) es ≡ None
    none c from to miss = none_if (value_at (key_of high c) es) (is_some-value_at (key_of high c) es ∙ s.alike c from to ∙ miss)

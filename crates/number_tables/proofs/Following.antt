-- The next key, among keys that ascend.
use Rattle.std.proofs.Common.{◌≡◌, ◌∙◌, ◌∷◌, ◌<◌, ◌≤◌, ◌⊎◌, [], ℕ, List, None, Some, ap, arith, inl, inr, length, map, nat_lt, slice_index_or, subst, sym, false, true}
use Rattle.std.specs.List.{Contains}
use Rattle.std.specs.List.Sorted.{IsNonDecreasingBy, IsPartitionPoint}
use Rattle.std.proofs.lemmas.Bool.{cases_lt, ltb-false, ltb-true}
use Rattle.std.proofs.lemmas.List.{get_or-map, get_or_default, length-map}
use Rattle.std.proofs.lemmas.List.Elements.{Contains-get_or}
use Rattle.number_tables.specs.Next.{IsNext}

-- a key is that of some element
at-key : {X : Type 0} (key : X → ℕ) (xs : List X) (m : ℕ) → Contains (map key xs) m → (i : ℕ) × (d : X) × (i < length xs) × (key (slice_index_or xs i d) ≡ m)
at-key key [] m (i, within, same) = absurd (omega arith)
at-key key (x ∷ xs) m (i, within, same) =
    let inside : i < length (x ∷ xs) = omega (arith, length-map (x ∷ xs) key) in (i, x, inside, sym (get_or-map key (x ∷ xs) i x m inside) ∙ same)

-- the first element that isn't below n has the next key
pub next-found : {X : Type 0} (key : X → ℕ) (n : ℕ) (xs seen set : List X) (k : ℕ) (x : X) → seen ≡ xs → xs ≡ set → IsNonDecreasingBy key xs
    → IsPartitionPoint (λ y. nat_lt (key y) n ≡ true) (λ y. nat_lt (key y) n ≡ false) seen k
    → k < length xs → x ≡ slice_index_or xs k x → IsNext (map key set) n (Some (key x))
next-found {X} key n xs seen set k x same is up point within at =
    subst (λ ys. IsNext (map key ys) n (Some (key x))) is
    (ltb-false (key x) n (subst (λ y. nat_lt (key y) n ≡ false) (sym at) (split.1 k x (omega arith) within)), has, λ m c. least m (at-key key xs m c))
  where
    split : IsPartitionPoint (λ y. nat_lt (key y) n ≡ true) (λ y. nat_lt (key y) n ≡ false) xs k
    split = subst (λ ys. IsPartitionPoint (λ y. nat_lt (key y) n ≡ true) (λ y. nat_lt (key y) n ≡ false) ys k) same point

    has : Contains (map key xs) (key x)
    has =
        let there = Contains-get_or (map key xs) k (key x) (omega (arith, length-map xs key)) in
        subst (Contains (map key xs)) (get_or-map key xs k x (key x) within ∙ ap key (sym at)) there

    by : (i : ℕ) (d : X) → i < length xs → (i < k) ⊎ (k ≤ i) → (key (slice_index_or xs i d) < n) ⊎ (key x ≤ key (slice_index_or xs i d))
    by i d inside (inl before) = inl (ltb-true _ n (split.0 i d (omega arith) before))
    by i d inside (inr after) =
        let here : key x ≡ key (slice_index_or xs k d) = ap key (at ∙ get_or_default xs k x d within) in
        let most = up k i d after inside in
        inr (omega arith)

    least : (m : ℕ) → (i : ℕ) × (d : X) × (i < length xs) × (key (slice_index_or xs i d) ≡ m) → (m < n) ⊎ (key x ≤ m)
    least m (i, d, inside, same) = subst (λ j. (j < n) ⊎ (key x ≤ j)) same (by i d inside (cases_lt i k))

-- all elements are below n
pub next-none : {X : Type 0} (key : X → ℕ) (n : ℕ) (xs seen set : List X) (k : ℕ) → seen ≡ xs → xs ≡ set
    → IsPartitionPoint (λ y. nat_lt (key y) n ≡ true) (λ y. nat_lt (key y) n ≡ false) seen k
    → length xs ≤ k → IsNext (map key set) n None
next-none {X} key n xs seen set k same is point past =
    subst (λ ys. IsNext (map key ys) n None) is (λ m c. below m (at-key key xs m c))
  where
    split : IsPartitionPoint (λ y. nat_lt (key y) n ≡ true) (λ y. nat_lt (key y) n ≡ false) xs k
    split = subst (λ ys. IsPartitionPoint (λ y. nat_lt (key y) n ≡ true) (λ y. nat_lt (key y) n ≡ false) ys k) same point

    below : (m : ℕ) → (i : ℕ) × (d : X) × (i < length xs) × (key (slice_index_or xs i d) ≡ m) → m < n
    below m (i, d, inside, same) = subst (λ j. j < n) same (ltb-true _ n (split.0 i d (omega arith) (omega arith)))

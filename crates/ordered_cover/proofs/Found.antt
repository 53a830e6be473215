-- A row that is found by its low corner.
use Rattle.std.proofs.Common.{◌≡◌, ℕ, ◌≤◌, ◌<◌, AllPairs, Bool, Contains, List, ap, arith, false, get_or, length, refl, subst, sym, true, ◌∙◌, ⊎_elim}
use Rattle.std.proofs.lemmas.Bool.{cases_lt}
use Rattle.std.proofs.lemmas.List.{get_or_default}
use Rattle.std.specs.List.Sorted.{IsPartitionPoint, IsPartitionedBy}
use Rattle.std.specs.Ordering.{is_lt, ordering_reverse}
use Rattle.std.specs.declared.cmp.Ordering.{Ordering}
use Rattle.std.specs.declared.cmp.Ordering.TheVariants.{Less, Equal, Greater}
use Rattle.vpc_base.specs.Header.{IsBefore, order_of}
use Rattle.vpc_base.specs.declared.headers.Header.{Header}
use Rattle.header_boxes.specs.Boxes.{low_of}
use Rattle.header_boxes.specs.declared.rows.Row.{Row}
use Rattle.header_boxes.proofs.Order.{order_of_total}
use Rattle.ordered_cover.proofs.Order.{before_trans}

-- ---- a header comes before another

is_less : (o : Ordering) → is_lt o ≡ true → o ≡ Less
is_less Less e = refl
is_less Equal e = absurd cc
is_less Greater e = absurd cc

not_before_itself : (h : Header) → IsBefore h h → ⊥
not_before_itself h before = let e : Less ≡ Greater = sym before ∙ (order_of_total.antisymm h h ∙ ap ordering_reverse before) in absurd cc

module _ {W : Type 0} where
  abbrev pub begins_before : Header → Row W → Bool
  begins_before low row = is_lt (order_of (low_of row.part) low)

  abbrev pub Ascend : List (Row W) → Type 0
  Ascend rows = AllPairs (λ x y. IsBefore (low_of x.part) (low_of y.part)) rows

  -- those that begin before a header come first
  pub parted : (rows : List (Row W)) (low : Header) → Ascend rows → IsPartitionedBy (begins_before low) rows
  parted rows low ascend i j d le inside later =
      ⊎_elim
      (λ lt. ap is_lt (before_trans (low_of (get_or rows i d).part) (low_of (get_or rows j d).part) low (ascend i j d lt inside) (is_less _ later)))
      (λ ge. let same : j ≡ i = omega (arith, le, ge) in subst (λ k. begins_before low (get_or rows k d) ≡ true) same later)
      (cases_lt i j)

  module _ (rows : List (Row W)) (low : Header) (k : ℕ) (ascend : Ascend rows) (few : k ≤ length rows)
      (point : IsPartitionPoint (λ r. begins_before low r ≡ true) (λ r. begins_before low r ≡ false) rows k) (row : Row W) (there : Contains rows row) (begins : low_of row.part ≡ low) where
    -- the number of the row that begins there
    stands : k ≡ there.0
    stands =
        ⊎_elim
        (λ lt.
        let t = point.0 there.0 row (omega arith) lt in
        let own : IsBefore (low_of row.part) low = is_less _ (subst (λ r. begins_before low r ≡ true) there.2 t) in
        absurd (not_before_itself low (subst (λ h. IsBefore h low) begins own)))
        (λ ge.
        ⊎_elim
        (λ lt.
        let a = ascend k there.0 row lt there.1 in
        let before : IsBefore (low_of (get_or rows k row).part) low = subst (λ h. IsBefore (low_of (get_or rows k row).part) h) (ap (λ r. low_of r.part) there.2 ∙ begins) a in
        let inside = there.1 in
        let t = point.1 k row (omega arith) (omega (arith, lt, inside)) in
        let both : true ≡ false = sym (ap is_lt before) ∙ t in
        absurd cc)
        (λ le. omega (arith, ge, le))
        (cases_lt k there.0))
        (cases_lt there.0 k)

    pub found_below : k < length rows
    found_below = let s = stands in let inside = there.1 in omega (arith, s, inside)

    pub found_is : (x d : Row W) → x ≡ get_or rows k d → row ≡ x
    found_is x d is =
        let s = stands in
        sym there.2 ∙ (ap (λ n. get_or rows n row) (sym s) ∙ (get_or_default rows k row d found_below ∙ sym is))

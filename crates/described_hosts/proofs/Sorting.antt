-- What a sort by a closure ensures, where each call compares two items; and items with ids of their own in the order of these.
use Rattle.std.proofs.Common.{AllPairs, IsPermutation, IsSortedByKey, ap, arith, bytes_eq, get_or, is_lt, nat_cmp, ℕ}
use Rattle.std.specs.Prelude.{◌≡◌, Bool, List}
use Rattle.std.specs.Cmp.{IsStrictWeakOrder}
use Rattle.std.specs.Cmp.Lexicographic.{slice_cmp}
use Rattle.std.specs.Fn.{Called, ComparesAs}
use Rattle.std.specs.List.{IsDistinct}
use Rattle.std.specs.List.Sorted.{IsSortedBy}
use Rattle.std.specs.declared.cmp.Ordering.{Ordering}
use Rattle.std.specs.declared.cmp.Ordering.TheVariants.{Less}
use Rattle.std.proofs.lemmas.Fn.{always_returns_same}
use Rattle.vpc_base.proofs.Lemmas.{IsDistinct-IsPermutation, apart_from_distinct, comes-before, nat_list_cmp_total, nat_list_eq_equiv, ranks_by, sorted_far}
use denote.Param.Members.{Mut}
use denote.Ref.{Bor}

pub IsSortedBy-from_sort_by : {X : Type 0} (R : X → X → Ordering) → {F : Type 0} {g : Mut F (Bor X × (Bor X × Unit {0})) Ordering} {f : F} (xs : List X) → IsStrictWeakOrder (λ x y. is_lt (R x y))
    → ((lt : X → X → Bool) → IsStrictWeakOrder lt → ComparesAs g lt f → IsSortedBy lt xs)
    → ((a : Bor X × (Bor X × Unit {0})) (r : Ordering) (f' : F) → Called g f a r f' → (r ≡ R a.0.now a.1.0.now) × (f' ≡ f)) → IsSortedBy (λ x y. is_lt (R x y)) xs
IsSortedBy-from_sort_by R {g = g} {f = f} xs ranks up answers =
    up (λ x y. is_lt (R x y)) ranks (always_returns_same g _ f (λ a r q called. let answer = answers a r q called in (ap is_lt answer.0, answer.1)))

-- sorted by ids that differ, each comes before all later ones
pub ascend : {X : Type 0} (id : X → List ℕ) (xs sorted : List X) → IsDistinct (λ x y. bytes_eq (id x) (id y)) xs → IsPermutation xs sorted → IsSortedByKey id (slice_cmp nat_cmp) sorted
    → AllPairs (λ x y. slice_cmp nat_cmp (id x) (id y) ≡ Less) sorted
ascend {X = X} id xs sorted distinct moved up i j x less within =
    let same : X → X → Bool = λ y z. bytes_eq (id y) (id z) in
    let still = IsDistinct-IsPermutation same (λ y z. nat_list_eq_equiv.symm (id y) (id z)) xs sorted moved distinct in
    comes-before (id (get_or sorted i x)) (id (get_or sorted j x))
    (apart_from_distinct same sorted i j x still less within)
    (sorted_far (λ (y z : X). is_lt (slice_cmp nat_cmp (id y) (id z))) (ranks_by nat_list_cmp_total id) sorted up i j x (omega arith) within)

-- Ids and other texts: whether two are one, and which comes first.
use Rattle.std.proofs.Common.{◌≡◌, ◌∙◌, List, ap, bytes_eq, false, is_lt, refl, sym, true, ℕ}
use Rattle.std.specs.Cmp.Lexicographic.{slice_cmp}
use Rattle.std.specs.Ordering.{is_eq, nat_cmp, ordering_reverse}
use Rattle.std.specs.declared.cmp.Ordering.{Ordering}
use Rattle.std.specs.declared.cmp.Ordering.TheVariants.{Equal, Greater, Less}
use Rattle.std.proofs.lemmas.Bool.Decides.{same_from_decides}
use Rattle.std.proofs.lemmas.Cmp.{nat_list_cmp_total}
use Rattle.std.proofs.lemmas.Map.Text.{is_eq-slice_cmp}
use Rattle.std.proofs.lemmas.Slice.Eq.{bytes_eq-Decides}

pub same_bytes : (a b : List ℕ) → bytes_eq a b ≡ true → a ≡ b
same_bytes a b e = (bytes_eq-Decides a b).0 e

pub bytes_self : (a : List ℕ) → bytes_eq a a ≡ true
bytes_self a = (bytes_eq-Decides a a).1 refl

pub bytes_eq-comm : (a b : List ℕ) → bytes_eq a b ≡ bytes_eq b a
bytes_eq-comm a b =
    let decides = bytes_eq-Decides b a in
    same_from_decides (bytes_eq a b) (bytes_eq b a) (bytes_eq-Decides a b) (λ h. sym (decides.0 h), λ e. decides.1 (sym e))

-- ---- their order

is-less : (o : Ordering) → is_eq o ≡ false → is_lt (ordering_reverse o) ≡ false → o ≡ Less
is-less Less e l = refl
is-less Equal e l = absurd cc
is-less Greater e l = absurd cc

-- of two that differ, the one that doesn't come after the other comes before it
pub comes-before : (a b : List ℕ) → bytes_eq a b ≡ false → is_lt (slice_cmp nat_cmp b a) ≡ false → slice_cmp nat_cmp a b ≡ Less
comes-before a b apart up =
    is-less (slice_cmp nat_cmp a b) (is_eq-slice_cmp a b ∙ apart) (ap is_lt (sym (nat_list_cmp_total.antisymm b a)) ∙ up)

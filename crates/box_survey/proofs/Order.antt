-- The order of headers.
use Rattle.std.proofs.Common.{◌≡◌, refl, ap, is_lt, not, true, ◌∙◌}
use Rattle.std.specs.Ordering.{ordering_reverse}
use Rattle.std.specs.declared.cmp.Ordering.{Ordering}
use Rattle.std.specs.declared.cmp.Ordering.TheVariants.{Less, Equal, Greater}
use Rattle.vpc_base.specs.Header.{order_of, IsBefore}
use Rattle.vpc_base.specs.declared.headers.Header.{Header}
use Rattle.header_boxes.proofs.Order.{order_of_total}

-- a header that isn't before b is before none that b isn't before
pub not_before_trans : (a b c : Header) → ¬ (IsBefore a b) → ¬ (IsBefore b c) → ¬ (IsBefore a c)
not_before_trans a b c not_ab not_bc before = by (order_of b a) refl
  where
    by : (o : Ordering) → order_of b a ≡ o → ⊥
    by Less e = not_bc (order_of_total.trans b a c e before)
    by Equal e = not_bc (order_of_total.congr b a c e ∙ before)
    by Greater e = not_ab (order_of_total.antisymm a b ∙ ap ordering_reverse e)

pub not_before_itself : (a : Header) → ¬ (IsBefore a a)
not_before_itself a before = let e = order_of_total.antisymm a a in let f = ap ordering_reverse before in cc

pub not_less : (o : Ordering) → not (is_lt o) ≡ true → o ≡ Less → ⊥
not_less Less t e = cc
not_less Equal t e = cc
not_less Greater t e = cc

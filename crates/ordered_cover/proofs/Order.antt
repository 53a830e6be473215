-- The order of headers.
use Rattle.std.proofs.Common.{◌≡◌, ◌≢◌, refl, ap, ◌∙◌}
use Rattle.std.specs.Ordering.{ordering_reverse}
use Rattle.std.specs.declared.cmp.Ordering.{Ordering}
use Rattle.std.specs.declared.cmp.Ordering.TheVariants.{Less, Equal, Greater}
use Rattle.vpc_base.specs.Header.{order_of, IsBefore}
use Rattle.vpc_base.specs.declared.headers.Header.{Header}
use Rattle.header_boxes.proofs.Codes.{same_if_equal}
use Rattle.header_boxes.proofs.Order.{order_of_total}

pub before_trans : (a b c : Header) → IsBefore a b → IsBefore b c → IsBefore a c
before_trans = order_of_total.trans

-- a header that isn't before b is after all that are before b
pub before_upto : (a b c : Header) → ¬ (IsBefore a b) → IsBefore a c → IsBefore b c
before_upto a b c not_before before = by (order_of b a) refl
  where
    by : (o : Ordering) → order_of b a ≡ o → IsBefore b c
    by Less e = before_trans b a c e before
    by Equal e = order_of_total.congr b a c e ∙ before
    by Greater e = absurd (not_before (order_of_total.antisymm a b ∙ ap ordering_reverse e))

-- of two headers that differ one is before the other
pub before_other : (a b : Header) → ¬ (IsBefore b a) → a ≢ b → IsBefore a b
before_other a b not_before differ = by (order_of a b) refl
  where
    by : (o : Ordering) → order_of a b ≡ o → IsBefore a b
    by Less e = e
    by Equal e = absurd (differ (same_if_equal a b e))
    by Greater e = absurd (not_before (order_of_total.antisymm b a ∙ ap ordering_reverse e))

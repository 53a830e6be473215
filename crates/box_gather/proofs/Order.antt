-- Tests of the order of headers.
use Rattle.std.proofs.Common.{◌≡◌, ◌∙◌, ap, false, is_lt, refl, sym, true}
use Rattle.std.specs.declared.cmp.Ordering.{Ordering}
use Rattle.std.specs.declared.cmp.Ordering.TheVariants.{Equal, Greater, Less}
use Rattle.vpc_base.specs.Terms.{IsBefore, order_of}
use Rattle.vpc_base.specs.declared.headers.Header.{Header}
use Rattle.box_gather.specs.Pile.{is_before}

less_if : (o : Ordering) → is_lt o ≡ true → o ≡ Less
less_if Less e = refl
less_if Equal e = absurd cc
less_if Greater e = absurd cc

pub before_if : (a b : Header) → is_before a b ≡ true → IsBefore a b
before_if a b e = less_if (order_of a b) e

pub before_is : (a b : Header) → IsBefore a b → is_before a b ≡ true
before_is a b e = ap is_lt e

pub not_before : (a b : Header) → is_before a b ≡ false → ¬ (IsBefore a b)
not_before a b e lt = let k = sym e ∙ before_is a b lt in absurd cc

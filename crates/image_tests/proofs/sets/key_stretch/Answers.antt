use Rattle.std.proofs.Common.{arith, subst}
use Rattle.number_tables.specs.Keys.{key_of}
use Rattle.number_tables.specs.Next.{IsNext}
use Rattle.image_tests.proofs.KeyStretches.{stretch-before, stretch-key, stretch-none, stretch-past}
use Rattle.image_tests.proofs.sets.key_stretch.Goals as goal

pub returns-in_default : goal.returns-in_default
returns-in_default c = λ keys next. stretch-none keys c.args.high c.args.address c.args.next (omega (arith, c.ranges.address.fits)) c.in_default.not-Some next

pub returns-then-next-key : goal.returns-then-next-key
returns-then-next-key c = λ keys next.
    let known = subst (λ o. IsNext keys (key_of c.args.high c.args.address) o) c.in-Some.is next in
    stretch-key keys c.args.high c.args.address c.in-Some.next (omega (arith, c.if-next-key.true, c.key_of-key.ensures)) known

pub returns-then-next-key_of : goal.returns-then-next-key_of
returns-then-next-key_of c = λ keys next.
    let known = subst (λ o. IsNext keys (key_of c.args.high c.args.address) o) c.in-Some.is next in
    stretch-past keys c.args.high c.args.address c.in-Some.next (omega (arith, c.ranges.address.fits)) (omega (arith, c.if-next-key_of.true, c.key_of.ensures)) known

pub returns : goal.returns
returns c = λ keys next.
    let known = subst (λ o. IsNext keys (key_of c.args.high c.args.address) o) c.in-Some.is next in
    rw c.key_of-key.ensures (stretch-before keys c.args.high c.args.address c.in-Some.next (λ e. c.if-next-key.false (omega (arith, e, c.key_of-key.ensures))) (omega (arith, c.if-next-key_of.false, c.key_of.ensures)) known)

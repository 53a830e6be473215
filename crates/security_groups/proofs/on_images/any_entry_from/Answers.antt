use Rattle.std.proofs.Common.{arith, false, get_or}
use Rattle.cut_laws.specs.Dividing.{DivideTurns}
use Rattle.security_groups.specs.Rules.{has_entry}
use Rattle.security_groups.proofs.AskingOn.{DivideEntries}
use Rattle.security_groups.proofs.Stretching.{any-all, any-first, any-found, any-next, stretch-more}
use Rattle.security_groups.proofs.on_images.any_entry_from.Goals as goal

pub loop-list-init : goal.loop-list-init
loop-list-init c = any-first (DivideEntries c.args.lists.now c.args.named.now) (has_entry c.args.lists.now) c.args.named.now c.args.address (omega (arith, c.ranges.address.fits))

pub loop-list-preserved : goal.loop-list-preserved
loop-list-preserved c =
    let lists = c.args.lists.now in
    let named = c.args.named.now in
    let a = c.args.address in
    let k = c.loop-list.list-index in
    let l = get_or named k 0 in
    let x = c.entries_from-has.result in
    any-next (DivideEntries lists named) (has_entry lists) named a k c.loop-list.last c.min-last.result x (omega arith) c.if-has.false c.min-last.ensures c.loop-list.invariant
    (stretch-more (DivideTurns (λ b. has_entry lists b l)) (DivideEntries lists named) (λ b. has_entry lists b l) a x (λ cuts all. all k 0 (omega arith)) c.entries_from-has.ensures)

pub returns-then-has : goal.returns-then-has
returns-then-has c =
    let lists = c.args.lists.now in
    let named = c.args.named.now in
    let a = c.args.address in
    let k = c.loop-list.list-index in
    let l = get_or named k 0 in
    let x = c.entries_from-has.result in
    any-found (DivideEntries lists named) (has_entry lists) named a k x (omega arith) c.if-has.true
    (stretch-more (DivideTurns (λ b. has_entry lists b l)) (DivideEntries lists named) (λ b. has_entry lists b l) a x (λ cuts all. all k 0 (omega arith)) c.entries_from-has.ensures)

pub returns : goal.returns
returns c =
    any-all (DivideEntries c.args.lists.now c.args.named.now) (has_entry c.args.lists.now) c.args.named.now c.args.address c.loop-list.list-index (c.loop-list.last, false)
    c.loop-list-test.false c.loop-list.invariant

use Rattle.std.proofs.Common.{arith, false, get_or}
use Rattle.security_groups.specs.Rules.{DivideMember, has_member}
use Rattle.security_groups.proofs.AskingOn.{DivideMembers}
use Rattle.security_groups.proofs.Stretching.{any-all, any-first, any-found, any-next, stretch-more}
use Rattle.security_groups.proofs.on_images.any_member_from.Goals as goal

pub loop-group-init : goal.loop-group-init
loop-group-init c = any-first (DivideMembers c.args.members.now c.args.named.now) (has_member c.args.members.now) c.args.named.now c.args.address (omega (arith, c.ranges.address.fits))

pub loop-group-preserved : goal.loop-group-preserved
loop-group-preserved c =
    let members = c.args.members.now in
    let named = c.args.named.now in
    let a = c.args.address in
    let k = c.loop-group.group-index in
    let g = get_or named k 0 in
    let x = c.member_from-has.result in
    any-next (DivideMembers members named) (has_member members) named a k c.loop-group.last c.min-last.result x (omega arith) c.if-has.false c.min-last.ensures c.loop-group.invariant
    (stretch-more (DivideMember members g) (DivideMembers members named) (λ b. has_member members b g) a x (λ cuts all. all k 0 (omega arith)) c.member_from-has.ensures)

pub returns-then-has : goal.returns-then-has
returns-then-has c =
    let members = c.args.members.now in
    let named = c.args.named.now in
    let a = c.args.address in
    let k = c.loop-group.group-index in
    let g = get_or named k 0 in
    let x = c.member_from-has.result in
    any-found (DivideMembers members named) (has_member members) named a k x (omega arith) c.if-has.true
    (stretch-more (DivideMember members g) (DivideMembers members named) (λ b. has_member members b g) a x (λ cuts all. all k 0 (omega arith)) c.member_from-has.ensures)

pub returns : goal.returns
returns c =
    any-all (DivideMembers c.args.members.now c.args.named.now) (has_member c.args.members.now) c.args.named.now c.args.address c.loop-group.group-index (c.loop-group.last, false)
    c.loop-group-test.false c.loop-group.invariant

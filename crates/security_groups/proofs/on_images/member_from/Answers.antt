use Rattle.std.proofs.Common.{Bool, ℕ}
use Rattle.security_groups.specs.Rules.{DivideMember, has_block, has_key}
use Rattle.security_groups.proofs.Stretching.{stretch-blocks, stretch-first, stretch-keys, stretch-neither, stretch-second}
use Rattle.security_groups.proofs.on_images.member_from.Goals as goal

pub returns-then-key : goal.returns-then-key
returns-then-key c =
    let members = c.args.members.now in
    let g = c.args.group in
    let keys : ℕ → Bool = λ b. has_key members b g in
    let blocks : ℕ → Bool = λ b. has_block members b g in
    stretch-first (DivideMember members g) keys blocks c.args.address c.members_from-key.result c.if-key.true
    (stretch-keys members c.keys.result.now g c.args.address c.members_from-key.result c.keys.ensures c.members_from-key.ensures)

pub returns-then-block : goal.returns-then-block
returns-then-block c =
    let members = c.args.members.now in
    let g = c.args.group in
    let keys : ℕ → Bool = λ b. has_key members b g in
    let blocks : ℕ → Bool = λ b. has_block members b g in
    stretch-second (DivideMember members g) keys blocks c.args.address c.entries_from-block.result c.if-block.true
    (stretch-blocks members c.blocks-2.result.now g c.args.address c.entries_from-block.result c.blocks-2.ensures c.entries_from-block.ensures)

pub returns : goal.returns
returns c =
    let members = c.args.members.now in
    let g = c.args.group in
    let keys : ℕ → Bool = λ b. has_key members b g in
    let blocks : ℕ → Bool = λ b. has_block members b g in
    stretch-neither (DivideMember members g) keys blocks c.args.address c.min.result c.members_from-key.result c.entries_from-block.result c.if-key.false c.if-block.false c.min.ensures
    (stretch-keys members c.keys.result.now g c.args.address c.members_from-key.result c.keys.ensures c.members_from-key.ensures)
    (stretch-blocks members c.blocks-2.result.now g c.args.address c.entries_from-block.result c.blocks-2.ensures c.entries_from-block.ensures)

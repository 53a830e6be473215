use Rattle.std.proofs.Common.{Bool, ℕ}
use Rattle.address_sets.specs.Runs.{is_in}
use Rattle.cut_laws.specs.Dividing.{DivideTurns}
use Rattle.security_groups.specs.Dividing.{lists_name}
use Rattle.security_groups.specs.Rules.{DivideRule}
use Rattle.security_groups.proofs.Stretching.{stretch-first, stretch-more, stretch-neither, stretch-second, stretch-set}
use Rattle.security_groups.proofs.on_images.named_from.Goals as goal

pub returns-then-block : goal.returns-then-block
returns-then-block c =
    let lists = c.args.lists.now in
    let members = c.args.members.now in
    let r = c.args.rule.now in
    let a = c.args.address in
    let x = c.stretch-block.result in
    let blocks : ℕ → Bool = λ b. is_in b r.blocks in
    let others : ℕ → Bool = λ b. lists_name lists members b r in
    stretch-first (DivideRule lists members r) blocks others a x c.if-block.true
    (stretch-more (DivideTurns blocks) (DivideRule lists members r) blocks a x (λ cuts d. d.blocks) (stretch-set r.blocks a x c.stretch-block.ensures))

pub returns-then-listed : goal.returns-then-listed
returns-then-listed c =
    let lists = c.args.lists.now in
    let members = c.args.members.now in
    let r = c.args.rule.now in
    let blocks : ℕ → Bool = λ b. is_in b r.blocks in
    let others : ℕ → Bool = λ b. lists_name lists members b r in
    stretch-second (DivideRule lists members r) blocks others c.args.address c.listed_from-listed.result c.if-listed.true c.listed_from-listed.ensures

pub returns : goal.returns
returns c =
    let lists = c.args.lists.now in
    let members = c.args.members.now in
    let r = c.args.rule.now in
    let a = c.args.address in
    let x = c.stretch-block.result in
    let blocks : ℕ → Bool = λ b. is_in b r.blocks in
    let others : ℕ → Bool = λ b. lists_name lists members b r in
    stretch-neither (DivideRule lists members r) blocks others a c.min.result x c.listed_from-listed.result c.if-block.false c.if-listed.false c.min.ensures
    (stretch-more (DivideTurns blocks) (DivideRule lists members r) blocks a x (λ cuts d. d.blocks) (stretch-set r.blocks a x c.stretch-block.ensures))
    c.listed_from-listed.ensures

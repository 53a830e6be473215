use Rattle.std.proofs.Common.{ℕ, ◌+◌, subst, sym}
use Rattle.vpc_base.specs.Cuts.{CutLists}
use Rattle.box_images.specs.Bodies.{IsCut}
use Rattle.box_images.specs.Images.{field_of}
use Rattle.cut_laws.specs.Dividing.{Divide}
use Rattle.prefix_text.specs.Block.{last_of}
use Rattle.image_tests.proofs.Answering.{side_answers}
use Rattle.image_tests.proofs.EdgeCuts.{block_edges}
use Rattle.image_tests.proofs.Fields.{greatest_address}
use Rattle.image_tests.proofs.rules.block_on.Goals as goal
use Rattle.image_tests.specs.Tests.{TellsSide, cuts_of_block}

pub returns : goal.returns
returns c =
    let i = c.args.i.now in
    let s = c.args.side in
    let b = c.args.block.now in
    let x = c.side_on.result in
    let told = subst (λ (k : ℕ). TellsSide i s k c.last.result x) c.first.ensures.value c.side_on.ensures in
    let told = subst (λ (k : ℕ). TellsSide i s b.first k x) c.last.ensures told in
    let cut = λ (cuts : CutLists) (divide : Divide (cuts_of_block b) cuts).
    subst (λ (n : ℕ). IsCut cuts n (field_of i s) b.first × IsCut cuts n (field_of i s) (last_of b + 1)) (sym (greatest_address s c.requires.address))
    (block_edges i s b c.requires.walk c.requires.address cuts divide) in
    side_answers (Divide (cuts_of_block b)) i s b.first (last_of b) x c.requires.valid cut told

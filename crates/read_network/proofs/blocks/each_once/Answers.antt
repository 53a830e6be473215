use Rattle.std.proofs.Common.{◌≡◌, ◌∙◌, ◌++◌, ◌∷◌, [], false, true, sym}
use Rattle.std.specs.List.{list_any}
use Rattle.json_fields.proofs.KeptLemmas.{unseen-none}
use Rattle.read_network.specs.Vpcs.{each_once, same_block}
use Rattle.read_network.proofs.BlockLemmas.{each_once-new, each_once-seen, itself, not-false, not-true}
use Rattle.read_network.proofs.blocks.each_once.Goals as goal

pub loop-block-init : goal.loop-block-init
loop-block-init c = rw (c.new-kept.ensures.items, c.new-seen.ensures) (unseen-none same_block itself (each_once c.args.blocks.now))

pub loop-block-preserved : goal.loop-block-preserved
loop-block-preserved c =
    let new : list_any (same_block c.block-item.result) c.loop-block.seen ≡ false = not-true _ (sym c.if-not-branch.false ∙ c.in_ok-is_new.ensures.fresh) in
    let seen : c.is_new.new.self ≡ c.loop-block.seen ++ c.block-item.result ∷ [] = rw c.if-not-branch.false at c.in_ok-is_new.ensures.added in
    rw (c.in_ok-keep.ensures, seen)
    (each_once-new c.args.blocks.now c.loop-block.block-index c.block-item.result c.loop-block.seen c.loop-block.kept.items c.loop-block-test.true c.block-item.is new
    ∙ c.loop-block.invariant)

pub loop-block-preserved-then-not-branch : goal.loop-block-preserved-then-not-branch
loop-block-preserved-then-not-branch c =
    let known : list_any (same_block c.block-item.result) c.loop-block.seen ≡ true = not-false _ (sym c.if-not-branch.true ∙ c.in_ok-is_new.ensures.fresh) in
    let seen : c.is_new.new.self ≡ c.loop-block.seen = rw c.if-not-branch.true at c.in_ok-is_new.ensures.added in
    rw seen
    (each_once-seen c.args.blocks.now c.loop-block.block-index c.block-item.result c.loop-block.seen c.loop-block.kept.items c.loop-block-test.true c.block-item.is known
    ∙ c.loop-block.invariant)

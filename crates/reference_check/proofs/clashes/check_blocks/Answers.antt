use Rattle.std.proofs.Common.{◌≡◌, [], flat_map, subst}
use Rattle.vpc_base.proofs.Steps.{All-one_more, All-whole}
use Rattle.prefix_text.specs.Block.{Block}
use Rattle.address_sets.specs.Runs.{run_of}
use Rattle.vpc_model.specs.Accepted.{clash_with}
use Rattle.reference_check.specs.Claimed.{claim_of}
use Rattle.reference_check.specs.Taken.{IsFree}
use Rattle.reference_check.proofs.OwnClaims.{flat_map-rest}
use Rattle.reference_check.proofs.clashes.check_blocks.Goals as goal

pub loop-block-preserved : goal.loop-block-preserved
loop-block-preserved c =
    let i = c.loop-block.block-index in
    let bs = c.args.blocks.now in
    let b = c.block-item.result in
    let within = c.loop-block-test.true in
    let inv = c.loop-block.invariant in
    let vpc = c.args.vpc.now in
    record {
      free = All-one_more (λ (x : Block). IsFree c.args.taken.now c.args.v (run_of x)) bs i b within c.block-item.is inv.free
          (subst (IsFree c.args.taken.now c.args.v) c.run_of.ensures c.in_ok-check_run.ensures.free);
      rest = λ claims are.
          flat_map-rest (λ (x : Block). clash_with claims (claim_of vpc (run_of x))) bs i b (flat_map (λ (x : Block). clash_with claims (claim_of vpc (run_of x))) bs) within c.block-item.is
          (subst (λ run. clash_with claims (claim_of vpc run) ≡ []) c.run_of.ensures (c.in_ok-check_run.ensures.told claims are)) (inv.rest claims are);
    }

pub returns-clause-free : goal.returns-clause-free
returns-clause-free c =
    All-whole (λ (x : Block). IsFree c.args.taken.now c.args.v (run_of x)) c.args.blocks.now c.loop-block.block-index c.loop-block-test.false c.loop-block.invariant.free

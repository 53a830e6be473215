use Rattle.std.proofs.Common.{◌++◌, get_or, map, take}
use Rattle.std.proofs.lemmas.List.{get_or_default}
use Rattle.address_sets.specs.declared.sets.Run.{Run}
use Rattle.reference_check.specs.Claimed.{claim_of}
use Rattle.reference_check.proofs.OwnClaims.{later-free, next-free, runs-more}
use Rattle.reference_check.proofs.clashes.take_runs.Goals as goal

pub take_run-requires-clause-free : goal.take_run-requires-clause-free
take_run-requires-clause-free c =
    let i = c.loop-run.run-index in
    let rs = c.args.runs.now in
    let none : Run = record { first = 0; last = 0 } in
    let r = get_or rs i none in
    next-free c.loop-run.taken c.args.v rs i r c.loop-run-test.true (get_or_default rs i none r c.loop-run-test.true) c.loop-run.invariant.free

pub loop-run-preserved : goal.loop-run-preserved
loop-run-preserved c =
    let i = c.loop-run.run-index in
    let rs = c.args.runs.now in
    let none : Run = record { first = 0; last = 0 } in
    let r = get_or rs i none in
    let within = c.loop-run-test.true in
    let is = get_or_default rs i none r within in
    let inv = c.loop-run.invariant in
    record {
      free = later-free c.loop-run.taken c.take_run.new.taken c.args.v rs i r c.requires.apart.apart within is c.in_ok-take_run.ensures.taken inv.free;
      added = λ claims are.
          runs-more c.args.d.now claims c.take_run.new.taken c.args.vpc.now rs i r within is
          (c.in_ok-take_run.ensures.added (claims ++ map (claim_of c.args.vpc.now) (take i rs)) (inv.added claims are));
    }

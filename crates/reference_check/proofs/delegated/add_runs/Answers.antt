use Rattle.std.proofs.Common.{◌++◌, ◌<◌, ◌≡◌, ◌∙◌, ◌∷◌, ◌^◌, [], ap, arith, get_or}
use Rattle.std.proofs.lemmas.List.{get_or_default}
use Rattle.vpc_base.proofs.Steps.{All-one_more, pushed-map}
use Rattle.number_tables.specs.Keys.{key_of}
use Rattle.number_tables.specs.declared.runs.KeyRun.{KeyRun}
use Rattle.address_sets.specs.declared.sets.Run.{Run}
use Rattle.reference_check.specs.Blocks.{key_run}
use Rattle.reference_check.proofs.delegated.add_runs.Goals as goal

pub loop-run-preserved : goal.loop-run-preserved
loop-run-preserved c =
    let i = c.loop-run.run-index in
    let rs = c.args.addresses.now in
    let v = c.args.v in
    let n = c.args.number in
    let none : Run = record { first = 0; last = 0 } in
    let r = get_or rs i none in
    let within = c.loop-run-test.true in
    let is = get_or_default rs i none r within in
    let inv = c.loop-run.invariant in
    let pushed : KeyRun _ = record { first = c.key_of.result; last = c.key_of-in-loop-run.result; value = n } in
    let same : pushed ≡ key_run v n r =
    ap (λ m. record { first = m; last = c.key_of-in-loop-run.result; value = n }) c.key_of.ensures
    ∙ ap (λ m. record { first = key_of v r.first; last = m; value = n }) c.key_of-in-loop-run.ensures in
    record {
      added = pushed-map (key_run v n) c.args.runs.now.items rs i r c.loop-run.runs.items c.push.new.self.items within is inv.added (c.in_ok-push.ensures.items ∙ ap (λ x. c.loop-run.runs.items ++ x ∷ []) same);
      fit = All-one_more (λ (x : Run). x.last < 2 ^ 32) rs i r within is inv.fit (omega arith);
    }

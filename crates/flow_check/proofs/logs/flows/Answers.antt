use Rattle.std.proofs.Common.{◌∙◌, ap, arith, subst, sym}
use Rattle.query_words.specs.Events.{lines_of}
use Rattle.vpc_model.specs.Accepted.{IsAccepted}
use Rattle.flow_check.specs.Flows.{FlowList, told_by}
use Rattle.flow_check.proofs.Cuts.{lines-none}
use Rattle.flow_check.proofs.Tallies.{below-next, below-none, meant, told-meant, told-next, told_from}
use Rattle.flow_check.proofs.Telling.{flows-told}
use Rattle.flow_check.proofs.logs.flows.Goals as goal

pub loop-rest-init : goal.loop-rest-init
loop-rest-init c =
    let d = c.args.f.now in
    let n = c.after_names-number.result.1 in
    let lines = lines_of c.after_names-number.result.0.now in
    record {
      told = ap (λ (a : FlowList). told_from d a n lines) c.no_lines-answer.ensures ∙ told-meant d n lines ∙ ap (meant d) c.after_names-number.ensures.lines;
      short = c.after_names-number.ensures.short;
      few = below-none n (told_by c.no_lines-answer.result) c.no_lines-answer.ensures c.after_names-number.ensures.first;
    }

pub loop-rest-preserved : goal.loop-rest-preserved
loop-rest-preserved c =
    let d = c.args.f.now in
    let n = c.loop-rest.number in
    let before = told_by c.loop-rest.answer in
    let after = told_by c.add_line.new.answer in
    let line = c.first_line.result.0.now in
    let next = lines_of c.first_line.result.1.now in
    let is = c.in-Ok.ensures in
    record {
      told = told-next d before after n line next is ∙ sym (ap (told_from d before n) c.first_line.ensures.lines) ∙ c.loop-rest.invariant.told;
      short = omega arith;
      few = below-next d n before after line is c.loop-rest.invariant.few;
    }

pub returns-clause-told : goal.returns-clause-told
returns-clause-told c =
    let d = c.args.f.now in
    let a = told_by c.loop-rest.answer in
    let accepted = subst IsAccepted c.network.ensures c.description.ensures.accepted in
    flows-told d c.args.text.now a accepted
    (sym c.loop-rest.invariant.told ∙ ap (told_from d a c.loop-rest.number) (lines-none c.loop-rest.rest.now c.loop-rest-test.false))

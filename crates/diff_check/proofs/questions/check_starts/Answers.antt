use Rattle.std.proofs.Common.{◌∙◌, List, ap, arith, length, subst, sym}
use Rattle.std.specs.Prelude.{All}
use Rattle.std.proofs.lemmas.List.{length-map}
use Rattle.header_boxes.specs.Boxes.{IsValid}
use Rattle.listing_reader.specs.declared.origins.Origin.{Origin}
use Rattle.diff_check.specs.Starts.{origin_from}
use Rattle.diff_check.proofs.Lists.{origins_are_valid, origins_of-changes}
use Rattle.diff_check.proofs.questions.check_starts.Goals as goal

pub answer_lines-requires-clause-origins : goal.answer_lines-requires-clause-origins
answer_lines-requires-clause-origins g c =
    c.as_slice-origins.ensures.value ∙ (c.in_ok-all_origins.ensures ∙ origins_of-changes c.args.asked.now.compared c.args.targets.now c.args.starts.now)

pub answer_lines-requires-clause-starts : goal.answer_lines-requires-clause-starts
answer_lines-requires-clause-starts g c =
    let same = ap length (c.as_slice-origins.ensures.value ∙ c.in_ok-all_origins.ensures) in
    let mapped = length-map c.args.starts.now (origin_from c.args.asked.now.compared c.args.targets.now) in
    let few = c.requires.few in
    omega (arith, same, mapped, few)

pub invariant_of-question : goal.invariant_of-question
invariant_of-question g c =
    let same = c.as_slice-origins.ensures.value ∙ c.in_ok-all_origins.ensures in
    record {
      ends = c.requires.ends;
      described = c.requires.starts;
      same = same;
      valid = subst (λ (l : List Origin). All (λ o. All IsValid o.boxes) l) (sym same)
          (origins_are_valid c.args.asked.now.compared c.args.targets.now c.args.starts.now c.requires.pairs c.requires.targets);
    }

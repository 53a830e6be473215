use Rattle.std.proofs.Common.{◌∙◌, ap, subst, sym}
use Rattle.header_boxes.specs.Boxes.{IsValid}
use Rattle.header_boxes.specs.Rest.{rest_of}
use Rattle.header_boxes.proofs.Left.{IsLeft, left_of_common, left_alone, left_valid, left_after, left_aligned}
use Rattle.header_boxes.proofs.boxes.Box5.minus.Goals as goal

pub returns-in-Some : goal.returns-in-Some
returns-in-Some c =
    let w = c.args.self.now in
    let p = c.args.part.now in
    let valid = subst IsValid c.in-Some.ensures.ranges c.in-Some.ensures.valid in
    let items = c.rest_without.ensures.items ∙ ap (rest_of w) c.in-Some.ensures.ranges in
    let left : IsLeft w p c.rest_without.result.items = subst (IsLeft w p) (sym items) (left_of_common w p valid) in
    record {
      valid = left_valid w p c.rest_without.result.items left;
      within = left.within;
      disjoint = left.disjoint;
      holds = left.held;
      sides = left.sides;
      alone = left.alone;
      volume = left.volume;
      after = left_after w p c.rest_without.result.items left;
      aligned = left_aligned w p c.rest_without.result.items left;
    }

pub returns-in-None : goal.returns-in-None
returns-in-None c =
    let w = c.args.self.now in
    let p = c.args.part.now in
    let left : IsLeft w p c.only.result.items = subst (IsLeft w p) (sym c.only.ensures) (left_alone w p c.requires c.in-None.ensures.none) in
    record {
      valid = left_valid w p c.only.result.items left;
      within = left.within;
      disjoint = left.disjoint;
      holds = left.held;
      sides = left.sides;
      alone = left.alone;
      volume = left.volume;
      after = left_after w p c.only.result.items left;
      aligned = left_aligned w p c.only.result.items left;
    }

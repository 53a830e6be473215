use Rattle.std.proofs.Common.{◌≡◌, sym, ◌∙◌, ap}
use Rattle.vpc_model.specs.Types.{Component, StopName, StopRule}
use Rattle.vpc_model.specs.Told.{parts_of}
use Rattle.vpc_model.proofs.Parts.{same_parts}
use Rattle.vpc_model.proofs.same.same_stop.Goals as goal

pub returns-then-same_component : goal.returns-then-same_component
returns-then-same_component c =
    let a = c.args.a.now in
    let b = c.args.b.now in (
      λ same. same_parts a b c.parts-a.result c.parts-b.result c.parts-a.ensures c.parts-b.ensures
          (c.same_name.ensures.0 c.if-same_name.true) (c.same_component.ensures.0 c.if-same_component.true) (c.same_rule.ensures.0 same),
      λ e. c.same_rule.ensures.1 (ap (λ (parts : StopName × Component × StopRule). parts.2) (c.parts-a.ensures ∙ (ap parts_of e ∙ sym c.parts-b.ensures))),
    )

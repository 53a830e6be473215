use Rattle.std.proofs.Common.{◌∙◌, List, ap}
use Rattle.fabric.specs.Named.{number_beside}
use Rattle.fabric.specs.declared.named.Named.{Named}
use Rattle.fabric.proofs.NamedRows.{beside-found}
use Rattle.fabric.proofs.named.FirstNamed.get.Goals as goal

pub returns : goal.returns
returns c =
    c.number_at.ensures
    ∙ beside-found c.self.inside.rows.items c.as_slice.result.now c.self.inside.places c.args.id.now c.bytes.result.now c.get.result c.as_slice.ensures.value c.bytes.ensures.value c.get.ensures c.self.invariant
    ∙ ap (λ (rows : List Named). number_beside rows c.args.id.now) c.self.view_is

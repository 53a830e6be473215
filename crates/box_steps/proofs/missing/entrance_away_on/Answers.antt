use Rattle.std.proofs.Common.{◌≡◌, ◌∙◌, None, Option, ap, sym}
use Rattle.box_images.specs.Images.{header_at}
use Rattle.vpc_laws.specs.Types.{TableNo}
use Rattle.vpc_model.specs.Firewalls.{entrance_table}
use Rattle.vpc_model.specs.Lookup.{host_of}
use Rattle.vpc_model.specs.Step.Enter.{enter_by_table}
use Rattle.box_steps.proofs.Away.{enter_host-misses, holds_over-same}
use Rattle.box_steps.proofs.missing.entrance_away_on.Goals as goal
use Rattle.box_steps.specs.Cuts.{Standing}
use Rattle.box_steps.specs.Missing.{is_away, misses}

pub returns-in-None : goal.returns-in-None
returns-in-None g c =
    let d = c.args.f.now in
    let v = c.args.v in
    let i = c.args.i.now in
    let few = c.args.aim.now.deciders.now.appliances in
    let aim = c.args.aim.now.goal in
    let none : entrance_table d v c.args.by ≡ None = sym c.entrance_table.ensures.number ∙ c.in-None.is in
    holds_over-same (Standing d) (λ h. is_away few aim (host_of d v (header_at i h).dst)) (λ h. misses few aim (enter_by_table d v (header_at i h) (entrance_table d v c.args.by))) i.part c.host_away_on.result
    (λ h e. ap (λ (o : Option TableNo). misses few aim (enter_by_table d v (header_at i h) o)) none ∙ enter_host-misses d few aim v (header_at i h) (host_of d v (header_at i h).dst) e) c.host_away_on.ensures

use Rattle.std.proofs.Common.{◌≡◌, ◌∙◌, ap, sym}
use Rattle.vpc_laws.specs.Types.{Far}
use Rattle.vpc_model.specs.Far.{blocks_beyond, peering_to, vpc_beside}
use Rattle.vpc_model.specs.Lookup.{far_at}
use Rattle.vpc_model.specs.Step.Far.{out_by, over_half_peering}
use Rattle.packet_emulator.proofs.outside.far_out.Goals as goal

pub returns-in-Peering : goal.returns-in-Peering
returns-in-Peering c =
    let d = c.args.f.now in
    let k = c.args.k in
    let h = c.args.h.now in
    let row = far_at d k in
    c.over_peering.ensures
    ∙ ap (λ (r : Far). over_half_peering d k (peering_to d r) h (blocks_beyond d r) (vpc_beside d r)) c.far_at-row.ensures
    ∙ sym (ap (out_by d k row h) (ap (λ (r : Far). r.kind) (sym c.far_at-row.ensures) ∙ c.in-Peering.is))

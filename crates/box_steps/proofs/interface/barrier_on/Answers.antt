use Rattle.std.proofs.Common.{ap}
use Rattle.vpc_laws.specs.Types.{Interface}
use Rattle.box_steps.proofs.Barriers.{tells_idle}
use Rattle.box_steps.proofs.interface.barrier_on.Goals as goal

pub returns-then-interface_at : goal.returns-then-interface_at
returns-then-interface_at c =
    tells_idle c.args.f.now c.args.label c.args.i c.args.dir c.args.m.now c.interface_at.result.now.idle c.requires.moment c.if-interface_at.true (ap (λ (e : Interface). e.idle) c.interface_at.ensures)

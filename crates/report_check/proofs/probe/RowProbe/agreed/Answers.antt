use Rattle.std.proofs.Common.{◌∙◌, Option, ap, sym}
use Rattle.vpc_laws.specs.Types.{Phase, Stop}
use Rattle.vpc_model.specs.Told.{told_stop}
use Rattle.report_check.specs.Agreement.{agreed, told_of}
use Rattle.report_check.proofs.Told.{agreed-other}
use Rattle.report_check.proofs.probe.RowProbe.agreed.Goals as goal

pub same_text-requires : goal.same_text-requires
same_text-requires g c = c.requires (c.in_ok-phase.phase, c.in_ok-phase.stop) c.in_ok-phase.was

pub returns-else-same_text : goal.returns-else-same_text
returns-else-same_text g c =
    let d = c.args.self.now.network.now in
    let text = c.args.self.now.text.now in
    sym (ap (λ (word : Option (Phase × Stop)). agreed text (told_of d word)) c.in_ok-phase.was
    ∙ agreed-other text (told_stop d c.in_ok-phase.phase c.in_ok-phase.stop) (λ is. absurd (cc (c.same_text.ensures.1 is, c.if-same_text.false))))

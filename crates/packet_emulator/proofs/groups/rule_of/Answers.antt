use Rattle.std.proofs.Common.{◌<◌, ◌^◌, ◌∙◌, subst}
use Rattle.packet_emulator.proofs.groups.rule_of.Goals as goal

pub returns : goal.returns
returns c = c.allows.ensures ∙ c.groups.ensures.rules.rules c.args.i c.args.dir c.args.h.now c.requires (subst (λ n. n < 2 ^ 32) c.far_address.ensures c.fits.ensures)

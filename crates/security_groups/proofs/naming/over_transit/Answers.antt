use Rattle.std.proofs.Common.{◌∙◌, ap, sym}
use Rattle.vpc_base.specs.declared.headers.Dir.{Dir}
use Rattle.security_groups.specs.Naming.{over_transit}
use Rattle.security_groups.proofs.NamingLemmas.{transit-is}
use Rattle.security_groups.proofs.naming.over_transit.Goals as goal

pub returns-in-Inward : goal.returns-in-Inward
returns-in-Inward c = λ d v w naming at_v at_w.
    transit-is d c.args.named.now v w c.args.vpc c.args.own c.share.result naming at_v at_w c.share.ensures ∙ ap (λ (x : Dir). over_transit x d v w) (sym c.in-Inward.is)

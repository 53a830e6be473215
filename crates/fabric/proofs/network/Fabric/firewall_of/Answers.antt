use Rattle.std.proofs.Common.{◌≡◌, ◌∙◌, subst, sym, true}
use Rattle.vpc_laws.specs.Types.{Description}
use Rattle.vpc_model.specs.Sound.{is_firewall}
use Rattle.fabric.proofs.Entrances.{firewall-sound}
use Rattle.fabric.proofs.network.Fabric.firewall_of.Goals as goal

pub returns-then-is_firewall_in-clause-within : goal.returns-then-is_firewall_in-clause-within
returns-then-is_firewall_in-clause-within c =
    let there = subst (λ (d : Description). is_firewall d c.in_ok-e.e ≡ true) c.network.ensures c.in_ok-e.ensures.within in
    firewall-sound c.args.self.now c.args.v c.in_ok-e.e c.requires there (sym c.is_firewall_in.ensures ∙ c.if-is_firewall_in.true)

use Rattle.std.proofs.Common.{◌≡◌, ◌∙◌, ap, subst, sym, true}
use Rattle.vpc_laws.specs.Types.{Description, FirewallEndpoint, SubnetNo}
use Rattle.vpc_model.specs.Lookup.{has_subnet, subnet_no}
use Rattle.vpc_model.specs.Sound.{is_sound, is_subnet}
use Rattle.vpc_model.specs.declared.places.Place.TheVariants as places
use Rattle.fabric.proofs.Entrances.{firewall-subnet-lies, firewall-subnet-there}
use Rattle.fabric.proofs.network.Fabric.firewall_subnet.Goals as goal

pub subnet_named-requires : goal.subnet_named-requires
subnet_named-requires c =
    let d = c.network-n.result.now in
    let sound = subst (λ (n : Description). is_sound n (places.Inspect c.args.e) ≡ true) (sym c.network-n.ensures) c.requires in
    subst (λ (row : FirewallEndpoint). has_subnet d row.subnet ≡ true) (sym c.firewall_at.ensures) (firewall-subnet-there d c.args.e c.description.ensures.accepted sound)

pub returns-clause-within : goal.returns-clause-within
returns-clause-within c =
    let d = c.network-n.result.now in
    let sound = subst (λ (n : Description). is_sound n (places.Inspect c.args.e) ≡ true) (sym c.network-n.ensures) c.requires in
    let number = c.subnet_named.ensures ∙ ap (λ (row : FirewallEndpoint). subnet_no d row.subnet) c.firewall_at.ensures in
    subst (λ (n : Description). is_subnet n c.subnet_named.result ≡ true) c.network-n.ensures
    (subst (λ (s : SubnetNo). is_subnet d s ≡ true) (sym number) (firewall-subnet-lies d c.args.e c.description.ensures.accepted sound))

use Rattle.std.proofs.Common.{◌∙◌, ◌↔◌, IsTrue, List, ap, subst, sym, ℕ}
use Rattle.std.specs.List.{list_any}
use Rattle.vpc_base.specs.declared.headers.Dir.{Dir}
use Rattle.vpc_model.specs.Lookup.{group_at}
use Rattle.security_groups.specs.Naming.{further_of, over_transit}
use Rattle.security_groups.specs.Sharing.{AnyShares}
use Rattle.security_groups.proofs.NamingLemmas.{further-joined, outward-none}
use Rattle.security_groups.proofs.naming.over_further_transit.Goals as goal

pub returns-in-Inward : goal.returns-in-Inward
returns-in-Inward c = λ d v naming at_v within.
    let says = subst (λ (keys : List ℕ). IsTrue c.any_shares.result ↔ AnyShares c.args.named.now.vpcs.pairs c.args.group keys c.args.vpc) c.keys.ensures c.any_shares.ensures in
    further-joined d c.args.named.now c.args.group c.args.vpc v c.any_shares.result naming at_v within says
    ∙ ap (λ (x : Dir). list_any (over_transit x d v) (further_of d (group_at d (record { 0 = c.args.group })))) (sym c.in-Inward.is)

pub returns-in-Outward : goal.returns-in-Outward
returns-in-Outward c = λ d v naming at_v within.
    outward-none c.args.named.now c.args.vpc c.args.group d v naming at_v within
    ∙ ap (λ (x : Dir). list_any (over_transit x d v) (further_of d (group_at d (record { 0 = c.args.group })))) (sym c.in-Outward.is)

use Rattle.std.proofs.Common.{get_or}
use Rattle.std.proofs.lemmas.List.{get_or_default}
use Rattle.described_hosts.specs.Hosts.{numbered}
use Rattle.vpc_model.specs.declared.places.End.TheVariants as ends
use Rattle.end_reach.proofs.StartLemmas.{starts_more}
use Rattle.end_reach.specs.Asked.{is_start}
use Rattle.end_reach.proofs.starts.add_hosts.Goals as goal

pub loop-host-preserved : goal.loop-host-preserved
loop-host-preserved c =
    let hosts = c.args.hosts.now in
    let k = c.loop-host.host-index in
    let host = get_or hosts k (numbered 0) in
    starts_more ends.Interface (is_start c.args.n.now c.args.src c.args.goal) hosts k host c.loop-host-test.true c.args.starts.now.items c.loop-host.starts.items c.add_host.new.starts.items
    (get_or_default hosts k (numbered 0) host c.loop-host-test.true) c.loop-host.invariant c.in_ok-add_host.ensures

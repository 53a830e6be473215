use Rattle.std.proofs.Common.{◌≡◌, List, subst, sym, true}
use Rattle.std.specs.List.{All}
use Rattle.vpc_laws.specs.Types.{Description, EniNo}
use Rattle.vpc_model.specs.Sound.{is_eni}
use Rattle.described_hosts.specs.Hosts.{AreHostsById}
use Rattle.described_hosts.proofs.HostLemmas.{hosts_are_described}
use Rattle.reach_matrix.proofs.answer.MappingJob.answer_with.Goals as goal

pub put_rows-requires-clause-hosts : goal.put_rows-requires-clause-hosts
put_rows-requires-clause-hosts g c =
    let hosts = c.in_ok-hosts.hosts.items in
    subst (λ (hs : List EniNo). All (λ i. is_eni c.args.f.now i ≡ true) hs) (sym c.as_slice.ensures.value)
    (hosts_are_described c.args.f.now hosts (subst (λ (d : Description). AreHostsById d hosts) c.network.ensures c.in_ok-hosts.ensures))

use Rattle.made_reach.proofs.MadeLemmas.{pairs_and_one}
use Rattle.made_reach.proofs.makes.put_hosts.Goals as goal

pub loop-k-preserved : goal.loop-k-preserved
loop-k-preserved g c =
    pairs_and_one c.args.f.now c.loop-k.k c.args.out.now.items c.loop-k.out.items c.put_host.new.out.items c.loop-k.auto.k c.loop-k.invariant c.in_ok-put_host.ensures

use Rattle.std.proofs.Common.{List, get_or, subst}
use Rattle.std.proofs.lemmas.List.{get_or_default, take_all}
use Rattle.vpc_laws.specs.Types.{EniNo}
use Rattle.described_hosts.specs.Hosts.{numbered}
use Rattle.reach_matrix.specs.Matrix.{Adds, AreTexts, IsPairLine, pairs_from}
use Rattle.reach_matrix.proofs.LineLemmas.{adds_none, row_more}
use Rattle.reach_matrix.proofs.lines.put_row.Goals as goal

pub loop-to-init : goal.loop-to-init
loop-to-init g c = record { text = adds_none (IsPairLine c.args.f.now c.args.ports) c.args.out.now.items; network = c.requires.network }

pub loop-to-preserved : goal.loop-to-preserved
loop-to-preserved g c =
    let hosts = c.args.hosts.now in
    let k = c.loop-to.to-index in
    let to = get_or hosts k (numbered 0) in
    record {
      text = row_more (IsPairLine c.args.f.now c.args.ports) hosts c.args.from k to c.args.out.now.items c.loop-to.out.items c.put_pair.new.out.items
          c.loop-to-test.true (get_or_default hosts k (numbered 0) to c.loop-to-test.true) c.loop-to.invariant.text c.in_ok-put_pair.ensures.text;
      network = c.in_ok-put_pair.ensures.network;
    }

pub returns-clause-text : goal.returns-clause-text
returns-clause-text g c =
    subst (λ (hs : List EniNo). Adds (AreTexts (IsPairLine c.args.f.now c.args.ports) (pairs_from hs c.args.from)) c.args.out.now.items c.loop-to.out.items)
    (take_all c.loop-to.to-index c.args.hosts.now c.loop-to-test.false) c.loop-to.invariant.text

use Rattle.std.proofs.Common.{List, get_or, subst}
use Rattle.std.specs.List.{flat_map}
use Rattle.std.proofs.lemmas.List.{get_or_default, take_all}
use Rattle.vpc_laws.specs.Types.{EniNo}
use Rattle.described_hosts.specs.Hosts.{numbered}
use Rattle.reach_matrix.specs.Matrix.{Adds, AreTexts, IsPairLine, pairs_from}
use Rattle.reach_matrix.proofs.LineLemmas.{adds_none, rows_more}
use Rattle.reach_matrix.proofs.lines.put_rows.Goals as goal

pub loop-from-init : goal.loop-from-init
loop-from-init g c = record { text = adds_none (IsPairLine c.args.f.now c.args.ports) c.args.out.now.items; network = c.requires.network }

pub loop-from-preserved : goal.loop-from-preserved
loop-from-preserved g c =
    let hosts = c.args.hosts.now in
    let k = c.loop-from.from-index in
    let from = get_or hosts k (numbered 0) in
    record {
      text = rows_more (IsPairLine c.args.f.now c.args.ports) hosts k from c.args.out.now.items c.loop-from.out.items c.put_row.new.out.items
          c.loop-from-test.true (get_or_default hosts k (numbered 0) from c.loop-from-test.true) c.loop-from.invariant.text c.in_ok-put_row.ensures.text;
      network = c.in_ok-put_row.ensures.network;
    }

pub returns-clause-text : goal.returns-clause-text
returns-clause-text g c =
    subst (λ (hs : List EniNo). Adds (AreTexts (IsPairLine c.args.f.now c.args.ports) (flat_map (pairs_from c.args.hosts.now) hs)) c.args.out.now.items c.loop-from.out.items)
    (take_all c.loop-from.from-index c.args.hosts.now c.loop-from-test.false) c.loop-from.invariant.text

use Rattle.std.proofs.Common.{◌≡◌, rules, true}
use Rattle.reach_matrix.proofs.LineLemmas.{told_added}
use Rattle.reach_matrix.specs.Pairs.{have_addresses}
use Rattle.reach_matrix.proofs.lines.put_told.Goals as goal

pub returns-clause-text : goal.returns-clause-text
returns-clause-text g c =
    let have : have_addresses c.args.f.now (c.args.from, c.args.to) ≡ true = search rules in
    told_added c.args.f.now c.args.ports (c.args.from, c.args.to) c.put_ranges.result c.args.out.now.items c.put_ranges.new.out.items c.in_ok-ranges.ranges.items c.as_slice.result.now
    have c.in_ok-ranges.ensures.ranges c.as_slice.ensures.value c.put_ranges.ensures

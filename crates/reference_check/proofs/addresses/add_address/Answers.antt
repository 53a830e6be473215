use Rattle.std.proofs.Common.{◌*◌, ◌+◌, ◌<◌, ◌^◌, ap, arith, ℕ}
use Rattle.reference_check.proofs.Keyed.{keys-added, keys-fresh}
use Rattle.reference_check.proofs.addresses.add_address.Goals as goal

pub returns-clause-fresh : goal.returns-clause-fresh
returns-clause-fresh c =
    let small : c.args.address < 2 ^ 32 = omega arith in
    keys-fresh c.args.d.now (c.args.vpc.now, c.args.address) _ c.args.keys.now c.add.result c.requires.described small (ap (λ (n : ℕ). n * 4294967296 + c.args.address) c.requires.numbered) c.add.ensures.fresh

pub returns-clause-added : goal.returns-clause-added
returns-clause-added c =
    let small : c.args.address < 2 ^ 32 = omega arith in
    keys-added c.args.d.now (c.args.vpc.now, c.args.address) _ c.args.keys.now c.add.new.self c.add.result c.requires.described small (ap (λ (n : ℕ). n * 4294967296 + c.args.address) c.requires.numbered) c.add.ensures.added

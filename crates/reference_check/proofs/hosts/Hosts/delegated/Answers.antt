use Rattle.std.proofs.Common.{arith, subst, sym}
use Rattle.number_tables.specs.Keys.{key_of}
use Rattle.number_tables.specs.Runs.{IsStretch}
use Rattle.reference_check.specs.Delegated.{IsDelegatedUpTo}
use Rattle.reference_check.specs.Hosts.{last_in}
use Rattle.reference_check.proofs.Stretching.{delegated-up-to, stretch-counted}
use Rattle.reference_check.proofs.hosts.Hosts.delegated.Goals as goal

pub last_in-last-requires : goal.last_in-last-requires
last_in-last-requires c =
    let from = c.stretch-stretch.ensures.from in
    omega (arith, c.key_of.ensures, c.key_of-2.ensures)

pub numbered-requires : goal.numbered-requires
numbered-requires c =
    let runs = c.args.self.now.blocks in
    let stretch : IsStretch runs (key_of c.args.v.0 c.args.address) c.stretch-stretch.result = subst (λ k. IsStretch runs k c.stretch-stretch.result) c.key_of.ensures c.stretch-stretch.ensures in
    stretch-counted c.args.d.now c.args.v c.args.address runs c.stretch-stretch.result c.requires.hosts.blocks c.requires.differ c.requires.within (omega arith) c.requires.counted stretch

pub returns : goal.returns
returns c =
    let d = c.args.d.now in
    let runs = c.args.self.now.blocks in
    let x = c.stretch-stretch.result in
    let stretch : IsStretch runs (key_of c.args.v.0 c.args.address) x = subst (λ k. IsStretch runs k x) c.key_of.ensures c.stretch-stretch.ensures in
    let told = delegated-up-to d c.args.v c.args.address runs x c.requires.hosts.blocks c.requires.differ c.requires.within (omega arith) (omega arith) stretch in
    subst (λ n. IsDelegatedUpTo d c.args.v c.args.address (n, c.numbered.result)) (sym c.last_in-last.ensures)
    (subst (λ k. IsDelegatedUpTo d c.args.v c.args.address (last_in k x.0, c.numbered.result)) (sym c.key_of-2.ensures)
    (subst (λ o. IsDelegatedUpTo d c.args.v c.args.address (last_in (key_of c.args.v.0 0) x.0, o)) (sym c.numbered.ensures) told))

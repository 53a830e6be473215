use Rattle.std.proofs.Common.{◌-◌, ◌∙◌, ℕ, None, Option, Some, ap, arith, subst}
use Rattle.number_tables.specs.Keys.{key_of}
use Rattle.reference_check.specs.Claimed.{IsLeast}
use Rattle.reference_check.specs.Taken.{IsTaken}
use Rattle.reference_check.proofs.Adding.{key-least, least-free}
use Rattle.reference_check.proofs.clashes.least_in.Goals as goal

pub returns-in-Some-clause-shared : goal.returns-in-Some-clause-shared
returns-in-Some-clause-shared c = λ claims are.
    let run = c.args.run in
    let P = IsTaken c.args.taken.now in
    let o : Option ℕ = Some c.in-Some.key in
    let least : IsLeast P (key_of c.args.v run.first) (key_of c.args.v run.last) o =
    subst (λ n. IsLeast P n (key_of c.args.v run.last) o) c.key_of.ensures (subst (λ n. IsLeast P c.key_of.result n o) c.key_of-2.ensures c.in-Some.ensures) in
    ap (λ (n : ℕ). Some (c.in-Some.key - n)) c.key_of-in-Some.ensures
    ∙ key-least c.args.d.now claims c.args.taken.now c.args.v c.args.vpc.now run o c.requires.numbered c.requires.described c.requires.some (omega arith) least are

pub returns-in-None-clause-shared : goal.returns-in-None-clause-shared
returns-in-None-clause-shared c = λ claims are.
    let run = c.args.run in
    let P = IsTaken c.args.taken.now in
    let o : Option ℕ = None in
    let least : IsLeast P (key_of c.args.v run.first) (key_of c.args.v run.last) o =
    subst (λ n. IsLeast P n (key_of c.args.v run.last) o) c.key_of.ensures (subst (λ n. IsLeast P c.key_of.result n o) c.key_of-2.ensures c.in-None.ensures) in
    key-least c.args.d.now claims c.args.taken.now c.args.v c.args.vpc.now run o c.requires.numbered c.requires.described c.requires.some (omega arith) least are

pub returns-in-None-clause-free : goal.returns-in-None-clause-free
returns-in-None-clause-free c =
    let run = c.args.run in
    let P = IsTaken c.args.taken.now in
    let o : Option ℕ = None in
    let least : IsLeast P (key_of c.args.v run.first) (key_of c.args.v run.last) o =
    subst (λ n. IsLeast P n (key_of c.args.v run.last) o) c.key_of.ensures (subst (λ n. IsLeast P c.key_of.result n o) c.key_of-2.ensures c.in-None.ensures) in
    least-free c.args.taken.now c.args.v run least

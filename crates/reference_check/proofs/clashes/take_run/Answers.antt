use Rattle.std.proofs.Common.{◌++◌, ◌∷◌, [], arith, subst}
use Rattle.vpc_base.proofs.Results.{if_ok}
use Rattle.number_tables.specs.Keys.{key_of}
use Rattle.reference_check.specs.Claimed.{claim_of}
use Rattle.reference_check.specs.Taken.{AreTaken, Takes}
use Rattle.reference_check.proofs.Adding.{free-keys, taken-more}
use Rattle.reference_check.proofs.clashes.take_run.Goals as goal

pub take-requires-clause-free : goal.take-requires-clause-free
take-requires-clause-free c = λ k from to taken.
    free-keys c.args.taken.now c.args.v c.args.run c.requires.free k (omega (arith, c.key_of.ensures)) (omega (arith, c.key_of-2.ensures)) taken

pub returns-clause-added : goal.returns-clause-added
returns-clause-added c = λ claims are.
    let run = c.args.run in
    if_ok (λ u. Takes c.args.taken.now c.key_of.result c.key_of-2.result c.take.new.self) (λ u. AreTaken c.args.d.now (claims ++ claim_of c.args.vpc.now run ∷ []) c.take.new.self) c.take.result
    (λ u takes.
    taken-more c.args.d.now claims c.args.taken.now c.take.new.self c.args.v c.args.vpc.now run c.requires.numbered c.requires.described c.requires.some (omega arith)
    (subst (λ n. Takes c.args.taken.now n (key_of c.args.v run.last) c.take.new.self) c.key_of.ensures
    (subst (λ n. Takes c.args.taken.now c.key_of.result n c.take.new.self) c.key_of-2.ensures takes)) are)
    c.take.ensures

pub returns-clause-taken : goal.returns-clause-taken
returns-clause-taken c =
    let run = c.args.run in
    if_ok (λ u. Takes c.args.taken.now c.key_of.result c.key_of-2.result c.take.new.self) (λ u. Takes c.args.taken.now (key_of c.args.v run.first) (key_of c.args.v run.last) c.take.new.self) c.take.result
    (λ u takes.
    subst (λ n. Takes c.args.taken.now n (key_of c.args.v run.last) c.take.new.self) c.key_of.ensures
    (subst (λ n. Takes c.args.taken.now c.key_of.result n c.take.new.self) c.key_of-2.ensures takes))
    c.take.ensures

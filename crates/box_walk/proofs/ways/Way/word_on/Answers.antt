use Rattle.std.proofs.Common.{subst}
use Rattle.std.specs.Prelude.{IfSome}
use Rattle.box_walk.specs.Asking.{AnswersWord, Asking}
use Rattle.box_walk.proofs.ways.Way.word_on.Goals as goal

pub returns : goal.returns
returns g c =
    subst (λ (a : Asking). IfSome c.word_by.result (λ told. AnswersWord a c.args.sides.now (record { body = c.word_by.new.m.header.part; told = told }))) c.self.view_is c.word_by.ensures

use Rattle.std.proofs.Common.{subst}
use Rattle.box_walk.specs.Asking.{AnswersWord, Asking}
use Rattle.box_walk.proofs.probe.RoundProbe.follow.Goals as goal

pub returns-in-Some : goal.returns-in-Some
returns-in-Some g c =
    subst (λ (a : Asking). AnswersWord a c.args.sides.now (record { body = c.word_on.new.m.header.part; told = c.in-Some.told })) c.args.self.now.same_way c.in-Some.ensures

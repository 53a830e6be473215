use Rattle.std.proofs.Common.{subst}
use Rattle.box_walk.specs.Asking.{AnswersWord, AreNear, Asking, asked_by, homes_by, word_of}
use Rattle.box_walk.proofs.WayBack.{answers_whether}
use Rattle.box_walk.proofs.probe.RoundProbe.ask.Goals as goal

pub returns-in-Some : goal.returns-in-Some
returns-in-Some g c =
    let a = asked_by c.args.self.now.fabric.now (homes_by c.args.self.now.links.now c.args.self.now.start) c.args.self.now.goal in
    answers_whether (AreNear a c.args.sides.now) (word_of a) c.args.sides.now (record { body = c.word_on.new.m.header.part; told = c.in-Some.word }) c.whether-told.result c.whether-told.ensures
    (subst (λ (b : Asking). AnswersWord b c.args.sides.now (record { body = c.word_on.new.m.header.part; told = c.in-Some.word })) c.args.self.now.same_way c.in-Some.ensures)

use Rattle.std.proofs.Common.{subst}
use Rattle.reference_check.specs.Taken.{IsTaken, Takes}
use Rattle.reference_check.proofs.Taking.{apart-added, takes-added}
use Rattle.reference_check.proofs.taken.Taken.take.Goals as goal

pub invariant_of-self-2 : goal.invariant_of-self-2
invariant_of-self-2 c =
    apart-added c.self.inside.runs.entries c.args.first c.args.last c.insert.new.self.entries c.self.invariant c.requires.some
    (λ k from to taken. c.requires.free k from to (subst (λ rs. IsTaken rs k) c.self.view_is taken)) c.in_ok-insert.ensures.updates.0

pub returns : goal.returns
returns c =
    subst (λ rs. Takes rs c.args.first c.args.last c.insert.new.self.entries) c.self.view_is
    (takes-added c.self.inside.runs.entries c.args.first c.args.last c.insert.new.self.entries c.self.invariant c.requires.some
    (λ k from to taken. c.requires.free k from to (subst (λ rs. IsTaken rs k) c.self.view_is taken)) c.in_ok-insert.ensures.updates.0)

use Rattle.security_groups.proofs.ToldLemmas.{told-all}
use Rattle.security_groups.proofs.attached.Attached.remember.Goals as goal

pub invariant_of-self : goal.invariant_of-self
invariant_of-self c = told-all c.self.inside.keys c.in_ok-told.told.items c.in_ok-self-inside.field-0 c.in_ok-told.ensures c.in_ok-self-inside.ensures

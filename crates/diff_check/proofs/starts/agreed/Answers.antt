use Rattle.diff_check.proofs.starts.agreed.Goals as goal

pub same_text-requires : goal.same_text-requires
same_text-requires c = c.requires c.in-Some-Some.change c.in-Some-Some.is-1

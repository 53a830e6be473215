use Rattle.std.proofs.Common.{◌≡◌, ◌∙◌, List, [], ap, subst}
use Rattle.vpc_model.specs.Accepted.{first_cause, refusals_of}
use Rattle.vpc_model.specs.declared.refusals.Refusal.{Refusal}
use Rattle.reference_check.specs.Told.{IsTold}
use Rattle.made_network.proofs.Accepting.{made_is_accepted}
use Rattle.made_network.proofs.network.made_network.Goals as goal

pub no_memory-requires : goal.no_memory-requires
no_memory-requires c =
    let none : refusals_of c.in_ok-description.field-0 ≡ [] = ap refusals_of c.in_ok-description.ensures ∙ made_is_accepted c.args.n c.requires.some c.requires.most in
    subst (λ (causes : List Refusal). IsTold (first_cause causes) c.in-Err.cause) none c.in-Err.ensures.told

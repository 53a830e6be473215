use Rattle.policy_check.proofs.Decided.{policies_are_decided, policies_are_of_no_device}
use Rattle.policy_check.proofs.laws.policy_laws.Goals as goal

pub returns : goal.returns
returns c = record { decided = policies_are_decided; no_device = policies_are_of_no_device }

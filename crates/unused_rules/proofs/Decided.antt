-- What an answer to `unused` decides, and that it tells of no device.
use Rattle.std.proofs.Common.{◌≡◌, ◌∙◌, Err, List, Ok, length, sym, ℕ}
use Rattle.vpc_base.proofs.Numbers.{few-or-many}
use Rattle.command_job.proofs.Devices.{no_device, query_is_none, yes_is_none}
use Rattle.command_job.specs.Status.{IsOfDevice}
use Rattle.command_job.specs.declared.status.Status.{Status}
use Rattle.command_job.specs.declared.status.Status.TheVariants as ends
use Rattle.vpc_laws.specs.Types.{Description}
use Rattle.unused_rules.specs.Answered as unused
use Rattle.unused_rules.specs.Answered.{IsUnusedAnswered, IsUnusedDecided, rule_limit}
use Rattle.unused_rules.specs.Rules.{rules_of}

-- where the words are right and the rules few enough, it ends well
pub unused_is_decided : (d : Description) (words : List (List ℕ)) (status : Status) (text : List ℕ) → IsUnusedAnswered d words status text → IsUnusedDecided d words status
unused_is_decided d words status text (unused.refused refusal is status_is text_is) =
    record { yes = λ query right few. let same : Err refusal ≡ Ok query = sym is ∙ right in absurd cc }
unused_is_decided d words status text (unused.answered query is (unused.too_many many status_is text_is)) =
    record { yes = λ other right few. absurd (few-or-many (length (rules_of d)) rule_limit many few) }
unused_is_decided d words status text (unused.answered query is (unused.told few judged)) = record { yes = λ other right fewer. judged.status_is }

-- no answer tells of a device
pub unused_tells_of_no_device : (d : Description) (words : List (List ℕ)) (status : Status) (text : List ℕ) → IsUnusedAnswered d words status text → IsOfDevice status → ⊥
unused_tells_of_no_device d words status text (unused.refused refusal is status_is text_is) = no_device status ends.Query status_is query_is_none
unused_tells_of_no_device d words status text (unused.answered query is (unused.too_many many status_is text_is)) = no_device status ends.Query status_is query_is_none
unused_tells_of_no_device d words status text (unused.answered query is (unused.told few judged)) = no_device status ends.Yes judged.status_is yes_is_none

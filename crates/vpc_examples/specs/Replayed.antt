-- Lists of packets, each of which meets what the ones before it left.
use Rattle.std.specs.Prelude.{◌∷◌, ◌≡◌, [], ℕ}
use Rattle.vpc_laws.specs.Types.{Description, Event, Header, Outcome}
use Rattle.vpc_model.specs.declared.places.End.TheVariants as ends
use Rattle.vpc_base.specs.declared.headers.Label.TheVariants as labels
use Rattle.vpc_model.specs.declared.outcomes.Outcome.TheVariants as outcomes
use Rattle.vpc_model.specs.declared.stops.Stop.TheVariants as stops
use Rattle.vpc_examples.specs.Examples.{a_to_server, b_to_server, eni, from_server, nat, tcp}
use Rattle.vpc_examples.specs.Networks.{behind_nat, open_rows, v4}
use Rattle.vpc_model.specs.Appliances.{appliances_of}
use Rattle.vpc_model.specs.Replay.{replay_of}

abbrev pub open_from : ℕ → Header → Event
open_from i h = record { label = labels.Opening; start = ends.Interface (eni i); header = h }

abbrev pub answer_from_server : ℕ → Event
answer_from_server port = record { label = labels.Answer; start = ends.Internet; header = from_server port }

-- two hosts send from port 5000 to one server, whose answers come to both ports and to a third one
abbrev pub ReplaysInOrder : Type 0
ReplaysInOrder =
    let d : Description = behind_nat open_rows in
    replay_of d (appliances_of d) (open_from 0 (a_to_server 5000) ∷ open_from 1 (b_to_server 5000) ∷ answer_from_server 5001 ∷ answer_from_server 5000 ∷ answer_from_server 5002 ∷ [])
    ≡ outcomes.Arrived ends.Internet (record (a_to_server 5000) { src = v4 203 0 113 5 })
    ∷ outcomes.Arrived ends.Internet (record (a_to_server 5001) { src = v4 203 0 113 5 })
    ∷ outcomes.Arrived (ends.Interface (eni 1)) (tcp (v4 198 51 100 7) (v4 10 0 2 20) 443 5000)
    ∷ outcomes.Arrived (ends.Interface (eni 0)) (tcp (v4 198 51 100 7) (v4 10 0 1 10) 443 5000)
    ∷ outcomes.Stopped (stops.NatUnsolicited (nat 0))
    ∷ []

-- an answer before its open belongs to nothing, and the same open once more gets its port again
abbrev pub ReplayForgetsNothing : Type 0
ReplayForgetsNothing =
    let d : Description = behind_nat open_rows in
    let sent : Outcome = outcomes.Arrived ends.Internet (record (a_to_server 5000) { src = v4 203 0 113 5 }) in
    replay_of d (appliances_of d) (answer_from_server 5000 ∷ open_from 0 (a_to_server 5000) ∷ open_from 0 (a_to_server 5000) ∷ [])
    ≡ outcomes.Stopped (stops.NatUnsolicited (nat 0)) ∷ sent ∷ sent ∷ []

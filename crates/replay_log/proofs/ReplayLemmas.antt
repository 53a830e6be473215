-- The lines of events' packets.
use Rattle.std.proofs.Common.{◌≡◌, ◌∙◌, Err, IfOk, List, Ok, Result, ap}
use Rattle.block_report.specs.Replays.{replay_text}
use Rattle.vpc_laws.specs.Types.{Description, Event, Outcome}
use Rattle.vpc_model.specs.Appliances.{Appliances, appliances_of}
use Rattle.vpc_model.specs.Replay.{replay_of}
use Rattle.replay_log.specs.Replayed.{ArePlayed, replayed_text}
use Rattle.command_job.specs.declared.status.Status.TheVariants as ends
use Rattle.command_job.specs.declared.status.Answer.{Answer}

replay_text-outcomes : (d n : Description) (events : List Event) (appliances : Appliances) (outcomes printed : List Outcome)
    → n ≡ d → appliances ≡ appliances_of d → outcomes ≡ replay_of d appliances events → printed ≡ outcomes
    → replay_text n printed ≡ replayed_text d events
replay_text-outcomes d n events appliances outcomes printed same with ends shown =
    ap (λ (x : Description). replay_text x printed) same
    ∙ (ap (replay_text d) (shown ∙ ends)
    ∙ ap (λ (x : Appliances). replay_text d (replay_of d x events)) with)

-- what is answered to outcomes with the described appliances
pub answers_events : {E : Type 0} (r : Result Answer E) (d n : Description) (events : List Event) (appliances : Appliances) (outcomes printed : List Outcome)
    → n ≡ d → appliances ≡ appliances_of d → outcomes ≡ replay_of d appliances events → printed ≡ outcomes
    → IfOk r (λ a. a.status ≡ ends.Yes) → IfOk r (λ a. a.text.items ≡ replay_text n printed) → IfOk r (λ a. ArePlayed d events a.status a.text.items)
answers_events (Ok a) d n events appliances outcomes printed same with ends_so shown status_is says =
    record { status_is = status_is; text_is = says ∙ replay_text-outcomes d n events appliances outcomes printed same with ends_so shown }
answers_events (Err e) d n events appliances outcomes printed same with ends_so shown status_is says = tt

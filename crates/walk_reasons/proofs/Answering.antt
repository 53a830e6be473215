-- What is answered to the packet of a walk.
use Rattle.std.proofs.Common.{◌≡◌, ◌∙◌, Err, IfOk, List, Ok, Result, ap}
use Rattle.vpc_laws.specs.Types.{Description, Event, Hop, Outcome}
use Rattle.command_job.specs.declared.status.Answer.{Answer}
use Rattle.packet_trace.specs.Traced.{status_of, walk_of_event}
use Rattle.walk_reasons.specs.Explained.{IsExplained}
use Rattle.walk_reasons.specs.Reasons.{reasons_text}

pub answers_event : {E : Type 0} (r : Result Answer E) (d : Description) (e : Event) (hops : List Hop) (outcome : Outcome)
    → (let walk = walk_of_event d e in hops ≡ walk.hops) → (let walk = walk_of_event d e in outcome ≡ walk.outcome)
    → IfOk r (λ a. a.status ≡ status_of outcome) → IfOk r (λ a. a.text.items ≡ reasons_text d e.header hops outcome) → IfOk r (λ a. IsExplained d e a.status a.text.items)
answers_event (Ok a) d e hops outcome are ends status_is text_is =
    let walk = walk_of_event d e in record {
      status_is = status_is ∙ ap status_of ends;
      text_is = text_is ∙ (ap (λ (l : List Hop). reasons_text d e.header l outcome) are ∙ ap (λ (o : Outcome). reasons_text d e.header walk.hops o) ends);
    }
answers_event (Err x) d e hops outcome are ends status_is text_is = tt

-- What `why` answers in a described network.
use Rattle.std.specs.Prelude.{◌≡◌, Err, List, Ok, ℕ}
use Rattle.query_words.specs.Packet.{packet_of}
use Rattle.query_words.specs.declared.refusal.QueryRefusal.{QueryRefusal}
use Rattle.vpc_laws.specs.Types.{Description, Event}
use Rattle.command_job.specs.declared.status.Status.{Status}
use Rattle.command_job.specs.declared.status.Status.TheVariants as ends
use Rattle.packet_trace.specs.Traced.{packet_refusal_line, traced_status, walk_of_event}
use Rattle.walk_reasons.specs.Reasons.{reasons_text}

-- the walk of a packet with what decided
abbrev pub explained_text : Description → Event → List ℕ
explained_text d e = let walk = walk_of_event d e in reasons_text d e.header walk.hops walk.outcome

-- what is answered to a packet
pub record IsExplained (d : Description) (e : Event) (status : Status) (text : List ℕ) : Type 0 where
  pub status_is : status ≡ traced_status d e
  pub text_is : text ≡ explained_text d e

-- what `why` answers to its words: as `trace` does, why they give no packet, or the walk of the packet, with what decided
pub data IsWhyAnswered (d : Description) (words : List (List ℕ)) (status : Status) (text : List ℕ) : Type 0 where
  refused : (refusal : QueryRefusal) → packet_of d words ≡ Err refusal → status ≡ ends.Query → text ≡ packet_refusal_line refusal → IsWhyAnswered d words status text
  explained : (e : Event) → packet_of d words ≡ Ok e → IsExplained d e status text → IsWhyAnswered d words status text

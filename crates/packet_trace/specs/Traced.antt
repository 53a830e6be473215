-- What `trace` answers in a described network.
use Rattle.std.specs.Prelude.{ℕ, ◌++◌, ◌≡◌, List, [], Err, Ok, codes}
use Rattle.block_report.specs.Queries.{query_refusal_text}
use Rattle.block_report.specs.Walks.{walk_text}
use Rattle.block_report.specs.Words.{word}
use Rattle.query_words.specs.Packet.{packet_of}
use Rattle.query_words.specs.declared.refusal.QueryRefusal.{QueryRefusal}
use Rattle.vpc_model.specs.Appliances.{appliances_of}
use Rattle.vpc_model.specs.Place.{start_of}
use Rattle.vpc_model.specs.Walk.{Walk, walk_of}
use Rattle.vpc_model.specs.declared.outcomes.Event.{Event}
use Rattle.vpc_model.specs.declared.outcomes.Outcome.{Outcome}
use Rattle.vpc_model.specs.declared.outcomes.Outcome.TheVariants as outcome
use Rattle.vpc_model.specs.declared.rows.Description.{Description}
use Rattle.command_job.specs.Lines.{line}
use Rattle.command_job.specs.declared.status.Status.{Status}
use Rattle.command_job.specs.declared.status.Status.TheVariants as ends

-- the line of a refusal of the packet's words
abbrev pub packet_refusal_line : QueryRefusal → List ℕ
packet_refusal_line refusal = line (codes "refused packet" ++ word (query_refusal_text refusal))

-- the walk of a packet with the described appliances, and nothing remembered before it
abbrev pub walk_of_event : Description → Event → Walk
walk_of_event d e = walk_of d (appliances_of d) e.label (record { place = start_of e.start; header = e.header; conns = []; nats = [] })

-- how a walk's command ends
abbrev pub status_of : Outcome → Status
status_of (outcome.Arrived end h) = ends.Yes
status_of (outcome.Stopped s) = ends.No

abbrev pub traced_status : Description → Event → Status
traced_status d e = let walk = walk_of_event d e in status_of walk.outcome

abbrev pub traced_text : Description → Event → List ℕ
traced_text d e = let walk = walk_of_event d e in walk_text d walk.hops walk.outcome

-- what is answered to a packet
pub record IsWalked (d : Description) (e : Event) (status : Status) (text : List ℕ) : Type 0 where
  pub status_is : status ≡ traced_status d e
  pub text_is : text ≡ traced_text d e

-- what `trace` answers to its words: why they give no packet, or the walk of the packet
pub data IsTraced (d : Description) (words : List (List ℕ)) (status : Status) (text : List ℕ) : Type 0 where
  refused : (refusal : QueryRefusal) → packet_of d words ≡ Err refusal → status ≡ ends.Query → text ≡ packet_refusal_line refusal → IsTraced d words status text
  walked : (e : Event) → packet_of d words ≡ Ok e → IsWalked d e status text → IsTraced d words status text

-- `trace` ends as the walk of its packet does
abbrev pub IsTraceDecided : Description → List (List ℕ) → Status → Type 0
IsTraceDecided d words status = (e : Event) → packet_of d words ≡ Ok e → status ≡ traced_status d e

-- What `trace` answers is decided by its packet, and tells of no device.
use Rattle.std.proofs.Common.{◌≡◌, ◌∙◌, Err, List, Ok, ap, sym, ℕ}
use Rattle.query_words.specs.Packet.{packet_of}
use Rattle.vpc_laws.specs.Types.{Description, Event, Outcome}
use Rattle.vpc_model.specs.declared.outcomes.Outcome.TheVariants as outcome
use Rattle.command_job.specs.Status.{IsOfDevice}
use Rattle.command_job.specs.declared.status.Status.{Status}
use Rattle.command_job.specs.declared.status.Status.TheVariants as ends
use Rattle.command_job.proofs.Devices.{no_device, no_is_none, query_is_none, yes_is_none}
use Rattle.packet_trace.specs.Traced.{IsTraceDecided, IsTraced, status_of, traced_status}
use Rattle.packet_trace.specs.Traced as traces

pub same_event : (d : Description) (words : List (List ℕ)) (e f : Event) → packet_of d words ≡ Ok e → packet_of d words ≡ Ok f → e ≡ f
same_event d words e f a b = let same : Ok e ≡ Ok f = sym a ∙ b in cc

pub trace_is_decided : (d : Description) (words : List (List ℕ)) (status : Status) (text : List ℕ) → IsTraced d words status text → IsTraceDecided d words status
trace_is_decided d words status text (traces.refused refusal is status_is text_is) e packet = let same : Err refusal ≡ Ok e = sym is ∙ packet in cc
trace_is_decided d words status text (traces.walked f is walked) e packet = walked.status_is ∙ ap (traced_status d) (same_event d words f e is packet)

walk_is_none : (o : Outcome) → IsOfDevice (status_of o) → ⊥
walk_is_none (outcome.Arrived end h) is = yes_is_none is
walk_is_none (outcome.Stopped s) is = no_is_none is

pub event_is_none : (d : Description) (e : Event) (status : Status) → status ≡ traced_status d e → IsOfDevice status → ⊥
event_is_none d e status is h = no_device status (traced_status d e) is (walk_is_none (let walk = traces.walk_of_event d e in walk.outcome)) h

pub trace_is_none : (d : Description) (words : List (List ℕ)) (status : Status) (text : List ℕ) → IsTraced d words status text → IsOfDevice status → ⊥
trace_is_none d words status text (traces.refused refusal is status_is text_is) h = no_device status ends.Query status_is query_is_none h
trace_is_none d words status text (traces.walked e is walked) h = event_is_none d e status walked.status_is h

-- What `why` answers is decided by its packet, and tells of no device.
use Rattle.std.proofs.Common.{◌≡◌, ◌∙◌, Err, List, Ok, ap, sym, ℕ}
use Rattle.vpc_laws.specs.Types.{Description}
use Rattle.command_job.specs.Status.{IsOfDevice}
use Rattle.command_job.specs.declared.status.Status.{Status}
use Rattle.command_job.proofs.Devices.{no_device, query_is_none}
use Rattle.command_job.specs.declared.status.Status.TheVariants as ends
use Rattle.packet_trace.proofs.Decided.{event_is_none, same_event}
use Rattle.packet_trace.specs.Traced.{IsTraceDecided, traced_status}
use Rattle.walk_reasons.specs.Explained.{IsWhyAnswered}
use Rattle.walk_reasons.specs.Explained as answers

pub why_is_decided : (d : Description) (words : List (List ℕ)) (status : Status) (text : List ℕ) → IsWhyAnswered d words status text → IsTraceDecided d words status
why_is_decided d words status text (answers.refused refusal is status_is text_is) e packet = let same : Err refusal ≡ Ok e = sym is ∙ packet in cc
why_is_decided d words status text (answers.explained f is explained) e packet = explained.status_is ∙ ap (traced_status d) (same_event d words f e is packet)

pub why_is_none : (d : Description) (words : List (List ℕ)) (status : Status) (text : List ℕ) → IsWhyAnswered d words status text → IsOfDevice status → ⊥
why_is_none d words status text (answers.refused refusal is status_is text_is) h = no_device status ends.Query status_is query_is_none h
why_is_none d words status text (answers.explained e is explained) h = event_is_none d e status explained.status_is h

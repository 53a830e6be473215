-- What `replay` answers in a described network.
use Rattle.std.specs.Prelude.{ℕ, ◌≡◌, List, Err, Ok, codes, decimal}
use Rattle.block_report.specs.Replays.{replay_text}
use Rattle.query_words.specs.Events.{events_of}
use Rattle.vpc_model.specs.Appliances.{appliances_of}
use Rattle.vpc_model.specs.Replay.{replay_of}
use Rattle.vpc_model.specs.declared.outcomes.Event.{Event}
use Rattle.vpc_model.specs.declared.rows.Description.{Description}
use Rattle.command_job.specs.Lines.{file_refusal_line}
use Rattle.command_job.specs.declared.status.Status.{Status}
use Rattle.command_job.specs.declared.status.Status.TheVariants as ends

-- the line of a refusal of the events
abbrev pub events_refusal_line : List ℕ → List ℕ
events_refusal_line cause = file_refusal_line (codes "events") cause

-- the lines of the events' packets, with the described appliances
abbrev pub replayed_text : Description → List Event → List ℕ
replayed_text d events = replay_text d (replay_of d (appliances_of d) events)

-- what is answered to packets that come one after another
pub record ArePlayed (d : Description) (events : List Event) (status : Status) (text : List ℕ) : Type 0 where
  pub status_is : status ≡ ends.Yes
  pub text_is : text ≡ replayed_text d events

-- what is answered to the bytes of the events: the first line that is no packet, or how each packet ends
pub data IsReplayedFrom (d : Description) (bytes : List ℕ) (status : Status) (text : List ℕ) : Type 0 where
  bad_line : (number : ℕ) → events_of d bytes ≡ Err number → status ≡ ends.Query → text ≡ events_refusal_line (decimal number) → IsReplayedFrom d bytes status text
  replayed : (events : List Event) → events_of d bytes ≡ Ok events → ArePlayed d events status text → IsReplayedFrom d bytes status text

-- each list of events is answered
abbrev pub IsReplayDecided : Description → List ℕ → Status → Type 0
IsReplayDecided d bytes status = (events : List Event) → events_of d bytes ≡ Ok events → status ≡ ends.Yes

-- What `replay` answers is decided by the events, and tells of no device.
use Rattle.std.proofs.Common.{◌≡◌, ◌∙◌, Err, List, Ok, sym, ℕ}
use Rattle.vpc_laws.specs.Types.{Description}
use Rattle.command_job.specs.Status.{IsOfDevice}
use Rattle.command_job.specs.declared.status.Status.{Status}
use Rattle.command_job.specs.declared.status.Status.TheVariants as ends
use Rattle.command_job.proofs.Devices.{no_device, query_is_none, yes_is_none}
use Rattle.replay_log.specs.Replayed.{IsReplayDecided, IsReplayedFrom}
use Rattle.replay_log.specs.Replayed as replays

pub replay_is_decided : (d : Description) (bytes : List ℕ) (status : Status) (text : List ℕ) → IsReplayedFrom d bytes status text → IsReplayDecided d bytes status
replay_is_decided d bytes status text (replays.bad_line number bad status_is says) events good = let wrong : Err number ≡ Ok events = sym bad ∙ good in cc
replay_is_decided d bytes status text (replays.replayed found is played) events good = played.status_is

pub replay_is_none : (d : Description) (bytes : List ℕ) (status : Status) (text : List ℕ) → IsReplayedFrom d bytes status text → IsOfDevice status → ⊥
replay_is_none d bytes status text (replays.bad_line number is status_is says) h = no_device status ends.Query status_is query_is_none h
replay_is_none d bytes status text (replays.replayed events is played) h = no_device status ends.Yes played.status_is yes_is_none h

-- What a matrix tells of a port, beside what `ask` answers about it.
use Rattle.std.specs.Prelude.{◌↔◌, ◌<◌, ◌≡◌, ◌≤◌, List, true, ℕ}
use Rattle.command_job.specs.declared.status.Status.{Status}
use Rattle.command_job.specs.declared.status.Status.TheVariants as ends
use Rattle.network_reach.specs.Asked.{IsAsked}
use Rattle.ordered_cover.specs.Ports.{is_in_ranges}
use Rattle.vpc_laws.specs.Types.{Description, EniNo}
use Rattle.vpc_model.specs.Accepted.{IsAccepted}
use Rattle.reach_matrix.specs.Naming.{CanBeAsked, words_about}
use Rattle.reach_matrix.specs.Ranges.{ArePairRanges}

-- what `ask FILE from A to B port K-K` answers, of a port that the matrix was asked for, is a yes exactly where the port is in the pair's ranges
abbrev pub PortsAreThoseOfAsk : Type 0
PortsAreThoseOfAsk =
    (file : List ℕ) (d : Description) (ports : ℕ × ℕ) (pair : EniNo × EniNo) (ranges : List (ℕ × ℕ)) (port : ℕ) (status : Status) (text : List ℕ) →
    IsAccepted d → CanBeAsked d pair.0 → CanBeAsked d pair.1 → ports.1 < 65536 → ArePairRanges d ports pair ranges → ports.0 ≤ port → port ≤ ports.1
    → IsAsked d (words_about file d pair (port, port)) status text → (is_in_ranges ranges port ≡ true) ↔ (status ≡ ends.Yes)

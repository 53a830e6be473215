-- What `check` answers to a second file: to what `reach` prints, which its first line tells, or to a report of `ask`.
use Rattle.std.specs.Prelude.{◌≡◌, List, codes, false, true, ℕ}
use Rattle.command_job.specs.declared.status.Status.{Status}
use Rattle.report_check.specs.Certified.{IsCheckDecided, IsCheckedFrom}
use Rattle.vpc_laws.specs.Types.{Description}
use Rattle.listing_check.specs.Lines.{all_lines, begins_with}
use Rattle.reach_check.specs.Reaches.{IsReachChecked, IsReachListingDecided}

pub data IsTextChecked (d : Description) (bytes : List ℕ) (status : Status) (text : List ℕ) : Type 0 where
  report : begins_with (codes "vpc-reach 1") (all_lines bytes) ≡ false → IsCheckedFrom d bytes status text → IsTextChecked d bytes status text
  reach : begins_with (codes "vpc-reach 1") (all_lines bytes) ≡ true → IsReachChecked d bytes status text → IsTextChecked d bytes status text

-- a report, or what `reach` prints, is decided
pub record IsTextDecided (d : Description) (bytes : List ℕ) (status : Status) : Type 0 where
  pub report : begins_with (codes "vpc-reach 1") (all_lines bytes) ≡ false → IsCheckDecided d bytes status
  pub reach : begins_with (codes "vpc-reach 1") (all_lines bytes) ≡ true → IsReachListingDecided d bytes status

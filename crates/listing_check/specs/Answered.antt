-- What is answered to the lines of a listing, after the first two.
use Rattle.std.specs.Prelude.{◌≡◌, Bool, Err, List, Ok, decimal, map, ℕ}
use Rattle.command_job.specs.Lines.{line}
use Rattle.command_job.specs.declared.status.Status.{Status}
use Rattle.command_job.specs.declared.status.Status.TheVariants as ends
use Rattle.header_boxes.specs.declared.rows.Row.{Row}
use Rattle.listing_reader.specs.Listings.{lists_in}
use Rattle.listing_reader.specs.declared.origins.Origin.{Origin}
use Rattle.report_check.specs.Certified.{report_refusal_line, too_many_text}
use Rattle.report_reader.specs.declared.report.ReportFault.TheVariants as faults
use Rattle.listing_check.specs.Asked.{Asked, listed_of}
use Rattle.listing_check.specs.Found.{IsFound}
use Rattle.listing_check.specs.Texts.{found_text}
use Rattle.listing_check.specs.declared.found.Found.{Found}
use Rattle.listing_check.specs.declared.found.Found.TheVariants as found

-- the starts by whose ids rows are read
abbrev pub origins_of : List Asked → List Origin
origins_of asked = map (λ a. record { id = a.id; boxes = a.boxes }) asked

-- yes where nothing was found against the listing
abbrev pub found_status : Found → Status
found_status found.Yes = ends.Yes
found_status (found.Overlap i j) = ends.No
found_status (found.Untrue i start h) = ends.No
found_status (found.Unlisted start h) = ends.No

-- what is found of rows by their starts, and told
pub record IsVerdict (asked : List Asked) (lists : List (List (Row (List ℕ)))) (status : Status) (text : List ℕ) : Type 0 where
  pub found : Found
  pub is_found : IsFound (listed_of asked lists) found
  pub status_is : status ≡ found_status found
  pub text_is : text ≡ line (found_text asked found)

-- the first line that isn't in the grammar, too many rows, or what is found of them
pub data IsListingChecked (asked : List Asked) (ended : Bool) (lines : List (List ℕ)) (status : Status) (text : List ℕ) : Type 0 where
  bad_line : (number : ℕ) → lists_in (origins_of asked) ended lines ≡ Err (faults.BadLine number) → status ≡ ends.Query → text ≡ report_refusal_line (decimal number)
      → IsListingChecked asked ended lines status text
  too_many : (number : ℕ) → lists_in (origins_of asked) ended lines ≡ Err (faults.TooManyBoxes number) → status ≡ ends.Query → text ≡ report_refusal_line (too_many_text number)
      → IsListingChecked asked ended lines status text
  told : (lists : List (List (Row (List ℕ)))) → lists_in (origins_of asked) ended lines ≡ Ok lists → IsVerdict asked lists status text
      → IsListingChecked asked ended lines status text

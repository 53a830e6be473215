-- What is answered to a listing is decided by its rows, and tells of no device.
use Rattle.std.proofs.Common.{◌≡◌, ◌∙◌, ◌↔◌, Bool, Err, List, Ok, ap, arith, length, refl, subst, sym, ℕ}
use Rattle.vpc_base.proofs.Lemmas.{length-map, slice_get_within}
use Rattle.command_job.proofs.Devices.{no_device, no_is_none, query_is_none, yes_is_none}
use Rattle.command_job.specs.Status.{IsOfDevice}
use Rattle.command_job.specs.declared.status.Status.{Status}
use Rattle.command_job.specs.declared.status.Status.TheVariants as ends
use Rattle.header_boxes.specs.declared.rows.Row.{Row}
use Rattle.listing_reader.specs.Listings.{lists_in}
use Rattle.listing_reader.specs.declared.origins.Origin.{Origin}
use Rattle.report_check.specs.Certified.{IsFaultTold}
use Rattle.report_reader.specs.Reports.{IsRead}
use Rattle.report_reader.specs.declared.report.ReportFault.{ReportFault}
use Rattle.report_reader.specs.declared.report.ReportFault.TheVariants as faults
use Rattle.listing_check.specs.Terms.{Asked, Found, IsFound, IsListingChecked, IsTrueListing, IsVerdict, NamesStart, found_status, listed_of, origins_of}
use Rattle.listing_check.specs.Answered as answers
use Rattle.listing_check.specs.declared.found.Found.TheVariants as found
use Rattle.listing_check.proofs.Counted.{length-listed}
use Rattle.listing_check.proofs.Truths.{yes_is_truth}

-- ---- what is answered

abbrev origin_of : Asked → Origin
origin_of a = record { id = a.id; boxes = a.boxes }

-- lists as they were lent
pub lists_counted : (asked : List Asked) (origins : List Origin) (lists seen : List (List (Row (List ℕ)))) → origins ≡ origins_of asked → seen ≡ lists → length lists ≡ length origins
    → length seen ≡ length asked
lists_counted asked origins lists seen same lent count =
    ap length lent ∙ (count ∙ (ap length same ∙ length-map asked origin_of))

fault_is : (asked : List Asked) (ended : Bool) (lines : List (List ℕ)) (fault : ReportFault) (status : Status) (text : List ℕ)
    → IsRead (lists_in (origins_of asked) ended lines) (Err fault) → IsFaultTold fault status text → IsListingChecked asked ended lines status text
fault_is asked ended lines (faults.BadLine number) status text is told = answers.bad_line number is told.0 told.1
fault_is asked ended lines (faults.TooManyBoxes number) status text is told = answers.too_many number is told.0 told.1
fault_is asked ended lines faults.Memory status text is told = absurd told

-- something is wrong with the lines
pub checked_if_fault : (asked : List Asked) (origins : List Origin) (ended : Bool) (lines : List (List ℕ)) (fault : ReportFault) (status : Status) (text : List ℕ) → origins ≡ origins_of asked
    → IsRead (lists_in origins ended lines) (Err fault) → IsFaultTold fault status text → IsListingChecked asked ended lines status text
checked_if_fault asked origins ended lines fault status text same is told =
    fault_is asked ended lines fault status text (subst (λ (os : List Origin). IsRead (lists_in os ended lines) (Err fault)) same is) told

-- or they are rows
pub checked_if_read : (asked : List Asked) (origins : List Origin) (ended : Bool) (lines : List (List ℕ)) (lists seen : List (List (Row (List ℕ)))) (status : Status) (text : List ℕ)
    → origins ≡ origins_of asked → seen ≡ lists → lists_in origins ended lines ≡ Ok lists → IsVerdict asked seen status text → IsListingChecked asked ended lines status text
checked_if_read asked origins ended lines lists seen status text same lent reads verdict =
    answers.told lists (subst (λ (os : List Origin). lists_in os ended lines ≡ Ok lists) same reads)
    (subst (λ (l : List (List (Row (List ℕ)))). IsVerdict asked l status text) lent verdict)

-- the start that is told of is one of those that are asked about
pub found_names_start : (asked : List Asked) (lists : List (List (Row (List ℕ)))) (f : Found) → length lists ≡ length asked → IsFound (listed_of asked lists) f → NamesStart asked f
found_names_start asked lists found.Yes same is = tt
found_names_start asked lists (found.Overlap i j) same is = tt
found_names_start asked lists (found.Untrue i start h) same is =
    let untrue = is.1 in
    let below = slice_get_within (listed_of asked lists) start untrue.l untrue.stands in
    omega (arith, below, length-listed asked lists same)
found_names_start asked lists (found.Unlisted start h) same is =
    let unlisted = is.1.1 in
    let below = slice_get_within (listed_of asked lists) start unlisted.l unlisted.stands in
    omega (arith, below, length-listed asked lists same)

-- ---- yes

yes_only : (f : Found) → found_status f ≡ ends.Yes → f ≡ found.Yes
yes_only found.Yes is = refl
yes_only (found.Overlap i j) is = absurd (cc)
yes_only (found.Untrue i start h) is = absurd (cc)
yes_only (found.Unlisted start h) is = absurd (cc)

-- a verdict is yes exactly where the listing is true
pub verdict_is_truth : (asked : List Asked) (lists : List (List (Row (List ℕ)))) (status : Status) (text : List ℕ) → IsVerdict asked lists status text
    → (status ≡ ends.Yes) ↔ IsTrueListing (listed_of asked lists)
verdict_is_truth asked lists status text verdict =
    let truth = yes_is_truth (listed_of asked lists) verdict.found verdict.is_found in (
      λ yes. truth.0 (yes_only verdict.found (sym verdict.status_is ∙ yes)),
      λ are. verdict.status_is ∙ ap found_status (truth.1 are),
    )

-- rows that are read and true
pub record AreTrueLines (asked : List Asked) (ended : Bool) (lines : List (List ℕ)) : Type 0 where
  pub lists : List (List (Row (List ℕ)))
  pub reads : lists_in (origins_of asked) ended lines ≡ Ok lists
  pub true_listing : IsTrueListing (listed_of asked lists)

no_lists : (asked : List Asked) (ended : Bool) (lines : List (List ℕ)) (fault : ReportFault) (status : Status)
    → lists_in (origins_of asked) ended lines ≡ Err fault → status ≡ ends.Query → (status ≡ ends.Yes) ↔ AreTrueLines asked ended lines
no_lists asked ended lines fault status bad query = (
  λ yes. absurd (let wrong = sym query ∙ yes in cc),
  λ are. absurd (let wrong = sym bad ∙ are.reads in cc),
)

one_reading : (asked : List Asked) (ended : Bool) (lines : List (List ℕ)) (a b : List (List (Row (List ℕ))))
    → lists_in (origins_of asked) ended lines ≡ Ok a → lists_in (origins_of asked) ended lines ≡ Ok b → b ≡ a
one_reading asked ended lines a b first second = let same = sym second ∙ first in cc

-- yes is answered exactly where they are
pub listing_is_decided : (asked : List Asked) (ended : Bool) (lines : List (List ℕ)) (status : Status) (text : List ℕ) → IsListingChecked asked ended lines status text
    → (status ≡ ends.Yes) ↔ AreTrueLines asked ended lines
listing_is_decided asked ended lines status text (answers.bad_line number bad query says) = no_lists asked ended lines (faults.BadLine number) status bad query
listing_is_decided asked ended lines status text (answers.too_many number bad query says) = no_lists asked ended lines (faults.TooManyBoxes number) status bad query
listing_is_decided asked ended lines status text (answers.told lists reads verdict) =
    let truth = verdict_is_truth asked lists status text verdict in (
      λ yes. record { lists = lists; reads = reads; true_listing = truth.0 yes },
      λ are.
          truth.1 (subst (λ (l : List (List (Row (List ℕ)))). IsTrueListing (listed_of asked l)) (one_reading asked ended lines lists are.lists reads are.reads) are.true_listing),
    )

-- ---- devices

found_is_none : (f : Found) → IsOfDevice (found_status f) → ⊥
found_is_none found.Yes is = yes_is_none is
found_is_none (found.Overlap i j) is = no_is_none is
found_is_none (found.Untrue i start h) is = no_is_none is
found_is_none (found.Unlisted start h) is = no_is_none is

pub listing_is_none : (asked : List Asked) (ended : Bool) (lines : List (List ℕ)) (status : Status) (text : List ℕ) → IsListingChecked asked ended lines status text → IsOfDevice status → ⊥
listing_is_none asked ended lines status text (answers.bad_line number is query says) h = no_device status ends.Query query query_is_none h
listing_is_none asked ended lines status text (answers.too_many number is query says) h = no_device status ends.Query query query_is_none h
listing_is_none asked ended lines status text (answers.told lists reads verdict) h = no_device status (found_status verdict.found) verdict.status_is (found_is_none verdict.found) h

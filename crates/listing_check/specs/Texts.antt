-- How what is found is printed.
use Rattle.std.specs.Prelude.{◌++◌, [], List, None, Option, Some, codes, decimal, slice_get, ℕ}
use Rattle.block_report.specs.Words.{header_text, word}
use Rattle.report_check.specs.Texts.{overlap_text}
use Rattle.vpc_base.specs.declared.headers.Header.{Header}
use Rattle.listing_check.specs.Asked.{Asked}
use Rattle.listing_check.specs.declared.found.Found.{Found}
use Rattle.listing_check.specs.declared.found.Found.TheVariants as found

-- the id of the start with a number, from 0
abbrev pub id_of : Option Asked → List ℕ
id_of None = []
id_of (Some asked) = asked.id

-- what becomes of a request from it
abbrev pub outcome_of : Option Asked → Header → List ℕ
outcome_of None h = []
outcome_of (Some asked) h = asked.outcome h

-- yes, or why not
abbrev pub found_text : List Asked → Found → List ℕ
found_text asked found.Yes = codes "yes"
found_text asked (found.Overlap i j) = overlap_text i j
found_text asked (found.Untrue i start h) =
    codes "no untrue" ++ word (decimal i) ++ word (header_text h) ++ word (outcome_of (slice_get asked start) h)
found_text asked (found.Unlisted start h) =
    codes "no unlisted" ++ word (id_of (slice_get asked start)) ++ word (header_text h) ++ word (outcome_of (slice_get asked start) h)

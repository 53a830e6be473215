-- What a search in the rows of a start finds.
use Rattle.std.proofs.Common.{◌+◌, ◌<◌, ◌≡◌, ◌∙◌, [], All, List, None, Option, Some, ap, length, subst, sym, take, ℕ}
use Rattle.std.specs.Prelude.{slice_get, slice_index_or}
use Rattle.std.proofs.lemmas.List.Elements.{All-more}
use Rattle.std.proofs.lemmas.Option.{slice_get-get_or}
use Rattle.header_boxes.specs.Rows.{HasWord}
use Rattle.header_boxes.specs.declared.rows.Row.{Row}
use Rattle.vpc_base.specs.declared.headers.Header.{Header}
use Rattle.listing_check.specs.Found.{IsFirstOther, IsFirstUntrueIn}
use Rattle.listing_check.specs.Looks.{IsOther, listed_by}

-- one row more is true
pub true_more : (told : Header → Option (List ℕ)) (rows : List (Row (List ℕ))) (i : ℕ) (row : Row (List ℕ)) (text : List ℕ) → i < length rows → row ≡ slice_index_or rows i row
    → All (HasWord told) (take i rows) → text ≡ row.word → IsOther told (Some text) row.part None → All (HasWord told) (take (i + 1) rows)
true_more told rows i row text below is before same none =
    let word : HasWord told row = λ h held. none h held ∙ ap Some same in
    All-more (HasWord told) rows i row below before (subst (HasWord told) is word)

-- the first that isn't
pub untrue_at : (told : Header → Option (List ℕ)) (rows : List (Row (List ℕ))) (i number : ℕ) (row : Row (List ℕ)) (text : List ℕ) (h : Header) → number ≡ i → i < length rows
    → row ≡ slice_index_or rows i row → All (HasWord told) (take i rows) → text ≡ row.word → IsFirstOther told (Some text) row.part h → IsFirstUntrueIn (listed_by told [] rows) number h
untrue_at told rows i number row text h count below is before same found = record {
  row = row;
  stands = subst (λ (k : ℕ). slice_get rows k ≡ Some row) (sym count) (slice_get-get_or rows i row below ∙ ap Some (sym is));
  other = subst (λ (t : List ℕ). IsFirstOther told (Some t) row.part h) same found;
  before = subst (λ (k : ℕ). All (HasWord told) (take k rows)) (sym count) before;
}

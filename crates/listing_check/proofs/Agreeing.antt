-- What an agreement tells.
use Rattle.std.proofs.Common.{◌≡◌, ◌≢◌, Bool, List, None, Option, Some, ap, false, if◌then◌else◌, refl, sym, true, ℕ}
use Rattle.std.specs.Prelude.{bytes_eq}
use Rattle.std.proofs.lemmas.Slice.Eq.{bytes_eq-Decides}
use Rattle.vpc_base.proofs.Options.{if_some}
use Rattle.header_boxes.specs.Rows.{IsFirst}
use Rattle.listing_check.specs.Looks.{IsOther}
use Rattle.vpc_laws.specs.Types.{Box5, Header}
use Rattle.listing_check.specs.Agreement.{agreed, agreement_of}

-- ---- texts

if_none : (b : Bool) → (if b then Some (tt {0}) else None) ≡ None → b ≢ true
if_none true none = absurd (cc)
if_none false none = λ is. cc

-- one text, or none
pub agreed-some : (wanted told : Option (List ℕ)) → agreed wanted told ≢ None → told ≡ wanted
agreed-some None None some = refl
agreed-some None (Some text) some = absurd (some refl)
agreed-some (Some text) None some = absurd (some refl)
agreed-some (Some one) (Some other) some = let decides = bytes_eq-Decides one other in ap Some (sym (decides.0 (if_some (bytes_eq one other) some)))

-- two texts, or one alone
pub agreed-none : (wanted told : Option (List ℕ)) → agreed wanted told ≡ None → told ≢ wanted
agreed-none None None none = absurd (cc)
agreed-none None (Some text) none = λ is. cc
agreed-none (Some text) None none = λ is. cc
agreed-none (Some one) (Some other) none = λ is.
    let decides = bytes_eq-Decides one other in
    let same : one ≡ other = cc in
    if_none (bytes_eq one other) none (decides.1 same)

-- ---- headers of a box

-- the first header that isn't agreed on is the first of which something else is told
pub other_if_first : (told : Header → Option (List ℕ)) (wanted : Option (List ℕ)) (part : Box5) (o : Option Header) → IsFirst (agreement_of told wanted) part o → IsOther told wanted part o
unfolding agreement_of
other_if_first told wanted part None none = λ h held. agreed-some wanted (told h) (none h held)
other_if_first told wanted part (Some h) found = record {
  inside = found.inside;
  other = agreed-none wanted (told h) found.through;
  first = λ k held before. agreed-some wanted (told k) (found.first k held before);
}

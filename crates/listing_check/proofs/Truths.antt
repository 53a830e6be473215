-- A listing gets a yes exactly where it is true.
use Rattle.std.proofs.Common.{◌≡◌, List, Some, refl, slice_get, subst, ℕ}
use Rattle.std.proofs.lemmas.Option.{get_or_from_slice_get, slice_get_within}
use Rattle.box_gather.specs.Over.{IsFirstLeftOut}
use Rattle.header_boxes.specs.Rows.{HasWord}
use Rattle.report_check.proofs.Boxes.{no_overlap}
use Rattle.vpc_base.specs.declared.headers.Header.{Header}
use Rattle.listing_check.specs.Asked.{AreTrue, HoldAll, IsTrueListing, IsTrueOf, Listed}
use Rattle.listing_check.specs.Found.{IsFirstUntrueIn, IsFound, YesIsTruth}
use Rattle.listing_check.specs.declared.found.Found.{Found}
use Rattle.listing_check.specs.declared.found.Found.TheVariants as found

true_at : (listed : List Listed) (k : ℕ) (l : Listed) → slice_get listed k ≡ Some l → IsTrueListing listed → IsTrueOf l
true_at listed k l stands are = subst IsTrueOf (get_or_from_slice_get listed k l l stands) (are k l (slice_get_within listed k l stands))

none_untrue : (l : Listed) (number : ℕ) (h : Header) → AreTrue l → IsFirstUntrueIn l number h → ⊥
none_untrue l number h words is =
    let asked = l.asked in
    let row = is.row in
    let word : HasWord asked.told row = subst (HasWord asked.told) (get_or_from_slice_get l.rows number row row is.stands) (words number row (slice_get_within l.rows number row is.stands)) in
    let found = is.other in
    found.other (word h found.inside)

none_left_out : (l : Listed) (h : Header) → HoldAll l → (let asked = l.asked in IsFirstLeftOut asked.told asked.boxes l.rows h) → ⊥
none_left_out l h all is = let held = all h is.inside is.told in let out = is.outside in absurd (cc)

pub yes_if_true : (listed : List Listed) (f : Found) → IsFound listed f → IsTrueListing listed → f ≡ found.Yes
yes_if_true listed found.Yes is are = refl
yes_if_true listed (found.Overlap i j) is are =
    let l = is.l in
    let truth = true_at listed is.start l is.stands are in
    absurd (no_overlap l.rows is.first is.second truth.apart is.least)
yes_if_true listed (found.Untrue i start h) is are =
    let untrue = is.1 in
    let truth = true_at listed start untrue.l untrue.stands are in
    absurd (none_untrue untrue.l untrue.number h truth.words untrue.untrue)
yes_if_true listed (found.Unlisted start h) is are =
    let unlisted = is.1.1 in
    let truth = true_at listed start unlisted.l unlisted.stands are in
    absurd (none_left_out unlisted.l h truth.all unlisted.left_out)

pub yes_is_truth : YesIsTruth
yes_is_truth listed f is = (λ yes. subst (IsFound listed) yes is, yes_if_true listed f is)

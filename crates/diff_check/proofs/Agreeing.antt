-- What a comparison of changes with a text tells.
use Rattle.std.proofs.Common.{◌≡◌, ◌∙◌, List, None, Option, Some, ap, codes, subst, sym, true, ℕ}
use Rattle.header_boxes.proofs.Held.{holds_low, valid_if_within}
use Rattle.header_boxes.specs.Boxes.{IsWithin, holds, low_of}
use Rattle.changed_ends.specs.Asked.{Comparison, HasEnds}
use Rattle.change_report.specs.Texts.{change_text, start_id}
use Rattle.change_report.specs.Told.{sent_after, sent_before}
use Rattle.change_report.proofs.GatherLemmas.{sent_well_after, sent_well_before}
use Rattle.journey_changes.proofs.Telling.{changes_are_tellable}
use Rattle.journey_changes.specs.Changes.{change_of}
use Rattle.journey_changes.specs.Sent.{Sent}
use Rattle.journey_changes.specs.Telling.{IsTellable}
use Rattle.journey_changes.specs.declared.changes.Change.{Change}
use Rattle.query_words.specs.ChangeQuery.{IsChangedEnd}
use Rattle.query_words.specs.declared.changes.ChangedEnd.{ChangedEnd}
use Rattle.vpc_laws.specs.Types.{Box5, Description, Header}
use Rattle.vpc_model.specs.Accepted.{IsAccepted}
use Rattle.listing_check.specs.Agreement.{agreed, agreement_of}
use Rattle.diff_check.specs.Told.{AreTellable, change_told, told_of}
use Rattle.diff_check.specs.Diffs.{told_in, told_or_same}

-- the least header of the sides is in the part
pub low_held : (part sides : Box5) (h : Header) → IsWithin part sides → low_of part ≡ low_of sides → low_of sides ≡ h → holds h part ≡ true
low_held part sides h within low is = subst (λ (k : Header). holds k part ≡ true) (low ∙ is) (holds_low part (valid_if_within part sides within))

-- ---- changes that can be told

pub tellable-from : (c : Comparison) (start : ChangedEnd) (x y : Sent) → IsAccepted c.before → IsAccepted c.after → HasEnds c → IsChangedEnd c.before c.after start
    → x ≡ sent_before c start → y ≡ sent_after c start → AreTellable x y
tellable-from c start x y first second ends there one other =
    subst (λ (z : Sent). AreTellable z y) (sym one)
    (subst (λ (z : Sent). AreTellable (sent_before c start) z) (sym other)
    (λ h change is.
    changes_are_tellable (sent_before c start) (sent_after c start) h change first second (sent_well_before c start ends there) (sent_well_after c start ends there) is))

module _ (x y : Sent) (n m : Description) (one : x.network ≡ n) (other : y.network ≡ m) where
  pub tellable-at : (h : Header) (told : Option Change) (change : Change) → AreTellable x y → told ≡ change_of x y h → told ≡ Some change → IsTellable n m change
  tellable-at h told change tellable is some =
      subst (λ (d : Description). IsTellable n d change) other (subst (λ (d : Description). IsTellable d y.network change) one (tellable h change (sym is ∙ some)))

  -- what changes for a request is told, or that it is the same
  pub told-some : (id : List ℕ) (h : Header) (told : Option Change) (change : Change) → told ≡ change_of x y h → told ≡ Some change → change_text n m id change ≡ told_or_same (told_of id x y h)
  told-some id h told change is some =
      sym (ap (λ (d : Description). change_text d m id change) one)
      ∙ (sym (ap (λ (d : Description). change_text x.network d id change) other) ∙ ap (λ (o : Option Change). told_or_same (change_told x.network y.network id o)) (sym some ∙ is))

  module _ (part : Box5) (word : Option Change) (means : (h : Header) → holds h part ≡ true → change_of x y h ≡ word) where
    pub tellable-part : (sides : Box5) → IsWithin part sides → AreTellable x y → (change : Change) → word ≡ Some change → IsTellable n m change
    tellable-part sides within tellable change some =
        tellable-at (low_of part) word change tellable (sym (means (low_of part) (holds_low part (valid_if_within part sides within)))) some

    pub change_agreed-part : (id : List ℕ) (wanted : Option (List ℕ)) (h : Header) → holds h part ≡ true
        → agreement_of (told_of id x y) wanted h ≡ agreed wanted (change_told n m id word)
    unfolding agreement_of
    change_agreed-part id wanted h held =
        ap (λ (o : Option Change). agreed wanted (change_told x.network y.network id o)) (means h held)
        ∙ (ap (λ (d : Description). agreed wanted (change_told d y.network id word)) one ∙ ap (λ (d : Description). agreed wanted (change_told n d id word)) other)

pub told-none : (x y : Sent) (id : List ℕ) (h : Header) (told : Option Change) → told ≡ change_of x y h → told ≡ None → codes "same" ≡ told_or_same (told_of id x y h)
told-none x y id h told is none = ap (λ (o : Option Change). told_or_same (change_told x.network y.network id o)) (sym none ∙ is)

-- ---- what is told from a start

pub told_of-start : (c : Comparison) (start : ChangedEnd) (x y : Sent) (id : List ℕ) (h : Header) → x ≡ sent_before c start → y ≡ sent_after c start → id ≡ start_id c start
    → told_in c start h ≡ told_of id x y h
told_of-start c start x y id h one other same =
    sym (ap (λ (z : Sent). told_of id z y h) one
    ∙ (ap (λ (z : Sent). told_of id (sent_before c start) z h) other ∙ ap (λ (l : List ℕ). told_of l (sent_before c start) (sent_after c start) h) same))

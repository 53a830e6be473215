-- What a look at the rows of a start finds.
use Rattle.std.proofs.Common.{◌≡◌, ◌∙◌, [], All, AllPairs, List, None, Option, Some, refl, subst, sym, take, true, ℕ}
use Rattle.std.proofs.lemmas.List.Elements.{All-weaker}
use Rattle.std.specs.Option.{MatchOption}
use Rattle.box_gather.specs.Over.{IsFirstLeftOut, is_in}
use Rattle.box_survey.specs.Survey.{IsFirstUncovered}
use Rattle.box_survey.specs.Survey as surveys
use Rattle.header_boxes.specs.Boxes.{AreDisjoint}
use Rattle.header_boxes.specs.Rows.{HasWord}
use Rattle.header_boxes.specs.declared.boxes.Box5.{Box5}
use Rattle.header_boxes.specs.declared.rows.Row.{Row}
use Rattle.report_check.proofs.Boxes.{apart_if_disjoint, covered}
use Rattle.vpc_base.specs.declared.headers.Header.{Header}
use Rattle.listing_check.specs.Asked.{Asked, HoldAll}
use Rattle.listing_check.specs.Due.{IsDue}
use Rattle.listing_check.specs.Found.{IsFirstOther, IsFirstUntrueIn, boxes_of}
use Rattle.listing_check.specs.Looks.{IsApartLook, IsLook, asked_by, listed_by}
use Rattle.listing_check.specs.declared.looks.Look.{Look}
use Rattle.listing_check.specs.declared.looks.Look.TheVariants as looks

-- ---- options

match_weaker : {T : Type 0} (o : Option T) (P R : Type 0) (Q S : T → Type 0) → (P → R) → ((x : T) → Q x → S x) → MatchOption o P Q → MatchOption o R S
match_weaker None P R Q S none some is = none is
match_weaker (Some x) P R Q S none some is = some x is

-- ---- two starts of which the same is told

other_same : (f g : Header → Option (List ℕ)) → ((h : Header) → f h ≡ g h) → (wanted : Option (List ℕ)) (part : Box5) (h : Header) → IsFirstOther f wanted part h → IsFirstOther g wanted part h
other_same f g same wanted part h is = record {
  inside = is.inside;
  other = λ wrong. is.other (same h ∙ wrong);
  first = λ k held before. sym (same k) ∙ is.first k held before;
}

word_same : (f g : Header → Option (List ℕ)) → ((h : Header) → f h ≡ g h) → (row : Row (List ℕ)) → HasWord f row → HasWord g row
word_same f g same row word h held = sym (same h) ∙ word h held

words_same : (f g : Header → Option (List ℕ)) → ((h : Header) → f h ≡ g h) → (rows : List (Row (List ℕ))) → All (HasWord f) rows → All (HasWord g) rows
words_same f g same rows all = All-weaker (HasWord f) (HasWord g) (word_same f g same) rows all

untrue_same : (a b : Asked) (rows : List (Row (List ℕ))) (number : ℕ) (h : Header) → ((k : Header) → a.told k ≡ b.told k)
    → IsFirstUntrueIn (record { asked = a; rows = rows }) number h → IsFirstUntrueIn (record { asked = b; rows = rows }) number h
untrue_same a b rows number h same is = record {
  row = is.row;
  stands = is.stands;
  other = other_same a.told b.told same (Some (is.row).word) (is.row).part h is.other;
  before = words_same a.told b.told same (take number rows) is.before;
}

hold_same : (a b : Asked) (rows : List (Row (List ℕ))) → a.boxes ≡ b.boxes → ((k : Header) → a.told k ≡ b.told k)
    → HoldAll (record { asked = a; rows = rows }) → HoldAll (record { asked = b; rows = rows })
hold_same a b rows boxes same all h inside tells = all h (subst (λ (bs : List Box5). is_in bs h ≡ true) (sym boxes) inside) (λ none. tells (sym (same h) ∙ none))

left_out_same : (a b : Asked) (rows : List (Row (List ℕ))) (h : Header) → a.boxes ≡ b.boxes → ((k : Header) → a.told k ≡ b.told k)
    → IsFirstLeftOut a.told a.boxes rows h → IsFirstLeftOut b.told b.boxes rows h
left_out_same a b rows h boxes same is = record {
  inside = subst (λ (bs : List Box5). is_in bs h ≡ true) boxes is.inside;
  told = λ none. is.told (same h ∙ none);
  outside = is.outside;
  first = λ k inside before tells. is.first k (subst (λ (bs : List Box5). is_in bs k ≡ true) (sym boxes) inside) before (λ none. tells (sym (same k) ∙ none));
}

pub look_same : (a b : Asked) (rows : List (Row (List ℕ))) (look : Look) → a.boxes ≡ b.boxes → ((k : Header) → a.told k ≡ b.told k)
    → IsLook (record { asked = a; rows = rows }) look → IsLook (record { asked = b; rows = rows }) look
look_same a b rows (looks.Overlap i j) boxes same is = is
look_same a b rows (looks.Apart untrue unlisted) boxes same is =
    let words = match_weaker untrue _ _ _ _ (words_same a.told b.told same rows) (λ u. untrue_same a b rows u.0 u.1 same) is.1.0 in
    let held = match_weaker unlisted _ _ _ _ (hold_same a b rows boxes same) (λ h. left_out_same a b rows h boxes same) is.1.1 in
    (is.0, (words, held))

-- ---- what a survey tells

all_held : (told : Header → Option (List ℕ)) (boxes : List Box5) (rows : List (Row (List ℕ))) → surveys.HoldAll (IsDue told boxes) (boxes_of rows) → HoldAll (listed_by told boxes rows)
all_held told boxes rows all h inside tells = sym (covered rows h) ∙ all h (inside, tells)

one_left_out : (told : Header → Option (List ℕ)) (boxes : List Box5) (rows : List (Row (List ℕ))) (h : Header) → IsFirstUncovered (IsDue told boxes) (boxes_of rows) h
    → IsFirstLeftOut told boxes rows h
one_left_out told boxes rows h is = record {
  inside = (is.matter).0;
  told = (is.matter).1;
  outside = sym (covered rows h) ∙ is.outside;
  first = λ k inside before tells. sym (covered rows k) ∙ is.first k (inside, tells) before;
}

-- no two rows share a header
pub look_apart : (told : Header → Option (List ℕ)) (boxes : List Box5) (rows : List (Row (List ℕ))) (unlisted : Option Header) (look : Look)
    → AllPairs AreDisjoint (boxes_of rows)
    → MatchOption unlisted (surveys.HoldAll (IsDue told boxes) (boxes_of rows)) (IsFirstUncovered (IsDue told boxes) (boxes_of rows))
    → IsApartLook told rows unlisted look → IsLook (listed_by told boxes rows) look
look_apart told boxes rows unlisted (looks.Overlap i j) disjoint found is = absurd is
look_apart told boxes rows unlisted (looks.Apart untrue left_out) disjoint found is =
    let words = match_weaker untrue _ _ _ _ (λ words. words) (λ u. untrue_same (asked_by told []) (asked_by told boxes) rows u.0 u.1 (λ k. refl)) is.0 in
    let held = match_weaker unlisted _ _ _ _ (all_held told boxes rows) (one_left_out told boxes rows) found in
    let missing : Option Header → Type 0 = λ o. MatchOption o (HoldAll (listed_by told boxes rows)) (IsFirstLeftOut told boxes rows) in
    (apart_if_disjoint rows disjoint, (words, subst missing (sym is.1) held))

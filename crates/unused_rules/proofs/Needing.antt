-- What a search of two networks says of a rule that one of them lacks.
use Rattle.std.proofs.Common.{◌≡◌, ◌≢◌, ◌∙◌, Bool, Err, IfOk, IfSome, None, Ok, Option, Result, Some, ap, ap₂, false, if◌then◌else◌, inl, inr, refl, subst, sym, true}
use Rattle.std.proofs.lemmas.Bool.{cases_Bool, false≢true}
use Rattle.std.specs.declared.cmp.Ordering.{Ordering}
use Rattle.std.specs.declared.cmp.Ordering.TheVariants as orderings
use Rattle.box_walk.specs.Asking.{Asking, asked, stop_of, word_of}
use Rattle.header_boxes.proofs.Lemmas.{aligned_through, aligned_to_more, holds_whole, low_is_least}
use Rattle.header_boxes.specs.Terms.{IsAligned, IsWithin, NoneThrough, holds, low_of}
use Rattle.cut_laws.proofs.Among.{left_among, right_among}
use Rattle.query_words.specs.declared.queries.Query.{Query}
use Rattle.header_boxes.proofs.Codes.{before_or_same}
use Rattle.ordered_cover.specs.Cover.{IsSearched}
use Rattle.ordered_cover.specs.declared.rows.Searched.{Searched}
use Rattle.ordered_cover.specs.declared.rows.Searched.TheVariants as searches
use Rattle.ordered_cover.proofs.Order.{before_trans, before_upto}
use Rattle.vpc_base.specs.Cuts.{CutLists, joined_cuts}
use Rattle.vpc_base.specs.Header.{IsBefore, order_of}
use Rattle.vpc_laws.specs.Types.{Box5, Description, End, Header, Phase, Stop, Verdict}
use Rattle.vpc_model.specs.Terms.{appliances_of, is_end, verdict_of}
use Rattle.vpc_model.specs.declared.outcomes.Verdict.TheVariants as verdicts
use Rattle.unused_rules.proofs.Apart.{told_apart}
use Rattle.unused_rules.specs.Terms.{Chunk, ChunkDecidesNothing, IsNeed, RuleName, StaysTheSame, agreement_of, same_told, unless_apart, without, without_chunk}
use Rattle.unused_rules.specs.Concerned.{DecidesWithin, IsFirstIn, IsFirstOf, first_by, first_of, is_in_part, kept_by, part_before}
use Rattle.unused_rules.specs.Needed.{IsAnother}
use Rattle.unused_rules.specs.declared.concerned.Concerned.{Concerned}
use Rattle.unused_rules.specs.declared.rules.RuleName.TheVariants as rules

-- ---- parts

-- a part of a part, aligned to the cuts of both
pub aligned_to_both : (a b : CutLists) (part first whole : Box5) → IsAligned a first whole → IsAligned b part first → IsAligned (joined_cuts a b) part whole
aligned_to_both a b part first whole one other =
    aligned_through (joined_cuts a b) part first whole (aligned_to_more b (joined_cuts a b) part first (right_among a b) other) (aligned_to_more a (joined_cuts a b) first whole (left_among a b) one)

-- what is told of a part of a part
pub told-both : (a b : Asking) (part first : Box5) (one other : Option (Phase × Stop)) (told : Option (Unit {0})) → told ≡ unless_apart one other → IsWithin part first
    → ((h : Header) → holds h first ≡ true → word_of a h ≡ one) → ((h : Header) → holds h part ≡ true → word_of b h ≡ other)
    → (h : Header) → holds h part ≡ true → agreement_of a b h ≡ told
told-both a b part first one other told is within before after h held =
    ap₂ unless_apart (before h (holds_whole h part first within held)) (after h held) ∙ sym is

-- ---- words

abbrev word : Bool → Option (Unit {0})
word same = if same then Some tt else None

word-if : (same : Bool) → same ≡ true → word same ≡ Some tt
word-if true is = refl
word-if false is = absurd (cc)

none-if : (same : Bool) → same ≡ false → word same ≡ None
none-if true is = absurd (cc)
none-if false is = refl

pub together : (a b : Option (Phase × Stop)) → a ≡ b → Some tt ≡ unless_apart a b
together a b same = let decides = told_apart a b in sym (word-if (same_told a b) (decides.1 same))

pub apart : (a b : Option (Phase × Stop)) → a ≢ b → None ≡ unless_apart a b
apart a b other = elim (cases_Bool (same_told a b)) [
  | inl same ↦ let decides = told_apart a b in absurd (other (decides.0 same))
  | inr differs ↦ sym (none-if (same_told a b) differs)
]

same-unless : (a b : Option (Phase × Stop)) → unless_apart a b ≢ None → a ≡ b
same-unless a b some = elim (cases_Bool (same_told a b)) [
  | inl same ↦ let decides = told_apart a b in decides.0 same
  | inr differs ↦ absurd (some (none-if (same_told a b) differs))
]

some-none : word true ≡ None → ⊥
some-none same = absurd (cc)

other-if : (a b : Option (Phase × Stop)) → unless_apart a b ≡ None → a ≡ b → ⊥
other-if a b none same = some-none (together a b same ∙ none)

-- ---- verdicts

some-same : (x y : Phase × Stop) → Some x ≡ Some y → x ≡ y
some-same x y same = cc

stop_of-same : (v w : Verdict) → stop_of v ≡ stop_of w → v ≡ w
stop_of-same verdicts.Through verdicts.Through same = refl
stop_of-same (verdicts.Stopped p s) (verdicts.Stopped q t) same = ap (λ (x : Phase × Stop). verdicts.Stopped x.0 x.1) (some-same (p, s) (q, t) same)
stop_of-same verdicts.Through (verdicts.Stopped q t) same = absurd (cc)
stop_of-same (verdicts.Stopped p s) verdicts.Through same = absurd (cc)

-- ---- a description without a rule

pub appliances-same : (d : Description) (rule : RuleName) → appliances_of (without d rule) ≡ appliances_of d
appliances-same d (rules.Permission r) = refl
appliances-same d (rules.AclRow a k) = refl

pub appliances-kept : (d : Description) (c : Chunk) → appliances_of (without_chunk d c) ≡ appliances_of d
appliances-kept d c = refl

pub is_end-same : (d : Description) (rule : RuleName) (end : End) → is_end (without d rule) end ≡ is_end d end
is_end-same d (rules.Permission r) end = refl
is_end-same d (rules.AclRow a k) end = refl

pub is_end-kept : (d : Description) (c : Chunk) (end : End) → is_end (without_chunk d c) end ≡ is_end d end
is_end-kept d c end = refl

-- ---- needs

verdict-without : (d : Description) (rule : RuleName) (start goal : End) (h : Header)
    → word_of (asked (without d rule) start goal) h ≡ stop_of (verdict_of (without d rule) (appliances_of d) start goal h)
verdict-without d (rules.Permission r) start goal h = refl
verdict-without d (rules.AclRow a k) start goal h = refl

stays-the-same : (d : Description) (rule : RuleName) (start goal : End) (h : Header) → word_of (asked d start goal) h ≡ word_of (asked (without d rule) start goal) h → StaysTheSame d rule start goal h
stays-the-same d rule start goal h same =
    stop_of-same (verdict_of (without d rule) (appliances_of d) start goal h) (verdict_of d (appliances_of d) start goal h)
    (sym (verdict-without d rule start goal h) ∙ sym same)

same-if-stays : (d : Description) (rule : RuleName) (start goal : End) (h : Header) → StaysTheSame d rule start goal h → word_of (asked d start goal) h ≡ word_of (asked (without d rule) start goal) h
same-if-stays d rule start goal h stays = sym (verdict-without d rule start goal h ∙ ap stop_of stays)

-- nothing before the header that is found, or nothing at all, has another verdict
abbrev pub ComesBefore : Header → Option Header → Type 0
ComesBefore k None = Unit {0}
ComesBefore k (Some h) = IsBefore k h

abbrev pub StayUpTo : Description → RuleName → Query → Option Box5 → Option Header → Type 0
StayUpTo d rule query part found =
    (k : Header) → is_in_part part k ≡ true → ComesBefore k found → StaysTheSame d rule query.start query.goal k

-- what is found is a request of the query that has
abbrev pub IsAnotherIn : Description → RuleName → Query → Option Header → Type 0
IsAnotherIn d rule query None = Unit {0}
IsAnotherIn d rule query (Some h) = (holds h query.sides ≡ true) × IsAnother d rule query.start query.goal h

none-some-header : (h : Header) → Some h ≡ None → ⊥
none-some-header h e = cc

-- what the search of a part says
found-in : (d : Description) (rule : RuleName) (query : Query) (part : Option Box5) (found : Option Header) → IfSome part (λ b. IsWithin b query.sides)
    → IsFirstIn (agreement_of (asked d query.start query.goal) (asked (without d rule) query.start query.goal)) part found
    → StayUpTo d rule query part found × IsAnotherIn d rule query found
found-in d rule query None None within is = (λ k held before. absurd (false≢true held), tt)
found-in d rule query None (Some h) within is = absurd (none-some-header h is)
found-in d rule query (Some b) (Some h) within is = (
  λ k held before. stays-the-same d rule query.start query.goal k (same-unless _ _ (is.first k held before)),
  (holds_whole h b query.sides within is.inside, λ stays. other-if _ _ is.through (same-if-stays d rule query.start query.goal h stays)),
)
found-in d rule query (Some b) None within is = (λ k held before. stays-the-same d rule query.start query.goal k (same-unless _ _ (is k held)), tt)

less-equal : orderings.Less ≡ orderings.Equal → ⊥
less-equal e = cc

less-greater : orderings.Less ≡ orderings.Greater → ⊥
less-greater e = cc

-- what comes before the first of two comes before both
before-both : (one other : Option Header) (k : Header) → ComesBefore k (first_of one other) → ComesBefore k one × ComesBefore k other
before-both None other k before = (tt, before)
before-both (Some h) None k before = (before, tt)
before-both (Some h) (Some j) k before = by (order_of j h) refl before
  where
    after : (IsBefore j h → ⊥) → IsBefore k h → IsBefore k j
    after not first = elim (before_or_same h j not) [ inl less ↦ before_trans k h j first less | inr same ↦ subst (λ (x : Header). IsBefore k x) same first ]

    by : (o : Ordering) → order_of j h ≡ o → IsBefore k (first_by o h j) → IsBefore k h × IsBefore k j
    by orderings.Less e first = (before_trans k j h first e, first)
    by orderings.Equal e first = (first, after (λ less. less-equal (sym less ∙ e)) first)
    by orderings.Greater e first = (first, after (λ less. less-greater (sym less ∙ e)) first)

-- what comes before a header that was found is in what is left of a part for it
stays-in_rest : (part : Option Box5) (found : Option Header) (k : Header) → is_in_part part k ≡ true → ComesBefore k found → is_in_part (part_before part found) k ≡ true
stays-in_rest None found k held before = held
stays-in_rest (Some b) None k held before = held
stays-in_rest (Some b) (Some h) k held before = by (order_of (low_of b) h) refl
  where
    first : IsBefore (low_of b) h
    first = before_upto k (low_of b) h (low_is_least b k held) before

    by : (o : Ordering) → order_of (low_of b) h ≡ o → is_in_part (kept_by o b) k ≡ true
    by orderings.Less e = held
    by orderings.Equal e = absurd (less-equal (sym first ∙ e))
    by orderings.Greater e = absurd (less-greater (sym first ∙ e))

within-before : (part : Option Box5) (found : Option Header) (sides : Box5) → IfSome part (λ b. IsWithin b sides) → IfSome (part_before part found) (λ b. IsWithin b sides)
within-before None found sides within = tt
within-before (Some b) None sides within = within
within-before (Some b) (Some h) sides within = by (order_of (low_of b) h)
  where
    by : (o : Ordering) → IfSome (kept_by o b) (λ c. IsWithin c sides)
    by orderings.Less = within
    by orderings.Equal = tt
    by orderings.Greater = tt

first-another : (d : Description) (rule : RuleName) (query : Query) (one other : Option Header) → IsAnotherIn d rule query one → IsAnotherIn d rule query other
    → IsAnotherIn d rule query (first_of one other)
first-another d rule query None other a b = b
first-another d rule query (Some h) None a b = a
first-another d rule query (Some h) (Some j) a b = by (order_of j h)
  where
    by : (o : Ordering) → (holds (first_by o h j) query.sides ≡ true) × IsAnother d rule query.start query.goal (first_by o h j)
    by orderings.Less = b
    by orderings.Equal = a
    by orderings.Greater = a

need-if : (d : Description) (rule : RuleName) (query : Query) (found : Option Header) → IsAnotherIn d rule query found
    → ((k : Header) → holds k query.sides ≡ true → ComesBefore k found → StaysTheSame d rule query.start query.goal k) → IsNeed d rule query found
need-if d rule query None another all = λ h held. all h held tt
need-if d rule query (Some h) another all = record { inside = another.0; another = another.1; first = all }

need-found : (d : Description) (rule : RuleName) (query : Query) (parts : Concerned) (found : Option Header) → DecidesWithin d rule query parts
    → IsFirstOf (agreement_of (asked d query.start query.goal) (asked (without d rule) query.start query.goal)) parts found → IsNeed d rule query found
need-found d rule query parts found within is =
    let one = found-in d rule query parts.asked is.asked within.asked is.is_asked in
    let other = found-in d rule query (part_before parts.answered is.asked) is.answered (within-before parts.answered is.asked query.sides within.answered) is.is_answered in
    subst (IsNeed d rule query) (sym is.found_is)
    (need-if d rule query (first_of is.asked is.answered) (first-another d rule query is.asked is.answered one.1 other.1)
    (λ k held before.
    let both = before-both is.asked is.answered k before in
    elim (cases_Bool (is_in_part parts.asked k)) [
      | inl first ↦ one.0 k first both.0
      | inr out ↦ elim (cases_Bool (is_in_part parts.answered k)) [
        | inl second ↦ other.0 k (stays-in_rest parts.answered is.asked k second both.0) both.1
        | inr outside ↦ within.outside k held out outside
      ]
    ]))

-- by the two that were asked
pub need_of : {E : Type 0} (d e : Description) (rule : RuleName) (query : Query) (parts : Concerned) (a b : Asking) (r : Result (Option Header) E)
    → e ≡ without d rule → a ≡ asked d query.start query.goal → b ≡ asked e query.start query.goal → DecidesWithin d rule query parts
    → IfOk r (IsFirstOf (agreement_of a b) parts) → IfOk r (IsNeed d rule query)
need_of d e rule query parts a b (Ok found) less first second within is =
    need-found d rule query parts found within
    (subst (λ (y : Asking). IsFirstOf (agreement_of (asked d query.start query.goal) y) parts found) (second ∙ ap (λ (x : Description). asked x query.start query.goal) less)
    (subst (λ (x : Asking). IsFirstOf (agreement_of x b) parts found) first is))
need_of d e rule query parts a b (Err no_memory) less first second within is = tt

-- ---- a description without a chunk

chunk-verdict : (d : Description) (c : Chunk) (start goal : End) (h : Header)
    → word_of (asked (without_chunk d c) start goal) h ≡ stop_of (verdict_of (without_chunk d c) (appliances_of d) start goal h)
chunk-verdict d c start goal h = refl

-- none is found
pub none_needs : {E : Type 0} (d e : Description) (c : Chunk) (query : Query) (a b : Asking) (r : Result Bool E)
    → e ≡ without_chunk d c → a ≡ asked d query.start query.goal → b ≡ asked e query.start query.goal
    → IfOk r (λ alike. alike ≡ true → NoneThrough (agreement_of a b) query.sides) → IfOk r (λ idle. idle ≡ true → ChunkDecidesNothing d c query)
none_needs d e c query a b (Ok alike) less first second is = λ alone h held.
    let all : NoneThrough (agreement_of (asked d query.start query.goal) (asked (without_chunk d c) query.start query.goal)) query.sides =
    subst (λ (y : Asking). NoneThrough (agreement_of (asked d query.start query.goal) y) query.sides) (second ∙ ap (λ (x : Description). asked x query.start query.goal) less)
    (subst (λ (x : Asking). NoneThrough (agreement_of x b) query.sides) first (is alone)) in
    stop_of-same (verdict_of (without_chunk d c) (appliances_of d) query.start query.goal h) (verdict_of d (appliances_of d) query.start query.goal h)
    (sym (chunk-verdict d c query.start query.goal h) ∙ sym (same-unless _ _ (all h held)))
none_needs d e c query a b (Err no_memory) less first second is = tt

-- a search that came to its end
pub alike_if : (a b x y : Asking) (sides : Box5) (searched : Searched) → x ≡ a → y ≡ b → searched ≡ searches.Blocked → IsSearched (agreement_of x y) sides searched
    → NoneThrough (agreement_of a b) sides
alike_if a b x y sides searched one other ended is =
    subst (λ (t : Asking). NoneThrough (agreement_of a t) sides) other
    (subst (λ (t : Asking). NoneThrough (agreement_of t y) sides) one (subst (λ (s : Searched). IsSearched (agreement_of x y) sides s) ended is))

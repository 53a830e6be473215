-- The words that a listing repeats: those that were read before `max`.
use Rattle.std.proofs.Common.{◌≡◌, ◌∙◌, ◌+◌, ◌-◌, ◌<◌, ◌≤◌, ◌++◌, ◌∷◌, [], All, Bool, List, ap, arith, codes, drop, false, get_or, if◌then◌else◌, inl, inr, length, length-append, min, refl, subst, suc, sym, take, true, ℕ}
use Rattle.std.specs.Str.{bytes_eq}
use Rattle.std.proofs.lemmas.Bool.{and_right, cases_lt, cond-false, cond-true, not_from_false}
use Rattle.std.proofs.lemmas.List.{get_or-append-add, get_or-drop, get_or-take, length-drop, length-take, nil_from_length, take_all}
use Rattle.std.proofs.lemmas.List.Elements.{All-from_get_or}
use Rattle.listing_check.specs.Lines.{are_question, end_with_max}
use Rattle.query_words.specs.Words.{word_at}
use Rattle.listing_laws.proofs.ShortWords.{IsShortWord}
use Rattle.listing_laws.proofs.PairsRead.{Ended}
use Rattle.listing_laws.proofs.PairsRead as pairs
use Rattle.listing_laws.proofs.Taking.{Agree, Passed, passed_words}
use Rattle.listing_laws.proofs.Taking as taking

-- after so many words, without `max` and its number
abbrev pub given_after : ℕ → List (List ℕ) → List (List ℕ)
given_after base words =
    let given = drop base words in
    if bytes_eq (word_at words (length words - 1)) (codes "max") then take (length given - 2) given else given

-- those up to a number
abbrev kept_before : ℕ → ℕ → List (List ℕ) → List (List ℕ)
kept_before base stop words = take (stop - 1 - base) (drop base words)

-- ---- they are the words that were read

-- `max` is the last word but one
with_max : (base stop : ℕ) (words : List (List ℕ)) → base < stop → stop + 1 ≡ length words
    → bytes_eq (word_at words stop) (codes "max") ≡ true → given_after base words ≡ kept_before base stop words
with_max base stop words over count is =
    let last : length words - 1 ≡ stop = omega (arith, count) in
    let size = length-drop base words in
    let kept : length (drop base words) - 2 ≡ stop - 1 - base = omega (arith, size, count, over) in
    cond-true _ _ _ (ap (λ (k : ℕ). bytes_eq (word_at words k) (codes "max")) last ∙ is) ∙ ap (λ (k : ℕ). take k (drop base words)) kept

-- it isn't, and all words were read
without_max : (base stop : ℕ) (words : List (List ℕ)) → length words < stop → stop ≤ length words + 1
    → bytes_eq (word_at words (stop - 2)) (codes "max") ≡ false → given_after base words ≡ kept_before base stop words
without_max base stop words past most not =
    let last : length words - 1 ≡ stop - 2 = omega (arith, past, most) in
    let size = length-drop base words in
    cond-false _ _ _ (ap (λ (k : ℕ). bytes_eq (word_at words k) (codes "max")) last ∙ not)
    ∙ sym (take_all (stop - 1 - base) (drop base words) (omega (arith, size, past)))

nothing_if : (b : Bool) (given : List (List ℕ)) (k : ℕ) → given ≡ [] → (if b then take (length given - 2) given else given) ≡ take k given
nothing_if b given k none = by b ∙ sym (take_all k given (omega (arith, ap length none)))
  where
    by : (c : Bool) → (if c then take (length given - 2) given else given) ≡ given
    by true = take_all (length given - 2) given (omega (arith, ap length none))
    by false = refl

-- there is none
no_words : (base stop : ℕ) (words : List (List ℕ)) → length words ≤ base → given_after base words ≡ kept_before base stop words
no_words base stop words few =
    let size = length-drop base words in
    nothing_if (bytes_eq (word_at words (length words - 1)) (codes "max")) (drop base words) (stop - 1 - base)
    (nil_from_length (drop base words) (omega (arith, size, few)))

given_are_kept : (base stop : ℕ) (words : List (List ℕ)) → Passed words (base + 1) stop → Ended words stop
    → given_after base words ≡ kept_before base stop words
given_are_kept base stop words (taking.none same) (pairs.bare past) = no_words base stop words (omega (arith, past, same))
given_are_kept base stop words (taking.none same) (pairs.counted count is) = with_max base stop words (omega (arith, same)) count is
given_are_kept base stop words (taking.some least most spelled last) (pairs.bare past) = without_max base stop words past most last
given_are_kept base stop words (taking.some least most spelled last) (pairs.counted count is) =
    with_max base stop words (omega (arith, least)) count is

-- ---- the same words behind others

-- the number of the last of them is that of a word
record IsLast (base stop : ℕ) (words : List (List ℕ)) : Type 0 where
  over : base < stop
  few : base < stop - 1 → stop - 1 ≤ length words

is_last : (base stop : ℕ) (words : List (List ℕ)) → Passed words (base + 1) stop → IsLast base stop words
is_last base stop words (taking.none same) = record { over = omega (arith, same); few = λ below. omega (arith, below, same) }
is_last base stop words (taking.some least most spelled last) = record { over = omega (arith, least); few = λ below. omega (arith, most) }

kept_at : (base stop i : ℕ) (words : List (List ℕ)) → i < stop - 1 - base
    → get_or (kept_before base stop words) i [] ≡ word_at words (base + 1 + i)
kept_at base stop i words within =
    let at : base + i ≡ base + 1 + i - 1 = omega arith in
    get_or-take (stop - 1 - base) (drop base words) i [] within ∙ (get_or-drop base words i [] ∙ ap (λ (k : ℕ). get_or words k []) at)

kept_agree : (base stop : ℕ) (words front : List (List ℕ)) → length front ≡ base → Passed words (base + 1) stop
    → Agree base (stop - 1) words (front ++ kept_before base stop words)
kept_agree base stop words front size passed =
    let last = is_last base stop words passed in
    let kept = kept_before base stop words in
    let a = length-append front kept in
    let b = length-take (stop - 1 - base) (drop base words) in
    let c = length-drop base words in
    let over = last.over in
    record {
      count =
          counts (length words) (length (front ++ kept)) (length front) (length kept) (length (drop base words)) over last.few a b c size;
      few = last.few;
      same = λ k from to.
          let at : k - 1 ≡ length front + (k - 1 - base) = omega (arith, from, size) in
          let number : base + 1 + (k - 1 - base) ≡ k = omega (arith, from) in
          ap (λ (n : ℕ). get_or (front ++ kept) n []) at
          ∙ (get_or-append-add front kept (k - 1 - base) []
          ∙ (kept_at base stop (k - 1 - base) words (below base k stop from to) ∙ ap (word_at words) number));
    }
  where
    below : (b n s : ℕ) → b < n → n ≤ s - 1 → n - 1 - b < s - 1 - b
    below b n s from to = omega (arith, from, to)

    counts : (all whole first rest dropped : ℕ) → base < stop → (base < stop - 1 → stop - 1 ≤ all) → whole ≡ first + rest
        → rest ≡ min (stop - 1 - base) dropped → dropped ≡ all - base → first ≡ base → whole ≡ stop - 1
    counts all whole first rest dropped over few a b c size =
        elim (cases_lt base (stop - 1)) [
          | inl more ↦ (let most = few more in omega (arith, over, most, a, b, c, size))
          | inr not ↦ omega (arith, over, not, a, b, c, size)
        ]

-- they have no blanks
kept_are_words : (base stop : ℕ) (words : List (List ℕ)) → Passed words (base + 1) stop → All IsShortWord (kept_before base stop words)
kept_are_words base stop words passed =
    All-from_get_or IsShortWord (kept_before base stop words) [] λ i inside.
    let b = length-take (stop - 1 - base) (drop base words) in
    let within : i < stop - 1 - base = omega (arith, b, inside) in
    subst IsShortWord (sym (kept_at base stop i words within))
    (passed_words words (base + 1) stop passed (base + 1 + i) (omega arith) (omega (arith, within)))

-- `max` isn't the last of them but one
ends_so : (words : List (List ℕ)) (last : ℕ) → length words - 2 ≡ last → bytes_eq (get_or words last []) (codes "max") ≡ false
    → end_with_max words ≡ false
ends_so words last is other =
    and_right _ _ (ap (λ (k : ℕ). bytes_eq (get_or words k []) (codes "max")) is ∙ other)

kept_are_question : (base stop : ℕ) (words : List (List ℕ)) → Passed words (base + 1) stop
    → are_question (codes "query" ∷ kept_before base stop words) ≡ true
kept_are_question base stop words (taking.none same) =
    let nothing : stop - 1 - base ≡ 0 = omega (arith, same) in
    ap (λ (k : ℕ). are_question (codes "query" ∷ take k (drop base words))) nothing
kept_are_question base stop words (taking.some least most spelled last) =
    let kept = kept_before base stop words in
    let m = stop - 1 - base in
    let a = length-take m (drop base words) in
    let b = length-drop base words in
    let count : length kept ≡ m = omega (arith, a, b, most) in
    let two : suc (m - 2) ≡ m - 1 = omega (arith, least) in
    let within : m - 2 < m = omega (arith, least) in
    let number : base + 1 + (m - 2) ≡ stop - 2 = omega (arith, least) in
    let at : length (codes "query" ∷ kept) - 2 ≡ suc (m - 2) = omega (arith, count, two) in
    not_from_false _ (ends_so (codes "query" ∷ kept) (suc (m - 2)) at
    (ap (λ (w : List ℕ). bytes_eq w (codes "max")) (kept_at base stop (m - 2) words within ∙ ap (word_at words) number) ∙ last))

-- and are no more than were read
kept_count : (base stop : ℕ) (words : List (List ℕ)) → length (kept_before base stop words) ≤ stop - 1 - base
kept_count base stop words = let size = length-take (stop - 1 - base) (drop base words) in omega (arith, size)

-- the words that are repeated behind others: they are read as they were
pub record AreGiven (base stop : ℕ) (words front : List (List ℕ)) : Type 0 where
  pub spelled : All IsShortWord (given_after base words)
  pub asked : are_question (codes "query" ∷ given_after base words) ≡ true
  pub count : length (given_after base words) ≤ stop - 1 - base
  pub agree : Agree base (stop - 1) words (front ++ given_after base words)

pub are_given : (base stop : ℕ) (words front : List (List ℕ)) → length front ≡ base → Passed words (base + 1) stop → Ended words stop
    → AreGiven base stop words front
are_given base stop words front size passed ended =
    let same = sym (given_are_kept base stop words passed ended) in
    record {
      spelled = subst (All IsShortWord) same (kept_are_words base stop words passed);
      asked =
          subst (λ (given : List (List ℕ)). are_question (codes "query" ∷ given) ≡ true) same
          (kept_are_question base stop words passed);
      count = subst (λ (given : List (List ℕ)). length given ≤ stop - 1 - base) same (kept_count base stop words);
      agree =
          subst (λ (given : List (List ℕ)). Agree base (stop - 1) words (front ++ given)) same
          (kept_agree base stop words front size passed);
    }

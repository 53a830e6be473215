-- The first two lines of a listing, and the words of the second.
use Rattle.std.proofs.Common.{◌≡◌, ◌∙◌, ◌-◌, ◌<◌, ◌==◌, ◌++◌, ◌∷◌, [], All, List, Some, ap, append-nil, append_assoc, arith, false, length, refl, subst, suc, sym, take, ℕ}
use Rattle.std.specs.List.{flat_map, slice_get, slice_index_or}
use Rattle.std.proofs.lemmas.List.Elements.{All-append, All-cons, All-head, All-tail}
use Rattle.std.proofs.lemmas.List.Splits.{slice_split_at, slice_split_none}
use Rattle.block_report.specs.Words.{word}
use Rattle.listing_reader.specs.ReadsBack.{IsOneLine}
use Rattle.listing_reader.proofs.CutLemmas.{some_parts}
use Rattle.listing_reader.proofs.PrintedLines.{pieces_of-line}
use Rattle.query_words.specs.Events.{words_of}
use Rattle.report_reader.specs.Reports.{lines_of, pieces_of}
use Rattle.listing_laws.proofs.ShortWords.{IsShortWord}

-- ---- words

-- a word and others, each after a blank
abbrev pub spaced : List ℕ → List (List ℕ) → List ℕ
spaced first others = first ++ flat_map word others

pub words_of-spaced : (first : List ℕ) (others : List (List ℕ)) → IsShortWord first → All IsShortWord others
    → words_of (spaced first others) ≡ first ∷ others
words_of-spaced first [] spelled all = ap words_of (append-nil first) ∙ slice_split_none _ first spelled.no_blank
words_of-spaced first (second ∷ others) spelled all =
    slice_split_at _ first 32 (spaced second others) spelled.no_blank refl
    ∙ ap (λ (words : List (List ℕ)). first ∷ words) (words_of-spaced second others (All-head IsShortWord second others all)
    (All-tail IsShortWord second others all))

pub one_line-spaced : (first : List ℕ) (others : List (List ℕ)) → IsShortWord first → All IsShortWord others
    → IsOneLine (spaced first others)
one_line-spaced first [] spelled all = subst IsOneLine (sym (append-nil first)) spelled.no_newline
one_line-spaced first (second ∷ others) spelled all =
    let apart = λ (c : ℕ). (c == 10) ≡ false in
    All-append apart first _ spelled.no_newline (All-cons apart 32 _ refl
    (one_line-spaced second others (All-head IsShortWord second others all) (All-tail IsShortWord second others all)))

-- ---- the first two lines

after_two : (first second : List ℕ) (pieces : List (List ℕ)) → 0 < length pieces
    → lines_of (first ∷ second ∷ pieces) ≡ first ∷ second ∷ take (length pieces - 1) pieces
after_two first second pieces some =
    let size : length (first ∷ second ∷ pieces) - 1 ≡ suc (suc (length pieces - 1)) = omega (arith, some) in
    ap (λ (n : ℕ). take n (first ∷ second ∷ pieces)) size

lines_of-two : (first second text : List ℕ) → IsOneLine first → IsOneLine second
    → lines_of (pieces_of (first ++ 10 ∷ (second ++ 10 ∷ text))) ≡ first ∷ second ∷ take (length (pieces_of text) - 1) (pieces_of text)
lines_of-two first second text one two =
    ap lines_of (pieces_of-line first (second ++ 10 ∷ text) one ∙ ap (λ (ps : List (List ℕ)). first ∷ ps) (pieces_of-line second text two))
    ∙ after_two first second (pieces_of text) (some_parts (λ (c : ℕ). c == 10) text)

pub first_line : (first second text : List ℕ) → IsOneLine first → IsOneLine second
    → slice_index_or (lines_of (pieces_of (first ++ 10 ∷ (second ++ 10 ∷ text)))) 0 [] ≡ first
first_line first second text one two = ap (λ (lines : List (List ℕ)). slice_index_or lines 0 []) (lines_of-two first second text one two)

pub second_line : (first second text : List ℕ) → IsOneLine first → IsOneLine second
    → slice_get (lines_of (pieces_of (first ++ 10 ∷ (second ++ 10 ∷ text)))) 1 ≡ Some second
second_line first second text one two = ap (λ (lines : List (List ℕ)). slice_get lines 1) (lines_of-two first second text one two)

-- a text by its lines
pub two_before : (first second lines end : List ℕ)
    → (((first ++ 10 ∷ []) ++ (second ++ 10 ∷ [])) ++ lines) ++ end ≡ first ++ 10 ∷ (second ++ 10 ∷ (lines ++ end))
two_before first second lines end = simp append_assoc

-- Rows by the words of their lines.
use Rattle.std.proofs.Common.{◌≡◌, ◌∙◌, ◌+◌, ◌-◌, ◌<◌, ◌≤◌, ◌&&◌, ◌++◌, ◌∷◌, [], Bool, Err, IfOk, List, None, Ok, Result, ap, append-nil, arith, codes, decimal, false, length, length-append, nat_le, refl, sym, take, take_at, true, ℕ}
use Rattle.std.specs.List.{join_with_byte}
use Rattle.std.specs.Str.{bytes_eq}
use Rattle.std.proofs.lemmas.Bool.{and_from, and_left, and_parts, both_ways, cond-false, cond-true, false_from_ne_true, le-leb, leb-true, lt-leb}
use Rattle.std.proofs.lemmas.List.{get_or-append-add, get_or_at}
use Rattle.std.proofs.lemmas.List.Splits.{join_with_byte-slice_split}
use Rattle.vpc_base.proofs.Bytes.{bytes_self}
use Rattle.vpc_laws.specs.Types.{Box5}
use Rattle.query_words.specs.Events.{words_of}
use Rattle.report_reader.specs.Boxes.{box_at, box_of, word_at}
use Rattle.listing_reader.specs.declared.origins.Origin.{Origin}
use Rattle.listing_reader.specs.Cuts.{begins_with}
use Rattle.listing_reader.specs.Listings.{is_row, joined, part_of, row_of, told_in}
use Rattle.listing_reader.specs.Reading.{asked_part, row_with}
use Rattle.listing_reader.proofs.CutLemmas.{some_parts}

-- ---- lines that are no row

-- the first three words
abbrev are_named : ℕ → List ℕ → List (List ℕ) → Bool
are_named n id words = bytes_eq (word_at words 0) (codes "row") && (bytes_eq (word_at words 1) (decimal n) && bytes_eq (word_at words 2) id)

row_is_long : (n : ℕ) (id : List ℕ) (words : List (List ℕ)) → is_row n id words ≡ true → 9 ≤ length words
row_is_long n id words is = leb-true 9 (length words) (and_parts (nat_le 9 (length words)) (are_named n id words) is).0

pub no_row-name : (n : ℕ) (id : List ℕ) (words : List (List ℕ)) → begins_with (codes "row") words ≡ false → is_row n id words ≡ false
no_row-name n id words other =
    false_from_ne_true _ (λ is.
    let long : 9 ≤ length words = row_is_long n id words is in
    let named = and_parts (nat_le 9 (length words)) (are_named n id words) is in
    both_ways (begins_with (codes "row") words) other
    (and_from (nat_le 2 (length words)) (bytes_eq (word_at words 0) (codes "row")) (le-leb 2 (length words) (omega (arith, long))) (and_parts _ _ named.1).0))

second_word : (n : ℕ) (id first : List ℕ) (more : List (List ℕ)) → begins_with (decimal n) more ≡ false → is_row n id (first ∷ more) ≡ false
second_word n id first more other =
    false_from_ne_true _ (λ is.
    let long : 9 ≤ length (first ∷ more) = row_is_long n id (first ∷ more) is in
    let named = and_parts (nat_le 9 (length (first ∷ more))) (are_named n id (first ∷ more)) is in
    both_ways (begins_with (decimal n) more) other
    (and_from (nat_le 2 (length more)) (bytes_eq (word_at more 0) (decimal n)) (le-leb 2 (length more) (omega (arith, long))) (and_parts _ _ (and_parts _ _ named.1).1).0))

pub no_row-number : (n : ℕ) (id first : List ℕ) (words more : List (List ℕ)) → words ≡ first ∷ more → begins_with (decimal n) more ≡ false → is_row n id words ≡ false
no_row-number n id first words more are other = ap (is_row n id) are ∙ second_word n id first more other

third_word : (n : ℕ) (id first second : List ℕ) (more : List (List ℕ)) → begins_with id more ≡ false → is_row n id (first ∷ second ∷ more) ≡ false
third_word n id first second more other =
    false_from_ne_true _ (λ is.
    let long : 9 ≤ length (first ∷ second ∷ more) = row_is_long n id (first ∷ second ∷ more) is in
    let named = and_parts (nat_le 9 (length (first ∷ second ∷ more))) (are_named n id (first ∷ second ∷ more)) is in
    both_ways (begins_with id more) other
    (and_from (nat_le 2 (length more)) (bytes_eq (word_at more 0) id) (le-leb 2 (length more) (omega (arith, long))) (and_parts _ _ (and_parts _ _ named.1).1).1))

pub no_row-start : (n : ℕ) (id first second : List ℕ) (words more others : List (List ℕ)) → words ≡ first ∷ more → more ≡ second ∷ others → begins_with id others ≡ false → is_row n id words ≡ false
no_row-start n id first second words more others are rest other =
    ap (is_row n id) (are ∙ ap (λ (ws : List (List ℕ)). first ∷ ws) rest) ∙ third_word n id first second others other

too_short : (n : ℕ) (id a b c : List ℕ) (more : List (List ℕ)) → length more ≤ 5 → is_row n id (a ∷ b ∷ c ∷ more) ≡ false
too_short n id a b c more few = and_left (nat_le 9 (length (a ∷ b ∷ c ∷ more))) _ (lt-leb 9 (length (a ∷ b ∷ c ∷ more)) (omega (arith, few)))

pub no_row-short : (n : ℕ) (id a b c : List ℕ) (words more : List (List ℕ)) → words ≡ a ∷ b ∷ c ∷ more → length more ≤ 5 → is_row n id words ≡ false
no_row-short n id a b c words more are few = ap (is_row n id) are ∙ too_short n id a b c more few

pub row_of-no_row : (origin : Origin) (n : ℕ) (words : List (List ℕ)) → is_row n origin.id words ≡ false → row_of origin n words ≡ None
row_of-no_row origin n words not_row = cond-false _ _ _ not_row

-- ---- words joined

joined-join : (words : List (List ℕ)) → joined words ≡ join_with_byte 32 words
joined-join [] = refl
joined-join (w ∷ []) = append-nil w
joined-join (w ∷ v ∷ vs) = ap (λ (text : List ℕ). w ++ 32 ∷ text) (joined-join (v ∷ vs))

-- the words of a text, joined again
pub joined-words_of : (text : List ℕ) → joined (words_of text) ≡ text
joined-words_of text = joined-join (words_of text) ∙ join_with_byte-slice_split 32 text

-- ---- the box at the end of a line

same_box : (a b c d e a' b' c' d' e' : List ℕ) → a ≡ a' → b ≡ b' → c ≡ c' → d ≡ d' → e ≡ e' → box_of a b c d e ≡ box_of a' b' c' d' e'
same_box a b c d e a' b' c' d' e' pa pb pc pd pe =
    ap (λ (x : List ℕ). box_of x b c d e) pa
    ∙ (ap (λ (x : List ℕ). box_of a' x c d e) pb
    ∙ (ap (λ (x : List ℕ). box_of a' b' x d e) pc
    ∙ (ap (λ (x : List ℕ). box_of a' b' c' x e) pd ∙ ap (λ (x : List ℕ). box_of a' b' c' d' x) pe)))

-- the last five words
pub box_at-last : (before : List (List ℕ)) (a b c d e : List ℕ) → box_at (before ++ a ∷ b ∷ c ∷ d ∷ e ∷ []) (length before) ≡ box_of a b c d e
box_at-last before a b c d e =
    let five = a ∷ b ∷ c ∷ d ∷ e ∷ [] in
    let n = length before in
    same_box (word_at (before ++ five) n) (word_at (before ++ five) (n + 1)) (word_at (before ++ five) (n + 2)) (word_at (before ++ five) (n + 3)) (word_at (before ++ five) (n + 4)) a b c d e
    (get_or_at before a (b ∷ c ∷ d ∷ e ∷ []) [] n refl)
    (get_or-append-add before five 1 [])
    (get_or-append-add before five 2 [])
    (get_or-append-add before five 3 [])
    (get_or-append-add before five 4 [])

-- ---- a row

-- the words of a row, by the words that are told and the five of its box
abbrev line_words : ℕ → List ℕ → List (List ℕ) → List (List ℕ) → List (List ℕ)
line_words n id told five = codes "row" ∷ decimal n ∷ id ∷ (told ++ five)

is_row-words : (n : ℕ) (id : List ℕ) (told five : List (List ℕ)) → 0 < length told → length five ≡ 5 → is_row n id (line_words n id told five) ≡ true
is_row-words n id told five some are_five =
    and_from (nat_le 9 (length (line_words n id told five))) (bytes_eq (decimal n) (decimal n) && bytes_eq id id)
    (le-leb 9 (length (line_words n id told five)) (omega (arith, some, are_five, length-append told five)))
    (and_from (bytes_eq (decimal n) (decimal n)) (bytes_eq id id) (bytes_self (decimal n)) (bytes_self id))

told_in-words : (n : ℕ) (id : List ℕ) (told five : List (List ℕ)) → length five ≡ 5 → told_in (line_words n id told five) ≡ joined told
told_in-words n id told five are_five =
    let count : length (line_words n id told five) - 8 ≡ length told = omega (arith, are_five, length-append told five) in
    ap joined (ap (λ (k : ℕ). take k (told ++ five)) count ∙ take_at told five (length told) refl)

part_of-words : (boxes : List Box5) (n : ℕ) (id : List ℕ) (told : List (List ℕ)) (a b c d e : List ℕ)
    → part_of boxes (line_words n id told (a ∷ b ∷ c ∷ d ∷ e ∷ [])) ≡ asked_part boxes (box_of a b c d e)
part_of-words boxes n id told a b c d e =
    let five = a ∷ b ∷ c ∷ d ∷ e ∷ [] in
    let before = codes "row" ∷ decimal n ∷ id ∷ told in
    let words = line_words n id told five in
    let place : length words - 5 ≡ length before = omega (arith, length-append told five) in
    ap (asked_part boxes) (ap (box_at words) place ∙ box_at-last before a b c d e)

row_of-words : (origin : Origin) (n : ℕ) (told : List (List ℕ)) (a b c d e : List ℕ) → 0 < length told
    → row_of origin n (line_words n origin.id told (a ∷ b ∷ c ∷ d ∷ e ∷ [])) ≡ row_with (joined told) (asked_part origin.boxes (box_of a b c d e))
row_of-words origin n told a b c d e some =
    let five = a ∷ b ∷ c ∷ d ∷ e ∷ [] in
    let words = line_words n origin.id told five in
    cond-true _ _ _ (is_row-words n origin.id told five some refl)
    ∙ (ap (λ (text : List ℕ). row_with text (part_of origin.boxes words)) (told_in-words n origin.id told five refl)
    ∙ ap (row_with (joined told)) (part_of-words origin.boxes n origin.id told a b c d e))

-- by the text that is told
pub row_of-cut : (origin : Origin) (n : ℕ) (words : List (List ℕ)) (told a b c d e : List ℕ)
    → words ≡ codes "row" ∷ decimal n ∷ origin.id ∷ (words_of told ++ a ∷ b ∷ c ∷ d ∷ e ∷ [])
    → row_of origin n words ≡ row_with told (asked_part origin.boxes (box_of a b c d e))
row_of-cut origin n words told a b c d e are =
    ap (row_of origin n) are
    ∙ (row_of-words origin n (words_of told) a b c d e (some_parts _ told)
    ∙ ap (λ (text : List ℕ). row_with text (asked_part origin.boxes (box_of a b c d e))) (joined-words_of told))

-- as it is read
pub row_of-read : (origin : Origin) (n : ℕ) (words : List (List ℕ)) (id : List ℕ) (boxes : List Box5) (told a b c d e : List ℕ) → id ≡ origin.id → boxes ≡ origin.boxes
    → words ≡ codes "row" ∷ decimal n ∷ id ∷ (words_of told ++ a ∷ b ∷ c ∷ d ∷ e ∷ [])
    → row_of origin n words ≡ row_with told (asked_part boxes (box_of a b c d e))
row_of-read origin n words id boxes told a b c d e id_is boxes_are are =
    row_of-cut origin n words told a b c d e (are ∙ ap (λ (w : List ℕ). codes "row" ∷ decimal n ∷ w ∷ (words_of told ++ a ∷ b ∷ c ∷ d ∷ e ∷ [])) id_is)
    ∙ ap (λ (bs : List Box5). row_with told (asked_part bs (box_of a b c d e))) (sym boxes_are)

-- a result that is one value is what is equal to it
pub if_ok_as : {A E : Type 0} (a b : A) (r : Result A E) → IfOk r (λ x. x ≡ a) → b ≡ a → IfOk r (λ x. x ≡ b)
if_ok_as a b (Ok x) is same = is ∙ sym same
if_ok_as a b (Err e) is same = tt

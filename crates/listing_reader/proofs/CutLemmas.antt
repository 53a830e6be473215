-- Texts cut at their blanks.
use Rattle.std.proofs.Common.{◌≡◌, ◌≢◌, ◌∙◌, ◌+◌, ◌-◌, ◌<◌, ◌≤◌, ◌==◌, ◌++◌, ◌∷◌, [], All, Bool, List, None, Option, ap, append_assoc, arith, cond, drop, false, get_or, length, length-append, length-drop, nat_le, not, refl, subst, sym, take, take-append-drop, take_at, true, ℕ}
use Rattle.std.specs.Option.{MatchOption}
use Rattle.std.specs.Str.{bytes_eq}
use Rattle.std.specs.List.{join_with_byte, list_all, onto_first, slice_split}
use Rattle.std.proofs.lemmas.Bool.{and_from, and_parts, both_ways, false_from_ne_true, ne_eqb, not-true, not_from_false}
use Rattle.std.proofs.lemmas.List.{append_cancel_left, drop_more, get_or-drop, take_rest}
use Rattle.std.proofs.lemmas.List.Elements.{All-from_get_or}
use Rattle.std.proofs.lemmas.List.Splits.{join_with_byte-slice_split, length-slice_split, slice_split-cons_yes, slice_split_at, slice_split_none}
use Rattle.std.proofs.lemmas.List.Sums.{AllPass-from_list_all}
use Rattle.vpc_base.proofs.Bytes.{bytes_self, same_bytes}
use Rattle.query_words.specs.Events.{words_of}
use Rattle.listing_reader.specs.Cuts.{begins_with}

-- ---- parts of a list

parts_more : {X : Type 0} (b : Bool) (x : X) (parts others : List (List X)) → 0 < length parts
    → cond b ([] ∷ (parts ++ others)) (onto_first x (parts ++ others)) ≡ cond b ([] ∷ parts) (onto_first x parts) ++ others
parts_more true x parts others some = refl
parts_more false x [] others some = absurd (omega arith)
parts_more false x (part ∷ parts) others some = refl

pub some_parts : {X : Type 0} (p : X → Bool) (xs : List X) → 0 < length (slice_split p xs)
some_parts p xs = omega (arith, length-slice_split p xs)

-- the parts before a separator, and those after it
pub slice_split-separator : {X : Type 0} (p : X → Bool) (xs ys : List X) (s : X) → p s ≡ true → slice_split p (xs ++ s ∷ ys) ≡ slice_split p xs ++ slice_split p ys
slice_split-separator p [] ys s cuts = slice_split-cons_yes p s ys cuts
slice_split-separator {X = X} p (x ∷ xs) ys s cuts =
    ap (λ (parts : List (List X)). cond (p x) ([] ∷ parts) (onto_first x parts)) (slice_split-separator p xs ys s cuts)
    ∙ parts_more (p x) x (slice_split p xs) (slice_split p ys) (some_parts p xs)

first_lacks-more : {X : Type 0} (p : X → Bool) (b : Bool) (x : X) (parts : List (List X)) → p x ≡ b → list_all (λ y. not (p y)) (get_or parts 0 []) ≡ true
    → list_all (λ y. not (p y)) (get_or (cond b ([] ∷ parts) (onto_first x parts)) 0 []) ≡ true
first_lacks-more p true x parts is others = refl
first_lacks-more p false x [] is others = and_from (not (p x)) true (not_from_false (p x) is) refl
first_lacks-more p false x (part ∷ parts) is others = and_from (not (p x)) (list_all (λ y. not (p y)) part) (not_from_false (p x) is) others

-- there is no separator in the first part
first_lacks : {X : Type 0} (p : X → Bool) (xs : List X) → list_all (λ y. not (p y)) (get_or (slice_split p xs) 0 []) ≡ true
first_lacks p [] = refl
first_lacks p (x ∷ xs) = first_lacks-more p (p x) x (slice_split p xs) refl (first_lacks p xs)

-- ---- the first word

-- the text is a word without blanks, a blank and the rest
record IsAfter (text word : List ℕ) : Type 0 where
  rest : List ℕ
  is : text ≡ word ++ 32 ∷ rest
  lacks : list_all (λ c. not (c == 32)) word ≡ true

after_words : (text word : List ℕ) (words : List (List ℕ)) → join_with_byte 32 words ≡ text → list_all (λ c. not (c == 32)) (get_or words 0 []) ≡ true → begins_with word words ≡ true
    → IsAfter text word
after_words text word [] joined lacks begins = absurd (both_ways false refl begins)
after_words text word (w ∷ []) joined lacks begins = absurd (both_ways false refl begins)
after_words text word (w ∷ v ∷ vs) joined lacks begins =
    let same : w ≡ word = same_bytes w word (and_parts (nat_le 2 (length (w ∷ v ∷ vs))) (bytes_eq w word) begins).1 in
    record {
      rest = join_with_byte 32 (v ∷ vs);
      is = sym joined ∙ ap (λ (first : List ℕ). first ++ 32 ∷ join_with_byte 32 (v ∷ vs)) same;
      lacks = subst (λ (first : List ℕ). list_all (λ c. not (c == 32)) first ≡ true) same lacks;
    }

after_first : (text word : List ℕ) → begins_with word (words_of text) ≡ true → IsAfter text word
after_first text word begins = after_words text word (words_of text) (join_with_byte-slice_split 32 text) (first_lacks (λ (c : ℕ). c == 32) text) begins

no_blank_in : (word : List ℕ) → list_all (λ c. not (c == 32)) word ≡ true → All (λ c. (c == 32) ≡ false) word
no_blank_in word lacks =
    let passes = AllPass-from_list_all (λ (c : ℕ). not (c == 32)) word lacks in
    All-from_get_or (λ c. (c == 32) ≡ false) word 0 (λ i inside. not-true (get_or word i 0 == 32) (passes i 0 inside))

words_of-after : (text word after rest : List ℕ) → text ≡ word ++ after → after ≡ (32 ∷ []) ++ rest → list_all (λ c. not (c == 32)) word ≡ true
    → words_of text ≡ word ∷ words_of rest
words_of-after text word after rest is blank lacks =
    ap words_of (is ∙ ap (λ (t : List ℕ). word ++ t) blank) ∙ slice_split_at (λ (c : ℕ). c == 32) word 32 rest (no_blank_in word lacks) refl

-- what `strip_prefix` tells
stripped : (text front rest : List ℕ) → bytes_eq (take (length front) text) front ≡ true → rest ≡ drop (length front) text → text ≡ front ++ rest
stripped text front rest same is =
    sym (take-append-drop (length front) text)
    ∙ (ap (λ (t : List ℕ). t ++ drop (length front) text) (same_bytes (take (length front) text) front same) ∙ ap (λ (t : List ℕ). front ++ t) (sym is))

unlike : (text front : List ℕ) → bytes_eq (take (length front) text) front ≡ false → (rest : List ℕ) → text ≢ front ++ rest
unlike text front other rest = λ is.
    both_ways (bytes_eq (take (length front) text) front) other
    (ap (λ (t : List ℕ). bytes_eq (take (length front) t) front) is ∙ (ap (λ (t : List ℕ). bytes_eq t front) (take_at front rest (length front) refl) ∙ bytes_self front))

pub words_of-stripped : (text word after blank rest : List ℕ) → bytes_eq (take (length word) text) word ≡ true → after ≡ drop (length word) text → blank ≡ 32 ∷ []
    → bytes_eq (take (length blank) after) blank ≡ true → rest ≡ drop (length blank) after → list_all (λ c. not (c == 32)) word ≡ true
    → words_of text ≡ word ∷ words_of rest
words_of-stripped text word after blank rest begins after_is blank_is goes_on rest_is lacks =
    words_of-after text word after rest (stripped text word after begins after_is) (stripped after blank rest goes_on rest_is ∙ ap (λ (b : List ℕ). b ++ rest) blank_is) lacks

-- ---- another first word

pub not_begun-other : (text word : List ℕ) → bytes_eq (take (length word) text) word ≡ false → begins_with word (words_of text) ≡ false
not_begun-other text word other =
    false_from_ne_true _ (λ begins. let first = after_first text word begins in unlike text word other (32 ∷ first.rest) first.is)

pub not_begun-no_blank : (text word after blank : List ℕ) → bytes_eq (take (length word) text) word ≡ true → after ≡ drop (length word) text → blank ≡ 32 ∷ []
    → bytes_eq (take (length blank) after) blank ≡ false → begins_with word (words_of text) ≡ false
not_begun-no_blank text word after blank begun after_is blank_is other =
    let sign : List ℕ = 32 ∷ [] in
    let none : bytes_eq (take (length sign) after) sign ≡ false = subst (λ (b : List ℕ). bytes_eq (take (length b) after) b ≡ false) blank_is other in
    false_from_ne_true _ (λ begins.
    let first = after_first text word begins in
    unlike after sign none first.rest (append_cancel_left word after (32 ∷ first.rest) (sym (stripped text word after begun after_is) ∙ first.is)))

pub not_begun-blank_within : (text word : List ℕ) → list_all (λ c. not (c == 32)) word ≡ false → begins_with word (words_of text) ≡ false
not_begun-blank_within text word has =
    false_from_ne_true _ (λ begins. let first = after_first text word begins in both_ways _ has first.lacks)

-- ---- the last words

before_last : (text : List ℕ) (at : ℕ) → at < length text → get_or text at 0 ≡ 32 → ((k : ℕ) → at + 1 ≤ k → k < length text → get_or text k 0 ≢ 32)
    → words_of text ≡ words_of (take at text) ++ drop (at + 1) text ∷ []
before_last text at inside blank after =
    let last = drop (at + 1) text in
    let around : text ≡ take at text ++ 32 ∷ last = sym (take-append-drop at text) ∙ ap (λ (t : List ℕ). take at text ++ t) (drop_more text at 0 inside ∙ ap (λ (c : ℕ). c ∷ last) blank) in
    let none : All (λ c. (c == 32) ≡ false) last =
    All-from_get_or (λ c. (c == 32) ≡ false) last 0 (λ i h.
    ne_eqb (get_or last i 0) 32 (λ same. after (at + 1 + i) (omega arith) (omega (arith, h, length-drop (at + 1) text)) (sym (get_or-drop (at + 1) text i 0) ∙ same))) in
    ap words_of around
    ∙ (slice_split-separator (λ (c : ℕ). c == 32) (take at text) last 32 refl
    ∙ ap (λ (words : List (List ℕ)). words_of (take at text) ++ words) (slice_split_none (λ (c : ℕ). c == 32) last none))

pub words_of-last : (text : List ℕ) (at : ℕ) → at < length text → get_or text at 0 ≡ 32 → ((k : ℕ) → at + 1 ≤ k → k < length text → get_or text k 0 ≢ 32)
    → words_of text ≡ words_of (take at text) ++ take (length text - (at + 1)) (drop (at + 1) text) ∷ []
words_of-last text at inside blank after =
    before_last text at inside blank after ∙ ap (λ (last : List ℕ). words_of (take at text) ++ last ∷ []) (sym (take_rest text (at + 1)))

pub words_of-one : (text : List ℕ) → All (λ c. c ≢ 32) text → length (words_of text) ≡ 1
words_of-one text none =
    ap length (slice_split_none (λ (c : ℕ). c == 32) text (All-from_get_or (λ c. (c == 32) ≡ false) text 0 (λ i h. ne_eqb (get_or text i 0) 32 (none i 0 h))))

pub two_words : (words before others : List (List ℕ)) (first second : List ℕ) → words ≡ before ++ second ∷ [] → before ≡ others ++ first ∷ [] → words ≡ others ++ first ∷ second ∷ []
two_words words before others first second one two = one ∙ (ap (λ (w : List (List ℕ)). w ++ second ∷ []) two ∙ append_assoc others (first ∷ []) (second ∷ []))

pub two_missing : (words before : List (List ℕ)) (second : List ℕ) → words ≡ before ++ second ∷ [] → length before ≡ 1 → length words ≤ 2
two_missing words before second one few = omega (arith, ap length one, length-append before (second ∷ []), few)

regrouped : (w : List (List ℕ)) (proto src dst p q : List ℕ) → ((w ++ proto ∷ []) ++ src ∷ dst ∷ []) ++ p ∷ q ∷ [] ≡ w ++ proto ∷ src ∷ dst ∷ p ∷ q ∷ []
regrouped w proto src dst p q = simp append_assoc

pub five_words : (words ports addresses others : List (List ℕ)) (proto src dst p q : List ℕ) → words ≡ ports ++ p ∷ q ∷ [] → ports ≡ addresses ++ src ∷ dst ∷ [] → addresses ≡ others ++ proto ∷ []
    → words ≡ others ++ proto ∷ src ∷ dst ∷ p ∷ q ∷ []
five_words words ports addresses others proto src dst p q one two three =
    one ∙ (ap (λ (w : List (List ℕ)). w ++ p ∷ q ∷ []) (two ∙ ap (λ (w : List (List ℕ)). w ++ src ∷ dst ∷ []) three) ∙ regrouped others proto src dst p q)

pub ports_alone : (words ports : List (List ℕ)) (p q : List ℕ) → words ≡ ports ++ p ∷ q ∷ [] → length ports ≤ 2 → length words ≤ 5
ports_alone words ports p q one few = omega (arith, ap length one, length-append ports (p ∷ q ∷ []), few)

pub proto_missing : (words ports addresses : List (List ℕ)) (src dst p q : List ℕ) → words ≡ ports ++ p ∷ q ∷ [] → ports ≡ addresses ++ src ∷ dst ∷ [] → length addresses ≡ 1 → length words ≤ 5
proto_missing words ports addresses src dst p q one two few =
    omega (arith, ap length one, ap length two, length-append ports (p ∷ q ∷ []), length-append addresses (src ∷ dst ∷ []), few)

-- what is told of nothing
pub none_then : {A : Type 0} (P : Type 0) (Q : A → Type 0) (o : Option A) → o ≡ None → P → MatchOption o P Q
none_then {A = A} P Q o none holds = subst (λ (x : Option A). MatchOption x P Q) (sym none) holds

-- Words that are read from left to right: what was read of them, and that the same words elsewhere read alike.
use Rattle.std.proofs.Common.{◌≡◌, ◌∙◌, ◌+◌, ◌-◌, ◌<◌, ◌≤◌, Bool, Err, List, Ok, Result, ap, arith, codes, false, if◌then◌else◌, inl, inr, length, nat_lt, refl, subst, sym, true, ℕ}
use Rattle.std.specs.Str.{bytes_eq}
use Rattle.std.proofs.lemmas.Bool.{and_from, and_parts, both_ways, cases_lt, false_from_ne_true, lt-ltb, ltb-true}
use Rattle.vpc_base.proofs.Bytes.{same_bytes}
use Rattle.query_words.specs.Pairs.{has_pair, pair_or}
use Rattle.query_words.specs.Refusal.{◌>>=◌}
use Rattle.query_words.specs.Words.{word_at}
use Rattle.query_words.specs.declared.refusal.QueryRefusal.{QueryRefusal}
use Rattle.report_reader.proofs.AskedEnds.{was_taken}
use Rattle.listing_laws.proofs.ShortWords.{IsShortWord}

-- ---- what was read

-- the words from one number up to another: none; or words without blanks, of which the last but one isn't `max`
pub data Passed (words : List (List ℕ)) (from to : ℕ) : Type 0 where
  none : from ≡ to → Passed words from to
  some : from + 2 ≤ to → to ≤ length words + 1 → ((k : ℕ) → from ≤ k → k < to → IsShortWord (word_at words k))
      → bytes_eq (word_at words (to - 2)) (codes "max") ≡ false → Passed words from to

pub passed_both : (words : List (List ℕ)) (a b c : ℕ) → Passed words a b → Passed words b c → Passed words a c
passed_both words a b c (none same) second = subst (λ (n : ℕ). Passed words n c) (sym same) second
passed_both words a b c (some least most spelled last) (none same) = subst (λ (n : ℕ). Passed words a n) same (some least most spelled last)
passed_both words a b c (some least most spelled last) (some least2 most2 spelled2 last2) =
    some (omega arith) most2 (λ k from to. elim (cases_lt k b) [ inl below ↦ spelled k from below | inr past ↦ spelled2 k past to ]) last2

pub passed_order : (words : List (List ℕ)) (a b : ℕ) → Passed words a b → a ≤ b
passed_order words a b (none same) = omega arith
passed_order words a b (some least most spelled last) = omega arith

pub passed_words : (words : List (List ℕ)) (a b : ℕ) → Passed words a b → (k : ℕ) → a ≤ k → k < b → IsShortWord (word_at words k)
passed_words words a b (none same) k from to = absurd (omega (arith, same, from, to))
passed_words words a b (some least most spelled last) k from to = spelled k from to

-- ---- the same words elsewhere

-- those of two lists with these numbers are the same, and the second list ends with them
pub record Agree (base last : ℕ) (words others : List (List ℕ)) : Type 0 where
  pub count : length others ≡ last
  pub few : base < last → last ≤ length words
  pub same : (k : ℕ) → base < k → k ≤ last → word_at others k ≡ word_at words k

-- a value that is read of one word, which has no blank
pub record IsReader {A : Type 0} (read : List (List ℕ) → ℕ → Result A QueryRefusal) (P : A → Type 0) : Type 0 where
  pub spelled : (words : List (List ℕ)) (n : ℕ) (a : A) → read words n ≡ Ok a → IsShortWord (word_at words n)
  pub value : (words : List (List ℕ)) (n : ℕ) (a : A) → read words n ≡ Ok a → P a
  pub same : (words others : List (List ℕ)) (n : ℕ) → word_at others n ≡ word_at words n → read others n ≡ read words n

-- a name, which isn't `max`
pub record IsName (name : List ℕ) : Type 0 where
  pub spelled : IsShortWord name
  pub other : bytes_eq name (codes "max") ≡ false

-- ---- steps

-- a value was read of the words from a number on, and what follows it is the answer; of the same words elsewhere it is read too
pub record Took {A B : Type 0} (step : List (List ℕ) → ℕ → (A → ℕ → Result B QueryRefusal) → Result B QueryRefusal) (P : A → Type 0)
    (words : List (List ℕ)) (n : ℕ) (next : A → ℕ → Result B QueryRefusal) (b : B) : Type 0 where
  pub value : A
  pub after : ℕ
  pub fits : P value
  pub passed : Passed words n after
  pub short : after ≤ n + 2
  pub follows : next value after ≡ Ok b
  pub again : (base last : ℕ) (others : List (List ℕ)) (cont : A → ℕ → Result B QueryRefusal) (c : B) → base < n
      → Agree base last words others → after ≤ last + 1
      → cont value after ≡ Ok c → step others n cont ≡ Ok c

-- ---- a pair

taken_if : {A B T : Type 0} (h : Bool) (r : Result A QueryRefusal) (make : A → T) (absent : Result T QueryRefusal)
    (next : T → Result B QueryRefusal) → h ≡ true
    → ((if h then r >>= (λ a. Ok (make a)) else absent) >>= next) ≡ (r >>= (λ a. next (make a)))
taken_if true (Ok a) make absent next is = refl
taken_if true (Err cause) make absent next is = refl
taken_if false r make absent next is = absurd (cc)

passed_if : {A B T : Type 0} (h : Bool) (r : Result A QueryRefusal) (make : A → T) (absent : T) (next : T → Result B QueryRefusal)
    → h ≡ false
    → ((if h then r >>= (λ a. Ok (make a)) else Ok absent) >>= next) ≡ next absent
passed_if true r make absent next is = absurd (cc)
passed_if false r make absent next is = refl

-- what is read of a pair, and what follows it
abbrev pub pair_step : {A B : Type 0} → A → List ℕ → (List (List ℕ) → ℕ → Result A QueryRefusal) → List (List ℕ) → ℕ
    → (A → ℕ → Result B QueryRefusal) → Result B QueryRefusal
pair_step absent name read words n next = pair_or absent name read words n >>= (λ t. next t.value t.next)

pub pair_there : {A B : Type 0} (absent : A) (name : List ℕ) (read : List (List ℕ) → ℕ → Result A QueryRefusal) (words : List (List ℕ))
    (n : ℕ) (next : A → ℕ → Result B QueryRefusal)
    → has_pair name words n ≡ true → pair_step absent name read words n next ≡ (read words (n + 1) >>= (λ a. next a (n + 2)))
pair_there absent name read words n next is = taken_if _ _ _ _ _ is

pub pair_absent : {A B : Type 0} (absent : A) (name : List ℕ) (read : List (List ℕ) → ℕ → Result A QueryRefusal) (words : List (List ℕ))
    (n : ℕ) (next : A → ℕ → Result B QueryRefusal)
    → has_pair name words n ≡ false → pair_step absent name read words n next ≡ next absent n
pair_absent absent name read words n next is = passed_if _ _ _ _ _ is

-- the two words of a pair
two_words : (words : List (List ℕ)) (n : ℕ) (name : List ℕ) → word_at words n ≡ name → IsShortWord name
    → IsShortWord (word_at words (n + 1))
    → (k : ℕ) → n ≤ k → k < n + 2 → IsShortWord (word_at words k)
two_words words n name is spelled value k from to =
    elim (cases_lt k (n + 1)) [
      | inl below ↦ (let same : n ≡ k = omega arith in subst (λ (j : ℕ). IsShortWord (word_at words j)) same
          (subst IsShortWord (sym is) spelled))
      | inr past ↦ (let same : n + 1 ≡ k = omega arith in subst (λ (j : ℕ). IsShortWord (word_at words j)) same value)
    ]

two_before : (words : List (List ℕ)) (n : ℕ) (name : List ℕ) → word_at words n ≡ name → bytes_eq name (codes "max") ≡ false
    → bytes_eq (word_at words (n + 2 - 2)) (codes "max") ≡ false
two_before words n name is other =
    let same : n + 2 - 2 ≡ n = omega arith in
    ap (λ (k : ℕ). bytes_eq (word_at words k) (codes "max")) same ∙ (ap (λ (w : List ℕ). bytes_eq w (codes "max")) is ∙ other)

-- no pair stands where none did
still_absent : (name : List ℕ) (words others : List (List ℕ)) (base last n : ℕ) → base < n → Agree base last words others
    → has_pair name words n ≡ false → has_pair name others n ≡ false
still_absent name words others base last n over agree absent =
    false_from_ne_true _ (λ there.
    let parts = and_parts (nat_lt n (length others)) (bytes_eq (word_at others n) name) there in
    let below : n < length others = ltb-true n (length others) parts.0 in
    let count = agree.count in
    let few = agree.few (omega (arith, count, below, over)) in
    let same = agree.same n over (omega (arith, count, below)) in
    both_ways (has_pair name words n) absent
    (and_from (nat_lt n (length words)) (bytes_eq (word_at words n) name) (lt-ltb n (length words) (omega (arith, below, count, few)))
    (ap (λ (w : List ℕ). bytes_eq w name) (sym same) ∙ parts.1)))

pub pair_took : {A B : Type 0} (absent : A) (name : List ℕ) (read : List (List ℕ) → ℕ → Result A QueryRefusal) (P : A → Type 0)
    (words : List (List ℕ)) (n : ℕ) (next : A → ℕ → Result B QueryRefusal) (b : B)
    → IsName name → IsReader read P → P absent → pair_step absent name read words n next ≡ Ok b
    → Took (pair_step absent name read) P words n next b
pair_took {A = A} {B = B} absent name read P words n next b named reader fits is = by (has_pair name words n) refl
  where
    by : (h : Bool) → has_pair name words n ≡ h → Took (pair_step absent name read) P words n next b
    by true there =
        let parts = and_parts (nat_lt n (length words)) (bytes_eq (word_at words n) name) there in
        let below : n < length words = ltb-true n (length words) parts.0 in
        let name_is = same_bytes (word_at words n) name parts.1 in
        let t = was_taken (read words (n + 1)) (λ a. next a (n + 2)) b (sym (pair_there absent name read words n next there) ∙ is) in
        record {
          value = t.value;
          after = n + 2;
          fits = reader.value words (n + 1) t.value t.taken;
          passed =
              some (omega arith) (omega (arith, below)) (two_words words n name name_is named.spelled
              (reader.spelled words (n + 1) t.value t.taken)) (two_before words n name name_is named.other);
          short = omega arith;
          follows = t.follows;
          again = λ base last others cont c over agree within goes.
              let count = agree.count in
              let first = agree.same n over (omega (arith, within)) in
              let second = agree.same (n + 1) (omega (arith, over)) (omega (arith, within)) in
              let here = and_from (nat_lt n (length others)) (bytes_eq (word_at others n) name)
              (lt-ltb n (length others) (omega (arith, within, count))) (ap (λ (w : List ℕ). bytes_eq w name) first ∙ parts.1) in
              pair_there absent name read others n cont here
              ∙ (ap (λ (r : Result A QueryRefusal). r >>= (λ a. cont a (n + 2))) (reader.same words others (n + 1) second ∙ t.taken)
              ∙ goes);
        }
    by false not =
        record {
          value = absent;
          after = n;
          fits = fits;
          passed = none refl;
          short = omega arith;
          follows = sym (pair_absent absent name read words n next not) ∙ is;
          again =
              λ base last others cont c over agree within goes. pair_absent absent name read others n cont
              (still_absent name words others base last n over agree not) ∙ goes;
        }

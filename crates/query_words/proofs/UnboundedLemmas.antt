-- Queries without `max`.
use Rattle.std.proofs.Common.{◌≡◌, ◌≤◌, ◌<◌, ◌+◌, ◌-◌, ◌&&◌, ◌∙◌, Bool, Err, List, None, Ok, Option, Result, [], ap, arith, bytes_eq, codes, cond, false, length, nat_lt, refl, slice_index_or, sym, true, ℕ}
use Rattle.std.proofs.lemmas.Bool.Decides.{nat_tests}
use Rattle.std.proofs.lemmas.List.{get_or-drop, length-drop}
use Rattle.vpc_laws.specs.Types.{Description}
use Rattle.query_words.specs.Ends.{ends_of}
use Rattle.query_words.specs.Laws.{HasNoMax, WithoutMaxQueriesAreOne}
use Rattle.query_words.specs.Pairs.{has_pair, no_more, pair_or, pairs_of, ports_pair, read_most_boxes, read_ports, read_side}
use Rattle.query_words.specs.Refusal.{◌>>=◌}
use Rattle.query_words.specs.Sides.{sides_of}
use Rattle.query_words.specs.Unbounded.{unbounded_pairs_of}
use Rattle.query_words.specs.Words.{has_ports, proto_of, read_as, word_at}
use Rattle.query_words.specs.declared.ends.Ends.{Ends}
use Rattle.query_words.specs.declared.pairs.Pairs.{Pairs}
use Rattle.query_words.specs.declared.pairs.Taken.{Taken}
use Rattle.query_words.specs.declared.queries.Query.{Query}
use Rattle.query_words.specs.declared.refusal.QueryRefusal.{QueryRefusal}

-- what is read next is the same
next_same : {A B : Type 0} (r : Result A QueryRefusal) (f g : A → Result B QueryRefusal) → ((a : A) → r ≡ Ok a → f a ≡ g a) → r >>= f ≡ r >>= g
next_same (Ok a) f g same = same a refl
next_same (Err cause) f g same = refl

-- ---- the next word doesn't stand before

abbrev took : {A : Type 0} → A → ℕ → Result (Taken A) QueryRefusal
took value k = Ok (record { value = value; next = k })

from_taken : {A : Type 0} (value : A) (k n : ℕ) (t : Taken A) → n ≤ k → took value k ≡ Ok t → n ≤ t.next
from_taken {A} value k n t upto is = let same : record { value = value; next = k } ≡ t = cc in let e = ap (λ (x : Taken A). x.next) same in omega (arith, upto, e)

pair_next : {A : Type 0} (absent : A) (name : List ℕ) (read : List (List ℕ) → ℕ → Result A QueryRefusal) (words : List (List ℕ)) (n : ℕ) (t : Taken A)
    → pair_or absent name read words n ≡ Ok t → n ≤ t.next
pair_next {A} absent name read words n t is = by (has_pair name words n) is
  where
    by_read : (r : Result A QueryRefusal) → r >>= (λ a. Ok (record { value = a; next = n + 2 })) ≡ Ok t → n ≤ t.next
    by_read (Ok a) e = from_taken a (n + 2) n t (omega arith) e
    by_read (Err cause) e = absurd cc

    by : (b : Bool) → cond b (read words (n + 1) >>= (λ a. Ok (record { value = a; next = n + 2 }))) (Ok (record { value = absent; next = n })) ≡ Ok t → n ≤ t.next
    by true e = by_read (read words (n + 1)) e
    by false e = from_taken absent n n t (omega arith) e

ports_next : (proto : ℕ) (name : List ℕ) (words : List (List ℕ)) (n : ℕ) (t : Taken (ℕ × ℕ)) → ports_pair proto name words n ≡ Ok t → n ≤ t.next
ports_next proto name words n t is = by (has_ports proto) is
  where
    by : (b : Bool) → cond b (pair_or (0, 65535) name read_ports words n) (Ok (record { value = (0, 0); next = n })) ≡ Ok t → n ≤ t.next
    by true e = pair_next (0, 65535) name read_ports words n t e
    by false e = from_taken (0, 0) n n t (omega arith) e

-- ---- no pair `max`

no_max_at : (words : List (List ℕ)) (n : ℕ) → HasNoMax words → 7 ≤ n → has_pair (codes "max") words n ≡ false
no_max_at words n none from = by (nat_lt n (length words)) refl
  where
    by : (b : Bool) → nat_lt n (length words) ≡ b → (b && bytes_eq (word_at words n) (codes "max")) ≡ false
    by false e = refl
    by true e =
        let lt : n < length words = grind (arith, nat_tests) in
        let l = length-drop 6 words in
        let here = none (n - 7) [] (omega (arith, lt, from, l)) in
        let place : 6 + (n - 7) ≡ n - 1 = omega (arith, from) in
        ap (λ (w : List ℕ). bytes_eq w (codes "max")) (ap (λ (k : ℕ). slice_index_or words k []) (sym place) ∙ sym (get_or-drop 6 words (n - 7) [])) ∙ here

without : (words : List (List ℕ)) (n : ℕ) (next : Taken ℕ → Result Pairs QueryRefusal) → has_pair (codes "max") words n ≡ false
    → pair_or 20000 (codes "max") read_most_boxes words n >>= next ≡ next (record { value = 20000; next = n })
without words n next none =
    ap (λ (b : Bool). cond b (read_most_boxes words (n + 1) >>= (λ a. Ok (record { value = a; next = n + 2 }))) (Ok (record { value = 20000; next = n })) >>= next) none

-- what is left to read after the five pairs
module _ (words : List (List ℕ)) (proto : Taken ℕ) (src dst : Taken (Option (ℕ × ℕ))) (p : Taken (ℕ × ℕ)) where
  abbrev end_of : ℕ → ℕ → Taken (ℕ × ℕ) → Result Pairs QueryRefusal
  end_of max next q = no_more words next >>= (λ end. Ok (record { proto = proto.value; src = src.value; dst = dst.value; p = p.value; q = q.value; max = max }))

  abbrev after_q : Taken (ℕ × ℕ) → Result Pairs QueryRefusal
  after_q q = end_of 20000 q.next q

  abbrev max_after_q : Taken (ℕ × ℕ) → Result Pairs QueryRefusal
  max_after_q q = pair_or 20000 (codes "max") read_most_boxes words q.next >>= (λ max. end_of max.value max.next q)

  abbrev q_pair : Result (Taken (ℕ × ℕ)) QueryRefusal
  q_pair = ports_pair proto.value (codes "port") words p.next

module _ (words : List (List ℕ)) (proto : Taken ℕ) (src dst : Taken (Option (ℕ × ℕ))) where
  abbrev p_pair : Result (Taken (ℕ × ℕ)) QueryRefusal
  p_pair = ports_pair proto.value (codes "sport") words dst.next

  abbrev after_p : Taken (ℕ × ℕ) → Result Pairs QueryRefusal
  after_p p = q_pair words proto src dst p >>= after_q words proto src dst p

  abbrev max_after_p : Taken (ℕ × ℕ) → Result Pairs QueryRefusal
  max_after_p p = q_pair words proto src dst p >>= max_after_q words proto src dst p

module _ (words : List (List ℕ)) (proto : Taken ℕ) (src : Taken (Option (ℕ × ℕ))) where
  abbrev after_dst : Taken (Option (ℕ × ℕ)) → Result Pairs QueryRefusal
  after_dst dst = p_pair words proto src dst >>= after_p words proto src dst

  abbrev max_after_dst : Taken (Option (ℕ × ℕ)) → Result Pairs QueryRefusal
  max_after_dst dst = p_pair words proto src dst >>= max_after_p words proto src dst

module _ (words : List (List ℕ)) (proto : Taken ℕ) where
  abbrev after_src : Taken (Option (ℕ × ℕ)) → Result Pairs QueryRefusal
  after_src src = pair_or None (codes "dst") read_side words src.next >>= after_dst words proto src

  abbrev max_after_src : Taken (Option (ℕ × ℕ)) → Result Pairs QueryRefusal
  max_after_src src = pair_or None (codes "dst") read_side words src.next >>= max_after_dst words proto src

abbrev after_proto : List (List ℕ) → Taken ℕ → Result Pairs QueryRefusal
after_proto words proto = pair_or None (codes "src") read_side words proto.next >>= after_src words proto

abbrev max_after_proto : List (List ℕ) → Taken ℕ → Result Pairs QueryRefusal
max_after_proto words proto = pair_or None (codes "src") read_side words proto.next >>= max_after_src words proto

pairs_same : (words : List (List ℕ)) → HasNoMax words → unbounded_pairs_of words ≡ pairs_of words
pairs_same words none =
    next_same (pair_or 6 (codes "proto") (read_as proto_of) words 7) (after_proto words) (max_after_proto words) (λ proto a.
    next_same (pair_or None (codes "src") read_side words proto.next) (after_src words proto) (max_after_src words proto) (λ src b.
    next_same (pair_or None (codes "dst") read_side words src.next) (after_dst words proto src) (max_after_dst words proto src) (λ dst c.
    next_same (p_pair words proto src dst) (after_p words proto src dst) (max_after_p words proto src dst) (λ p d.
    next_same (q_pair words proto src dst p) (after_q words proto src dst p) (max_after_q words proto src dst p) (λ q e.
    let one = pair_next 6 (codes "proto") (read_as proto_of) words 7 proto a in
    let two = pair_next None (codes "src") read_side words proto.next src b in
    let three = pair_next None (codes "dst") read_side words src.next dst c in
    let four = ports_next proto.value (codes "sport") words dst.next p d in
    let five = ports_next proto.value (codes "port") words p.next q e in
    sym (without words q.next (λ max. end_of words proto src dst p max.value max.next q) (no_max_at words q.next none (omega (arith, one, two, three, four, five)))))))))

-- the query of two ends and pairs
abbrev to_query : Description → Ends → Pairs → Result Query QueryRefusal
to_query d ends pairs = sides_of d ends pairs >>= (λ sides. Ok (record { start = ends.start; goal = ends.goal; sides = sides; max = pairs.max }))

pub without_max_queries_are_one : WithoutMaxQueriesAreOne
without_max_queries_are_one d words none = next_same (ends_of d words) (λ ends. unbounded_pairs_of words >>= to_query d ends) (λ ends. pairs_of words >>= to_query d ends) (λ ends is. ap (λ (r : Result Pairs QueryRefusal). r >>= to_query d ends) (pairs_same words none))

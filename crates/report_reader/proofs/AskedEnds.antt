-- The ends of a query that its words give.
use Rattle.std.proofs.Common.{◌≡◌, ◌∙◌, Bool, Err, List, None, Ok, Option, Result, Some, ap, codes, false, if◌then◌else◌, refl, subst, sym, true, ℕ}
use Rattle.std.specs.Str.{bytes_eq}
use Rattle.vpc_laws.proofs.Numbering.{ids_are_found}
use Rattle.vpc_laws.specs.Types.{Description, End, EniNo, FarNo}
use Rattle.vpc_model.specs.declared.places.End.TheVariants as ends
use Rattle.vpc_model.specs.Far.{far_end_of_id, far_of_id, is_far_end}
use Rattle.vpc_model.specs.Lookup.{eni_no, far_at, has_interface, interface_at}
use Rattle.vpc_model.specs.Sound.{is_eni}
use Rattle.vpc_model.specs.Step.Crossing.{is_gateway}
use Rattle.query_words.specs.Ends.{end_at, end_of, end_with, ends_of, far_end_at, far_named, is_service, known, not_both, opens, some_end, start_of}
use Rattle.query_words.specs.Pairs.{pairs_of}
use Rattle.query_words.specs.Query.{query_of}
use Rattle.query_words.specs.Refusal.{◌>>=◌}
use Rattle.query_words.specs.Sides.{sides_of}
use Rattle.query_words.specs.Words.{expect_word, word_at}
use Rattle.query_words.specs.declared.queries.Query.{Query}
use Rattle.query_words.specs.declared.refusal.QueryRefusal.{QueryRefusal}
use Rattle.query_words.specs.declared.refusal.QueryRefusal.TheVariants as refusals
use Rattle.report_reader.specs.ReadsBack.{AreNamed, IsNamed}
use Rattle.report_reader.proofs.FarEnds.{far_end_there, found_far}

-- ---- what is read after a word that was taken

-- it was taken, and what follows is the answer
pub record WasTaken {A B : Type 0} (r : Result A QueryRefusal) (next : A → Result B QueryRefusal) (b : B) : Type 0 where
  pub value : A
  pub taken : r ≡ Ok value
  pub follows : next value ≡ Ok b

pub was_taken : {A B : Type 0} (r : Result A QueryRefusal) (next : A → Result B QueryRefusal) (b : B) → (r >>= next) ≡ Ok b → WasTaken r next b
was_taken (Ok a) next b is = record { value = a; taken = refl; follows = is }
was_taken (Err cause) next b is = absurd (cc)

abbrev pub taken_as : {A : Type 0} → A → Result A QueryRefusal
taken_as a = Ok a

pub ok_is : {A : Type 0} (a b : A) → taken_as a ≡ Ok b → a ≡ b
ok_is a b is = cc

-- ---- an end

host_if : (d : Description) (i : EniNo) (end : End) (cause : QueryRefusal) (b : Bool) → is_eni d i ≡ true → (let e = interface_at d i in is_gateway e.kind ≡ b)
    → (let e = interface_at d i in bytes_eq e.id (codes "internet") ≡ false) → (if b then Err cause else Ok (ends.Interface i)) ≡ Ok end → IsNamed d end
host_if d i end cause true described host other is = absurd (cc)
host_if d i end cause false described host other is =
    subst (IsNamed d) (ok_is (ends.Interface i) end is) (record { described = described; host = host; other = other })

-- an interface that has the word for its id
host_named : (d : Description) (word : List ℕ) (end : End) → bytes_eq word (codes "internet") ≡ false → has_interface d word ≡ true → end_at d (eni_no d word) ≡ Ok end → IsNamed d end
host_named d word end other has is =
    let found = (ids_are_found d).interface word has in
    let i = eni_no d word in
    let e = interface_at d i in
    host_if d i end (refusals.NotAnEnd e.id) (is_gateway e.kind) found.0 refl (subst (λ (id : List ℕ). bytes_eq id (codes "internet") ≡ false) (sym found.1) other) is

-- a network to which what has the word for its id leads
far_if : (d : Description) (word : List ℕ) (k : FarNo) (end : End) (cause : QueryRefusal) (b : Bool) → bytes_eq word (codes "internet") ≡ false → has_interface d word ≡ false
    → far_of_id d word ≡ Some k → is_far_end d (far_at d k) ≡ b → (if b then Ok (ends.Far k) else Err cause) ≡ Ok end → IsNamed d end
far_if d word k end cause false other alone found leads is = absurd (cc)
far_if d word k end cause true other alone found leads is =
    let own = sym (found_far d word k found).1 in
    subst (IsNamed d) (ok_is (ends.Far k) end is)
    (record {
      named = subst (λ (id : List ℕ). far_end_of_id d id ≡ Some k) own (far_end_there d word k found leads);
      alone = subst (λ (id : List ℕ). has_interface d id ≡ false) own alone;
      other = subst (λ (id : List ℕ). bytes_eq id (codes "internet") ≡ false) own other;
    })

-- an end that a row is
some_end_is : (end : Result End QueryRefusal) (one : End) → some_end end ≡ Ok (Some one) → end ≡ Ok one
some_end_is (Ok end) one is = cc
some_end_is (Err cause) one is = absurd (cc)

far_named-named : (d : Description) (word : List ℕ) (k : Option FarNo) (end : End) → bytes_eq word (codes "internet") ≡ false → has_interface d word ≡ false
    → far_of_id d word ≡ k → far_named d k ≡ Ok (Some end) → IsNamed d end
far_named-named d word None end other alone found is = absurd (cc)
far_named-named d word (Some k) end other alone found is =
    let far = far_at d k in
    far_if d word k end (refusals.NotAnEnd far.id) (is_far_end d far) other alone found refl (some_end_is (far_end_at d k) end is)

row_if : (d : Description) (word : List ℕ) (end : End) (b : Bool) → bytes_eq word (codes "internet") ≡ false → has_interface d word ≡ b
    → (if b then some_end (end_at d (eni_no d word)) else far_named d (far_of_id d word)) ≡ Ok (Some end) → IsNamed d end
row_if d word end true other has is = host_named d word end other has (some_end_is (end_at d (eni_no d word)) end is)
row_if d word end false other alone is = far_named-named d word (far_of_id d word) end other alone refl is

known_is : (n : ℕ) (found : Option End) (end : End) → known n found ≡ Ok end → found ≡ Some end
known_is n None end is = absurd (cc)
known_is n (Some one) end is = cc

named_if : (d : Description) (word : List ℕ) (n : ℕ) (end : End) (b : Bool) → bytes_eq word (codes "internet") ≡ b
    → (if b then Ok ends.Internet else end_with d word >>= known n) ≡ Ok end → IsNamed d end
named_if d word n end true internet is = subst (IsNamed d) (ok_is ends.Internet end is) tt
named_if d word n end false other is =
    let row = was_taken (end_with d word) (known n) end is in
    row_if d word end (has_interface d word) other refl (row.taken ∙ ap (λ (x : Option End). taken_as x) (known_is n row.value end row.follows))

named : (d : Description) (words : List (List ℕ)) (n : ℕ) (end : End) → end_of d words n ≡ Ok end → IsNamed d end
named d words n end is = let word = word_at words n in named_if d word n end (bytes_eq word (codes "internet")) refl is

-- a start of requests
record IsStart (d : Description) (end : End) : Type 0 where
  pub named : IsNamed d end
  pub opens : is_service d end ≡ false

start_if : (d : Description) (one end : End) (cause : QueryRefusal) (b : Bool) → IsNamed d one → is_service d one ≡ b → (if b then Err cause else Ok one) ≡ Ok end → IsStart d end
start_if d one end cause true named service is = absurd (cc)
start_if d one end cause false named opens is = subst (IsStart d) (ok_is one end is) (record { named = named; opens = opens })

start_is : (d : Description) (words : List (List ℕ)) (n : ℕ) (start : End) → start_of d words n ≡ Ok start → IsStart d start
start_is d words n start is =
    let end = was_taken (end_of d words n) (opens d n) start is in
    start_if d end.value start (refusals.NotAStart n) (is_service d end.value) (named d words n end.value end.taken) refl end.follows

-- ---- both

both_are : (d : Description) (start goal : End) (e : _) → not_both start goal ≡ Ok e → IsStart d start → IsNamed d goal → AreNamed d e.start e.goal
both_are d ends.Internet ends.Internet e is first second = absurd (cc)
both_are d ends.Internet (ends.Interface j) e is first second =
    subst (λ x. AreNamed d x.start x.goal) (ok_is _ e is) (record { start = first.named; opens = first.opens; goal = second; apart = refl })
both_are d ends.Internet (ends.Far k) e is first second =
    subst (λ x. AreNamed d x.start x.goal) (ok_is _ e is) (record { start = first.named; opens = first.opens; goal = second; apart = refl })
both_are d (ends.Interface i) goal e is first second =
    subst (λ x. AreNamed d x.start x.goal) (ok_is _ e is) (record { start = first.named; opens = first.opens; goal = second; apart = refl })
both_are d (ends.Far k) goal e is first second =
    subst (λ x. AreNamed d x.start x.goal) (ok_is _ e is) (record { start = first.named; opens = first.opens; goal = second; apart = refl })

ends_are : (d : Description) (words : List (List ℕ)) (e : _) → ends_of d words ≡ Ok e → AreNamed d e.start e.goal
ends_are d words e is =
    let one = was_taken (expect_word (codes "from") words 3)
    (λ from. start_of d words 4 >>= (λ start. expect_word (codes "to") words 5 >>= (λ to. end_of d words 6 >>= (λ goal. not_both start goal)))) e is in
    let two = was_taken (start_of d words 4) (λ start. expect_word (codes "to") words 5 >>= (λ to. end_of d words 6 >>= (λ goal. not_both start goal))) e one.follows in
    let three = was_taken (expect_word (codes "to") words 5) (λ to. end_of d words 6 >>= (λ goal. not_both two.value goal)) e two.follows in
    let four = was_taken (end_of d words 6) (λ goal. not_both two.value goal) e three.follows in
    both_are d two.value four.value e four.follows (start_is d words 4 two.value two.taken) (named d words 6 four.value four.taken)

-- a query is about ends that it can name, not both of them the internet
pub asked_ends_are_named : (d : Description) (words : List (List ℕ)) (query : Query) → query_of d words ≡ Ok query → AreNamed d query.start query.goal
asked_ends_are_named d words query is =
    let one = was_taken (ends_of d words)
    (λ e. pairs_of words >>= (λ pairs. sides_of d e pairs >>= (λ sides. Ok (record { start = e.start; goal = e.goal; sides = sides; max = pairs.max })))) query is in
    let two = was_taken (pairs_of words) (λ pairs. sides_of d one.value pairs >>= (λ sides. Ok (record { start = one.value.start; goal = one.value.goal; sides = sides; max = pairs.max }))) query one.follows in
    let three = was_taken (sides_of d one.value two.value) (λ sides. Ok (record { start = one.value.start; goal = one.value.goal; sides = sides; max = two.value.max })) query two.follows in
    subst (λ (q : Query). AreNamed d q.start q.goal) (ok_is _ query three.follows) (ends_are d words one.value one.taken)

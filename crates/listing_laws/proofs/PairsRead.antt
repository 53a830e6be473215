-- The pairs of a question, read with `max N` behind them or without.
use Rattle.std.proofs.Common.{◌≡◌, ◌∙◌, ◌+◌, ◌<◌, ◌≤◌, ◌^◌, ◌&&◌, ◌||◌, Bool, Err, List, None, Ok, Option, Result, Some, ap, arith, codes, false, if◌then◌else◌, is_some, length, nat_le, nat_lt, refl, subst, sym, true, ℕ}
use Rattle.std.specs.Str.{bytes_eq}
use Rattle.std.proofs.lemmas.Bool.{and_left, and_parts, cond-false, le-ltb, leb-false, leb-true, lt-leb, ltb-true}
use Rattle.prefix_text.specs.Number.{number_of}
use Rattle.query_words.specs.Pairs.{has_pair, no_more, pair_or, read_max, read_side, some_max}
use Rattle.query_words.specs.ReachQuery.{may_have_ports, ports_of, protos_of, reach_pairs_of, read_given_ports, read_given_proto}
use Rattle.query_words.specs.Refusal.{◌>>=◌}
use Rattle.query_words.specs.Words.{port_limit, has_ports, read_as, word_at}
use Rattle.query_words.specs.declared.reaches.ReachPairs.{ReachPairs}
use Rattle.query_words.specs.declared.refusal.QueryRefusal.{QueryRefusal}
use Rattle.query_words.specs.declared.refusal.QueryRefusal.TheVariants as refusals
use Rattle.vpc_model.specs.Id.{is_id}
use Rattle.report_reader.proofs.AskedEnds.{WasTaken, ok_is, was_taken}
use Rattle.listing_laws.proofs.ShortWords.{IsShortWord-id}
use Rattle.listing_laws.proofs.Readers.{FitsGivenPorts, FitsPorts, FitsProto, FitsSide, given_ports_reader, proto_reader, side_reader}
use Rattle.listing_laws.proofs.Taking.{Agree, IsName, IsReader, Passed, Took, pair_absent, pair_step, pair_there, pair_took, passed_both, passed_order}
use Rattle.listing_laws.proofs.Taking as taking

-- ---- ports

-- those of a protocol that has them
abbrev ports_step : {A B : Type 0} → Bool → A → List ℕ → (List (List ℕ) → ℕ → Result A QueryRefusal) → List (List ℕ) → ℕ
    → (A → ℕ → Result B QueryRefusal) → Result B QueryRefusal
ports_step has absent name read words n next =
    (if has then pair_or absent name read words n else Ok (record { value = absent; next = n })) >>= (λ t. next t.value t.next)

ports_took : {A B : Type 0} (has : Bool) (absent : A) (name : List ℕ) (read : List (List ℕ) → ℕ → Result A QueryRefusal) (P : A → Type 0)
    (words : List (List ℕ)) (n : ℕ) (next : A → ℕ → Result B QueryRefusal) (b : B)
    → IsName name → IsReader read P → P absent → ports_step has absent name read words n next ≡ Ok b
    → Took (ports_step has absent name read) P words n next b
ports_took true absent name read P words n next b named reader fits is = pair_took absent name read P words n next b named reader fits is
ports_took false absent name read P words n next b named reader fits is = record {
  value = absent;
  after = n;
  fits = fits;
  passed = taking.none refl;
  short = omega arith;
  follows = is;
  again = λ base last others cont c over agree within goes. goes;
}

-- ---- the last pair

-- no word is left, or `max` and its number
pub data Ended (words : List (List ℕ)) (stop : ℕ) : Type 0 where
  bare : length words < stop → Ended words stop
  counted : stop + 1 ≡ length words → bytes_eq (word_at words stop) (codes "max") ≡ true → Ended words stop

none_left : (words : List (List ℕ)) (n : ℕ) (u : Unit {0}) → no_more words n ≡ Ok u → length words < n
none_left words n u is = by (nat_le n (length words)) refl is
  where
    by : (b : Bool) → nat_le n (length words) ≡ b → (if b then Err (refusals.BadWord n) else Ok tt) ≡ Ok u → length words < n
    by true more same = absurd (cc)
    by false more same = omega (arith, leb-false n (length words) more)

max_fits : (words : List (List ℕ)) (n m : ℕ) → read_max words n ≡ Ok m → m ≤ 20000
max_fits words n m is =
    let t = was_taken (read_as (λ w. number_of w 9999999999) words n) (some_max 20000) m is in
    by t.value (nat_le 1 t.value && nat_le t.value 20000) refl t.follows
  where
    by : (k : ℕ) (b : Bool) → (nat_le 1 k && nat_le k 20000) ≡ b → (if b then Ok k else Err refusals.MaxOutOfRange) ≡ Ok m → m ≤ 20000
    by k true within same =
        let most : k ≤ 20000 = leb-true k 20000 (and_parts (nat_le 1 k) (nat_le k 20000) within).1 in
        subst (λ (j : ℕ). j ≤ 20000) (ok_is k m same) most
    by k false within same = absurd (cc)

-- what is made of the number of rows
record MaxTook {B : Type 0} (make : ℕ → B) (words : List (List ℕ)) (n : ℕ) (b : B) : Type 0 where
  value : ℕ
  few : value ≤ 20000
  is : b ≡ make value
  ended : Ended words n

abbrev max_step : {B : Type 0} → (ℕ → B) → List (List ℕ) → ℕ → Result B QueryRefusal
max_step make words n = pair_step 20000 (codes "max") read_max words n (λ max m. no_more words m >>= (λ end. Ok (make max)))

abbrev made : {B : Type 0} → (ℕ → B) → ℕ → Result B QueryRefusal
made make max = Ok (make max)

max_took : {B : Type 0} (make : ℕ → B) (words : List (List ℕ)) (n : ℕ) (b : B) → max_step make words n ≡ Ok b → MaxTook make words n b
max_took {B = B} make words n b is = by (has_pair (codes "max") words n) refl
  where
    by : (h : Bool) → has_pair (codes "max") words n ≡ h → MaxTook make words n b
    by true there =
        let parts = and_parts (nat_lt n (length words)) (bytes_eq (word_at words n) (codes "max")) there in
        let below : n < length words = ltb-true n (length words) parts.0 in
        let t = was_taken (read_max words (n + 1)) (λ max. no_more words (n + 2) >>= (λ end. made make max)) b
        (sym (pair_there 20000 (codes "max") read_max words n _ there) ∙ is) in
        let e = was_taken (no_more words (n + 2)) (λ end. made make t.value) b t.follows in
        let left = none_left words (n + 2) e.value e.taken in
        record {
          value = t.value;
          few = max_fits words (n + 1) t.value t.taken;
          is = sym (ok_is (make t.value) b e.follows);
          ended = counted (omega (arith, below, left)) parts.1;
        }
    by false not =
        let e = was_taken (no_more words n) (λ end. made make 20000) b
        (sym (pair_absent 20000 (codes "max") read_max words n _ not) ∙ is) in
        record {
          value = 20000;
          few = omega arith;
          is = sym (ok_is (make 20000) b e.follows);
          ended = bare (none_left words n e.value e.taken);
        }

max_again : {B : Type 0} (make : ℕ → B) (others : List (List ℕ)) (n : ℕ) → length others < n → max_step make others n ≡ Ok (make 20000)
max_again {B = B} make others n past =
    pair_absent 20000 (codes "max") read_max others n _ (and_left (nat_lt n (length others)) _
    (le-ltb n (length others) (omega (arith, past))))
    ∙ ap (λ (r : Result (Unit {0}) QueryRefusal). r >>= (λ end. Ok (make 20000))) (cond-false _ _ _ (lt-leb n (length others) past))

-- ---- all pairs

-- the pairs from the ports of the destinations back
abbrev pairs_with : Option ℕ → Option (ℕ × ℕ) → Option (ℕ × ℕ) → Option (ℕ × ℕ) → Option (ℕ × ℕ) → ℕ → ReachPairs
pairs_with proto src dst sport port max = record {
  proto = protos_of proto (is_some sport || is_some port);
  src = src;
  dst = dst;
  p = ports_of proto sport;
  q = ports_of proto port;
  max = max;
}

abbrev after_port : List (List ℕ) → Option ℕ → Option (ℕ × ℕ) → Option (ℕ × ℕ) → Option (ℕ × ℕ) → Option (ℕ × ℕ) → ℕ
    → Result ReachPairs QueryRefusal
after_port words proto src dst sport port n = max_step (pairs_with proto src dst sport port) words n

abbrev after_sport : List (List ℕ) → Option ℕ → Option (ℕ × ℕ) → Option (ℕ × ℕ) → Option (ℕ × ℕ) → ℕ → Result ReachPairs QueryRefusal
after_sport words proto src dst sport n =
    ports_step (may_have_ports proto) None (codes "port") read_given_ports words n (after_port words proto src dst sport)

abbrev after_dst : List (List ℕ) → Option ℕ → Option (ℕ × ℕ) → Option (ℕ × ℕ) → ℕ → Result ReachPairs QueryRefusal
after_dst words proto src dst n =
    ports_step (may_have_ports proto) None (codes "sport") read_given_ports words n (after_sport words proto src dst)

abbrev after_src : List (List ℕ) → Option ℕ → Option (ℕ × ℕ) → ℕ → Result ReachPairs QueryRefusal
after_src words proto src n = pair_step None (codes "dst") read_side words n (after_dst words proto src)

abbrev after_proto : List (List ℕ) → Option ℕ → ℕ → Result ReachPairs QueryRefusal
after_proto words proto n = pair_step None (codes "src") read_side words n (after_src words proto)

-- numbers of their fields, and not too many rows
pub record ArePairsFit (pairs : ReachPairs) : Type 0 where
  pub proto : pairs.proto.1 < 2 ^ 8
  pub src : FitsSide pairs.src
  pub dst : FitsSide pairs.dst
  pub p : FitsPorts pairs.p
  pub q : FitsPorts pairs.q
  pub max : pairs.max ≤ 20000

proto_fits : (proto : Option ℕ) (has : Bool) → FitsProto proto → (let r = protos_of proto has in r.1 < 2 ^ 8)
proto_fits None true fits = omega arith
proto_fits None false fits = omega arith
proto_fits (Some n) has fits = fits

limit_fits : (n : ℕ) → port_limit n < 2 ^ 16
limit_fits n = by (has_ports n)
  where
    by : (b : Bool) → (if b then 65535 else 0) < 2 ^ 16
    by true = omega arith
    by false = omega arith

ports_fit : (proto : Option ℕ) (ports : Option (ℕ × ℕ)) → FitsGivenPorts ports → FitsPorts (ports_of proto ports)
ports_fit None None fits = omega arith
ports_fit None (Some r) fits = fits
ports_fit (Some n) None fits = limit_fits n
ports_fit (Some n) (Some r) fits = fits

pub all_fit : (proto : Option ℕ) (src dst sport port : Option (ℕ × ℕ)) (max : ℕ) → FitsProto proto → FitsSide src → FitsSide dst
    → FitsGivenPorts sport → FitsGivenPorts port → max ≤ 20000
    → ArePairsFit (pairs_with proto src dst sport port max)
all_fit proto src dst sport port max a b c d e few = record {
  proto = proto_fits proto (is_some sport || is_some port) a;
  src = b;
  dst = c;
  p = ports_fit proto sport d;
  q = ports_fit proto port e;
  max = few;
}

pub is_named : (w : List ℕ) → is_id w ≡ true → bytes_eq w (codes "max") ≡ false → IsName w
is_named w id other = record { spelled = IsShortWord-id w id; other = other }

-- the pairs from a number on, up to `max` or the end
pub record PairsRead (words : List (List ℕ)) (n : ℕ) (pairs : ReachPairs) : Type 0 where
  pub stop : ℕ
  pub passed : Passed words n stop
  pub short : stop ≤ n + 10
  pub fits : ArePairsFit pairs
  pub ended : Ended words stop
  pub again : (base last : ℕ) (others : List (List ℕ)) → base < n → Agree base last words others → stop ≡ last + 1
      → reach_pairs_of others n ≡ Ok (record pairs { max = 20000 })

-- the last step, from the values of the others
last_read : (words : List (List ℕ)) (n stop : ℕ) (proto : Option ℕ) (src dst sport port : Option (ℕ × ℕ)) (pairs : ReachPairs)
    → Passed words n stop → stop ≤ n + 10 → FitsProto proto → FitsSide src → FitsSide dst → FitsGivenPorts sport → FitsGivenPorts port
    → after_port words proto src dst sport port stop ≡ Ok pairs
    → ((base last : ℕ) (others : List (List ℕ)) (c : ReachPairs) → base < n → Agree base last words others → stop ≡ last + 1
    → after_port others proto src dst sport port stop ≡ Ok c → reach_pairs_of others n ≡ Ok c)
    → PairsRead words n pairs
last_read words n stop proto src dst sport port pairs passed short a b c d e is again =
    let make = pairs_with proto src dst sport port in
    let max = max_took make words stop pairs is in
    record {
      stop = stop;
      passed = passed;
      short = short;
      fits = subst ArePairsFit (sym max.is) (all_fit proto src dst sport port max.value a b c d e max.few);
      ended = max.ended;
      again = λ base last others over agree stops.
          let count = agree.count in
          again base last others (make 20000) over agree stops (max_again make others stop (omega (arith, stops, count)))
          ∙ ap (λ (x : ReachPairs). Ok (record x { max = 20000 })) (sym max.is);
    }

pub pairs_read : (words : List (List ℕ)) (n : ℕ) (pairs : ReachPairs) → reach_pairs_of words n ≡ Ok pairs → PairsRead words n pairs
pairs_read words n pairs is =
    let proto = pair_took None (codes "proto") read_given_proto FitsProto words n (after_proto words) pairs
    (is_named (codes "proto") refl refl) proto_reader tt is in
    let src = pair_took None (codes "src") read_side FitsSide words proto.after (after_src words proto.value) pairs
    (is_named (codes "src") refl refl) side_reader tt proto.follows in
    let dst = pair_took None (codes "dst") read_side FitsSide words src.after (after_dst words proto.value src.value) pairs
    (is_named (codes "dst") refl refl) side_reader tt src.follows in
    let has = may_have_ports proto.value in
    let sport = ports_took has None (codes "sport") read_given_ports FitsGivenPorts words dst.after
    (after_sport words proto.value src.value dst.value) pairs (is_named (codes "sport") refl refl) given_ports_reader tt dst.follows in
    let port = ports_took has None (codes "port") read_given_ports FitsGivenPorts words sport.after
    (after_port words proto.value src.value dst.value sport.value) pairs
    (is_named (codes "port") refl refl) given_ports_reader tt sport.follows in
    let a = passed_order words n proto.after proto.passed in
    let b = passed_order words proto.after src.after src.passed in
    let c = passed_order words src.after dst.after dst.passed in
    let d = passed_order words dst.after sport.after sport.passed in
    let e = passed_order words sport.after port.after port.passed in
    last_read words n port.after proto.value src.value dst.value sport.value port.value pairs
    (passed_both words n proto.after port.after proto.passed
    (passed_both words proto.after src.after port.after src.passed
    (passed_both words src.after dst.after port.after dst.passed
    (passed_both words dst.after sport.after port.after sport.passed port.passed))))
    (omega (arith, proto.short, src.short, dst.short, sport.short, port.short))
    proto.fits src.fits dst.fits sport.fits port.fits port.follows
    (λ base last others made over agree stops goes.
    proto.again base last others (after_proto others) made over agree (omega (arith, b, c, d, e, stops))
    (src.again base last others (after_src others proto.value) made (omega (arith, a, over)) agree (omega (arith, c, d, e, stops))
    (dst.again base last others (after_dst others proto.value src.value) made (omega (arith, a, b, over)) agree
    (omega (arith, d, e, stops))
    (sport.again base last others (after_sport others proto.value src.value dst.value) made (omega (arith, a, b, c, over)) agree
    (omega (arith, e, stops))
    (port.again base last others (after_port others proto.value src.value dst.value sport.value) made
    (omega (arith, a, b, c, d, over)) agree (omega (arith, stops)) goes)))))

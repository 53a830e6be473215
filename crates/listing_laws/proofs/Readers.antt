-- What the words of pairs say: words without blanks, and numbers of their fields.
use Rattle.std.proofs.Common.{All, Bool, Err, IfSome, List, None, Ok, Option, Result, Some, [], ap, arith, bytes_eq, codes, decimal, false, if◌then◌else◌, length-append, lit<, nat_le, ne_eqb, ok_or, option_map, refl, subst, sym, true, ℕ, ◌++◌, ◌<◌, ◌==◌, ◌^◌, ◌∙◌, ◌≡◌, ◌≢◌, ◌≤◌}
use Rattle.vpc_base.proofs.Lemmas.{All-append, All-cons, All-nil, length-decimal-le, same_Some, same_bytes}
use Rattle.prefix_text.proofs.AddrLaws.{All-addr_text, length-addr_text-le}
use Rattle.prefix_text.proofs.BlockLaws.{prefix_of-Some}
use Rattle.prefix_text.proofs.NumberLaws.{All-decimal, number_of-Some, two_digits}
use Rattle.prefix_text.proofs.RangeLaws.{length-range_text-le, range_of-Some}
use Rattle.prefix_text.specs.Terms.{Block, addr_text, cidr_text, number_of, prefix_of, range_of, range_text}
use Rattle.query_words.specs.Ends.{known_end}
use Rattle.query_words.specs.Terms.{end_at, end_of, end_with, far_named, given_end, given_start, known, opens, proto_of, read_as, read_given_ports, read_given_proto, read_ports, read_side, side_of, some_end, some_ports, start_of, word_at, ◌>>=◌}
use Rattle.query_words.specs.declared.refusal.QueryRefusal.{QueryRefusal}
use Rattle.query_words.specs.declared.refusal.QueryRefusal.TheVariants as refusals
use Rattle.report_reader.proofs.AskedEnds.{ok_is, was_taken}
use Rattle.report_reader.proofs.Printed.{IsWord-decimal, IsWord-range_text}
use Rattle.listing_laws.proofs.ShortWords.{IsShortWord, IsShortWord-id, short_word}
use Rattle.vpc_laws.specs.Types.{Description, End, FarNo}
use Rattle.vpc_model.specs.Far.{far_of_id}
use Rattle.vpc_model.specs.Lookup.{eni_no, has_interface}
use Rattle.vpc_model.specs.declared.places.End.TheVariants as ends
use Rattle.listing_laws.specs.Typed.{HasTypedRows}
use Rattle.listing_laws.proofs.Taking.{IsReader}
use Rattle.listing_laws.proofs.Typing.{IsShortWord-described, IsShortWord-found}

-- ---- readers

or_refused : {A : Type 0} (o : Option A) (cause : QueryRefusal) (a : A) → ok_or o cause ≡ Ok a → o ≡ Some a
or_refused None cause a is = absurd (cc)
or_refused (Some x) cause a is = cc

pub as_reader : {A : Type 0} (grammar : List ℕ → Option A) (P : A → Type 0) → ((w : List ℕ) (a : A) → grammar w ≡ Some a → IsShortWord w)
    → ((w : List ℕ) (a : A) → grammar w ≡ Some a → P a)
    → IsReader (read_as grammar) P
as_reader grammar P spelled fits = record {
  spelled = λ words n a is. spelled (word_at words n) a (or_refused (grammar (word_at words n)) (refusals.BadWord n) a is);
  value = λ words n a is. fits (word_at words n) a (or_refused (grammar (word_at words n)) (refusals.BadWord n) a is);
  same = λ words others n same. ap (λ (w : List ℕ). ok_or (grammar w) (refusals.BadWord n)) same;
}

pub then_reader : {A B : Type 0} (read : List (List ℕ) → ℕ → Result A QueryRefusal) (P : A → Type 0) (next : ℕ → A → Result B QueryRefusal)
    (Q : B → Type 0) → IsReader read P
    → ((n : ℕ) (a : A) (b : B) → P a → next n a ≡ Ok b → Q b) → IsReader (λ words n. read words n >>= next n) Q
then_reader {A = A} read P next Q reader fits = record {
  spelled = λ words n b is. let t = was_taken (read words n) (next n) b is in reader.spelled words n t.value t.taken;
  value =
      λ words n b is. let t = was_taken (read words n) (next n) b is in fits n t.value b (reader.value words n t.value t.taken) t.follows;
  same = λ words others n same. ap (λ (r : Result A QueryRefusal). r >>= next n) (reader.same words others n same);
}

-- ---- protocols

number_word : (w : List ℕ) (most n : ℕ) → number_of w most ≡ Some n → IsShortWord w
number_word w most n is =
    let read = number_of-Some w most n is in
    let short = length-decimal-le 10 n (lit< tt) read.2 (omega (arith, read.2)) in
    subst IsShortWord (sym read.0) (short_word (decimal n) (IsWord-decimal n read.2) (omega (arith, short)))

record IsProto (w : List ℕ) (n : ℕ) : Type 0 where
  spelled : IsShortWord w
  fits : n < 2 ^ 8

proto_from : (w : List ℕ) (n : ℕ) → number_of w 255 ≡ Some n → IsProto w n
proto_from w n is = let read = number_of-Some w 255 n is in record { spelled = number_word w 255 n is; fits = omega (arith, read.1) }

named_or : (w name : List ℕ) (k n : ℕ) (other : Option ℕ) (b : Bool) → bytes_eq w name ≡ b → IsShortWord name → k < 2 ^ 8
    → (other ≡ Some n → IsProto w n) → (if b then Some k else other) ≡ Some n → IsProto w n
named_or w name k n other true there spelled fits rest is =
    record {
      spelled = subst IsShortWord (sym (same_bytes w name there)) spelled;
      fits = subst (λ (m : ℕ). m < 2 ^ 8) (same_Some k n is) fits;
    }
named_or w name k n other false there spelled fits rest is = rest is

proto_is : (w : List ℕ) (n : ℕ) → proto_of w ≡ Some n → IsProto w n
proto_is w n is =
    named_or w (codes "tcp") 6 n _ (bytes_eq w (codes "tcp")) refl (IsShortWord-id (codes "tcp") refl) (lit< tt)
    (named_or w (codes "udp") 17 n _ (bytes_eq w (codes "udp")) refl (IsShortWord-id (codes "udp") refl) (lit< tt)
    (named_or w (codes "icmp") 1 n _ (bytes_eq w (codes "icmp")) refl (IsShortWord-id (codes "icmp") refl) (lit< tt) (proto_from w n)))
    is

abbrev pub FitsProto : Option ℕ → Type 0
FitsProto proto = IfSome proto (λ n. n < 2 ^ 8)

pub proto_reader : IsReader read_given_proto FitsProto
proto_reader =
    then_reader (read_as proto_of) (λ n. n < 2 ^ 8) (λ n proto. Ok (Some proto)) FitsProto
    (as_reader proto_of (λ n. n < 2 ^ 8) (λ w n is. let p = proto_is w n is in p.spelled) (λ w n is. let p = proto_is w n is in p.fits))
    (λ n a b fits is. subst FitsProto (ok_is (Some a) b is) fits)

-- ---- addresses

cidr_word : (a n : ℕ) → a < 2 ^ 32 → n ≤ 32 → IsShortWord (cidr_text a n)
cidr_word a n fits short =
    let front = addr_text a in
    let first = length-addr_text-le a fits in
    let last = two_digits n short in
    record {
      no_blank = lacks 32 (lit< tt) (omega arith) (omega arith);
      no_newline = lacks 10 (lit< tt) (omega arith) (omega arith);
      short =
          omega (arith, length-append (front ++ codes "/") (decimal n), length-append front (codes "/"), first, last);
    }
  where
    lacks : (c : ℕ) → c < 48 → c ≢ 46 → 47 ≢ c → All (λ x. (x == c) ≡ false) (cidr_text a n)
    lacks c other no_dot differs =
        let apart = λ (x : ℕ). (x == c) ≡ false in
        let slash : All apart (codes "/") = All-cons apart 47 [] (ne_eqb 47 c differs) (All-nil apart) in
        All-append apart _ _ (All-append apart _ _ (All-addr_text a c fits other no_dot) slash)
        (All-decimal n c (omega (arith, short)) other)

abbrev pub FitsSide : Option (ℕ × ℕ) → Type 0
FitsSide side = IfSome side (λ s. s.1 < 2 ^ 32)

record IsSideText (w : List ℕ) (side : Option (ℕ × ℕ)) : Type 0 where
  spelled : IsShortWord w
  fits : FitsSide side

side_from : (w : List ℕ) (block : Option Block) (side : Option (ℕ × ℕ)) → prefix_of w ≡ block
    → option_map (λ b. Some (side_of b)) block ≡ Some side → IsSideText w side
side_from w None side read is = absurd (cc)
side_from w (Some b) side read is =
    let text = prefix_of-Some w b read in
    record {
      spelled = subst IsShortWord (sym text.0.spelled) (cidr_word text.0.addr text.0.length text.0.addr_fits text.0.short);
      fits = subst FitsSide (same_Some (Some (side_of b)) side is) text.1.fits;
    }

side_is : (w : List ℕ) (side : Option (ℕ × ℕ)) → option_map (λ b. Some (side_of b)) (prefix_of w) ≡ Some side → IsSideText w side
side_is w side is = side_from w (prefix_of w) side refl is

pub side_reader : IsReader read_side FitsSide
side_reader =
    as_reader (λ w. option_map (λ b. Some (side_of b)) (prefix_of w)) FitsSide (λ w side is. let s = side_is w side is in s.spelled)
    (λ w side is. let s = side_is w side is in s.fits)

-- ---- ports

abbrev pub FitsPorts : ℕ × ℕ → Type 0
FitsPorts r = r.1 < 2 ^ 16

abbrev pub FitsGivenPorts : Option (ℕ × ℕ) → Type 0
FitsGivenPorts ports = IfSome ports FitsPorts

range_word : (w : List ℕ) (r : ℕ × ℕ) → range_of w ≡ Some r → IsShortWord w
range_word w r is =
    let text = range_of-Some w r is in
    let short = length-range_text-le r text.1 text.2 in
    subst IsShortWord (sym text.0) (short_word (range_text r) (IsWord-range_text r text.1 text.2) (omega (arith, short)))

range_fits : (w : List ℕ) (r : ℕ × ℕ) → range_of w ≡ Some r → FitsPorts r
range_fits w r is = let text = range_of-Some w r is in text.2

some_same : (n : ℕ) (r s : ℕ × ℕ) → some_ports n r ≡ Ok s → r ≡ s
some_same n r s is = by (nat_le r.0 r.1) is
  where
    by : (b : Bool) → (if b then Ok r else Err (refusals.EmptyRange n)) ≡ Ok s → r ≡ s
    by true same = cc
    by false same = absurd (cc)

ports_reader : IsReader read_ports FitsPorts
ports_reader =
    then_reader (read_as range_of) FitsPorts some_ports FitsPorts (as_reader range_of FitsPorts range_word range_fits)
    (λ n r s fits is. subst FitsPorts (some_same n r s is) fits)

pub given_ports_reader : IsReader read_given_ports FitsGivenPorts
given_ports_reader =
    then_reader read_ports FitsPorts (λ n ports. Ok (Some ports)) FitsGivenPorts ports_reader
    (λ n a b fits is. subst FitsGivenPorts (ok_is (Some a) b is) fits)

-- ---- ends

abbrev pub IsAny : {A : Type 0} → A → Type 0
IsAny a = Unit {0}

-- an id that names an end
named_by : (d : Description) (w : List ℕ) (e : End) (c : Bool) (m : Option FarNo) → HasTypedRows d → has_interface d w ≡ c → far_of_id d w ≡ m
    → (if c then some_end (end_at d (eni_no d w)) else far_named d m) ≡ Ok (Some e) → IsShortWord w
named_by d w e true m typed there found is = IsShortWord-described d w typed.interfaces there
named_by d w e false (Some k) typed there found is = IsShortWord-found d w k typed.fars found
named_by d w e false None typed there found is = absurd (cc)

pub named_word : (d : Description) (w : List ℕ) (e : End) → HasTypedRows d → end_with d w ≡ Ok (Some e) → IsShortWord w
named_word d w e typed is = named_by d w e (has_interface d w) (far_of_id d w) typed refl refl is

known_some : (n : ℕ) (o : Option End) (e : End) → known n o ≡ Ok e → o ≡ Some e
known_some n None e is = absurd (cc)
known_some n (Some x) e is = cc

known_word : (d : Description) (w : List ℕ) (n : ℕ) (e : End) → HasTypedRows d → known_end d w n ≡ Ok e → IsShortWord w
known_word d w n e typed is =
    let t = was_taken (end_with d w) (known n) e is in
    named_word d w e typed (t.taken ∙ ap (λ (o : Option End). Ok o) (known_some n t.value e t.follows))

-- a word for the internet, or an id
pub internet_or : {A : Type 0} (w : List ℕ) (internet : A) (other : Result A QueryRefusal) (a : A) (b : Bool) → bytes_eq w (codes "internet") ≡ b
    → (other ≡ Ok a → IsShortWord w) → (if b then Ok internet else other) ≡ Ok a → IsShortWord w
internet_or w internet other a true is_word word is =
    subst IsShortWord (sym (same_bytes w (codes "internet") is_word)) (IsShortWord-id (codes "internet") refl)
internet_or w internet other a false is_word word is = word is

end_reader : (d : Description) → HasTypedRows d → IsReader (end_of d) IsAny
end_reader d typed = record {
  spelled = λ words n e is.
      let w = word_at words n in
      internet_or w ends.Internet (known_end d w n) e (bytes_eq w (codes "internet")) refl (known_word d w n e typed) is;
  value = λ words n e is. tt;
  same = λ words others n same. ap (λ (w : List ℕ). if bytes_eq w (codes "internet") then Ok ends.Internet else known_end d w n) same;
}

pub given_end_reader : (d : Description) → HasTypedRows d → IsReader (given_end d) IsAny
given_end_reader d typed = then_reader (end_of d) IsAny (λ n e. Ok (Some e)) IsAny (end_reader d typed) (λ n a b fits is. tt)

start_reader : (d : Description) → HasTypedRows d → IsReader (start_of d) IsAny
start_reader d typed = then_reader (end_of d) IsAny (opens d) IsAny (end_reader d typed) (λ n a b fits is. tt)

pub given_start_reader : (d : Description) → HasTypedRows d → IsReader (given_start d) IsAny
given_start_reader d typed = then_reader (start_of d) IsAny (λ n e. Ok (Some e)) IsAny (start_reader d typed) (λ n a b fits is. tt)

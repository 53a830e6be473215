-- The ports of a pair, and the queries about each of them.
use Rattle.std.proofs.Common.{◌≡◌, ◌≤◌, List, [], ◌↔◌, None, Option, Some, arith, false, is_some, refl, subst, true, ℕ}
use Rattle.std.proofs.lemmas.Bool.{false_from_ne_true}
use Rattle.header_boxes.proofs.Held.{holds_from_in, in_from_holds}
use Rattle.header_boxes.specs.Boxes.{holds}
use Rattle.header_boxes.specs.Rows.{IsFirst, NoneThrough}
use Rattle.header_boxes.specs.declared.boxes.Box5.{Box5}
use Rattle.network_reach.specs.Reached.{meaning_in}
use Rattle.network_reach.proofs.ReachableLemmas.{nothing-stops}
use Rattle.ordered_cover.specs.Ports.{AreOpenPorts, IsOpenPort, is_in_ranges}
use Rattle.vpc_laws.specs.Types.{Description, EniNo, Header, Verdict}
use Rattle.vpc_model.specs.Appliances.{appliances_of}
use Rattle.vpc_model.specs.Report.{ending_of}
use Rattle.vpc_model.specs.Verdict.{verdict_of}
use Rattle.vpc_model.specs.declared.outcomes.Verdict.TheVariants as verdicts
use Rattle.reach_matrix.specs.Laws.{SomeGetsThrough}
use Rattle.reach_matrix.specs.Pairs.{query_between, requests_between}
use Rattle.reach_matrix.specs.Ranges.{ArePairRanges}

-- ---- the same by other words

-- where two questions let the same headers through
pub open_by : {V W : Type 0} (one : Header → Option V) (other : Header → Option W) (sides : Box5) (ranges : List (ℕ × ℕ)) → ((h : Header) → one h ≡ None → other h ≡ None) → ((h : Header) → other h ≡ None → one h ≡ None)
    → AreOpenPorts one sides ranges → AreOpenPorts other sides ranges
open_by one other sides ranges there back are = record {
  proper = are.proper;
  ascending = are.ascending;
  hold = λ q. (
    λ e. let p = (are.hold q).0 e in record { header = p.header; inside = p.inside; port = p.port; through = there p.header p.through },
    λ p. (are.hold q).1 (record { header = p.header; inside = p.inside; port = p.port; through = back p.header p.through }),
  );
}

-- ---- other ports

-- a request to other ports
other-ports : (src dst : ℕ) (ports others : ℕ × ℕ) (h : Header) → holds h (requests_between src dst ports) ≡ true → others.0 ≤ h.q → h.q ≤ others.1 → holds h (requests_between src dst others) ≡ true
other-ports src dst ports others h held least most =
    let is = in_from_holds h (requests_between src dst ports) held in
    holds_from_in h (requests_between src dst others) (record { proto = is.proto; src = is.src; dst = is.dst; p = is.p; q = (least, most) })

port-within : (src dst : ℕ) (ports : ℕ × ℕ) (h : Header) (port : ℕ) → holds h (requests_between src dst ports) ≡ true → h.q ≡ port → (ports.0 ≤ port) × (port ≤ ports.1)
port-within src dst ports h port held is =
    let within = in_from_holds h (requests_between src dst ports) held in
    subst (λ q. (ports.0 ≤ q) × (q ≤ ports.1)) is within.q

-- ---- a port alone

-- it is one of the query about it alone
alone : {W : Type 0} (meaning : Header → Option W) (src dst : ℕ) (ports : ℕ × ℕ) (port : ℕ) → IsOpenPort meaning (requests_between src dst ports) port → IsOpenPort meaning (requests_between src dst (port, port)) port
alone meaning src dst ports port p = record {
  header = p.header;
  inside = let is = p.port in other-ports src dst ports (port, port) p.header p.inside (omega arith) (omega arith);
  port = p.port;
  through = p.through;
}

-- what gets through to it alone gets through to it among others
among : {W : Type 0} (meaning : Header → Option W) (src dst : ℕ) (ports : ℕ × ℕ) (port : ℕ) (h : Header) → ports.0 ≤ port → port ≤ ports.1 → holds h (requests_between src dst (port, port)) ≡ true → meaning h ≡ None
    → IsOpenPort meaning (requests_between src dst ports) port
among meaning src dst ports port h least most held through =
    let within = port-within src dst (port, port) h h.q held refl in
    let low = within.0 in
    let high = within.1 in
    record {
      header = h;
      inside = other-ports src dst (port, port) ports h held (omega arith) (omega arith);
      port = omega arith;
      through = through;
    }

-- ---- verdicts

ended : (d : Description) (v : Verdict) → v ≡ verdicts.Through → ending_of d v ≡ None
ended d v is = rw is refl

-- ---- the laws

pub ports_are_answered : (d : Description) (ports : ℕ × ℕ) (pair : EniNo × EniNo) (ranges : List (ℕ × ℕ)) (port : ℕ) → ArePairRanges d ports pair ranges → ports.0 ≤ port → port ≤ ports.1
    → (is_in_ranges ranges port ≡ true) ↔ SomeGetsThrough d (query_between d pair (port, port))
ports_are_answered d ports pair ranges port are least most =
    let query = query_between d pair (port, port) in
    let meaning = meaning_in d query in (
      λ e.
          let p = alone meaning query.sides.src.0 query.sides.dst.0 ports port ((are.hold port).0 e) in
          record { header = p.header; inside = p.inside; through = nothing-stops d (verdict_of d (appliances_of d) query.start query.goal p.header) p.through },
      λ some. (are.hold port).1 (among meaning query.sides.src.0 query.sides.dst.0 ports port some.header least most some.inside (ended d (verdict_of d (appliances_of d) query.start query.goal some.header) some.through)),
    )

pub ports_have_firsts : (d : Description) (ports : ℕ × ℕ) (pair : EniNo × EniNo) (ranges : List (ℕ × ℕ)) (port : ℕ) (found : Option Header) → ArePairRanges d ports pair ranges → ports.0 ≤ port → port ≤ ports.1
    → (let query = query_between d pair (port, port) in IsFirst (meaning_in d query) query.sides found) → is_in_ranges ranges port ≡ is_some found
ports_have_firsts d ports pair ranges port (Some h) are least most first =
    let query = query_between d pair (port, port) in
    (are.hold port).1 (among (meaning_in d query) query.sides.src.0 query.sides.dst.0 ports port h least most first.inside first.through)
ports_have_firsts d ports pair ranges port None are least most none =
    let query = query_between d pair (port, port) in
    false_from_ne_true (is_in_ranges ranges port) (λ e.
    let p = alone (meaning_in d query) query.sides.src.0 query.sides.dst.0 ports port ((are.hold port).0 e) in
    none p.header p.inside p.through)

pub ports_are_asked : (d : Description) (ports : ℕ × ℕ) (pair : EniNo × EniNo) (ranges : List (ℕ × ℕ)) (port : ℕ) → ArePairRanges d ports pair ranges → is_in_ranges ranges port ≡ true → (ports.0 ≤ port) × (port ≤ ports.1)
ports_are_asked d ports pair ranges port are e =
    let query = query_between d pair ports in
    let p = (are.hold port).0 e in
    port-within query.sides.src.0 query.sides.dst.0 ports p.header port p.inside p.port

no-ranges : {W : Type 0} (meaning : Header → Option W) (sides : Box5) → NoneThrough meaning sides → AreOpenPorts meaning sides []
no-ranges meaning sides none = record {
  proper = λ k x below. absurd (omega arith);
  ascending = λ i j x before below. absurd (omega arith);
  hold = λ q. (λ e. absurd cc, λ p. absurd (none p.header p.inside p.through));
}

pub blocked_pairs_are_answered : (d : Description) (ports : ℕ × ℕ) (pair : EniNo × EniNo)
    → ArePairRanges d ports pair [] ↔ (let query = query_between d pair ports in NoneThrough (meaning_in d query) query.sides)
blocked_pairs_are_answered d ports pair =
    let query = query_between d pair ports in (
      λ are h held through. let e = (are.hold h.q).1 (record { header = h; inside = held; port = refl; through = through }) in absurd cc,
      λ none. no-ranges (meaning_in d query) query.sides none,
    )

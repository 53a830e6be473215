-- The requests for which a rule may decide anything: outside them it matches neither a request nor its reply.
use Rattle.std.proofs.Common.{◌≡◌, ◌==◌, ◌∙◌, ◌≤◌, ◌&&◌, ◌⊎◌, [], Bool, Err, IfNone, IfOk, IfSome, None, Ok, Option, Result, Some, ap, arith, cond, false, inl, inr, refl, subst, sym, true, ℕ}
use Rattle.std.proofs.lemmas.Bool.{and_parts, both_ways, cond_both, eqb-true, false_from_ne_true}
use Rattle.std.proofs.lemmas.Bool.Decides.{nat_tests}
use Rattle.header_boxes.proofs.Held.{holds_from_in, in_from_holds, range_in, valid_if_within, within_itself}
use Rattle.header_boxes.specs.Terms.{AreDisjoint, IsFirst, IsValid, IsWithin, holds, low_of}
use Rattle.query_words.specs.declared.queries.Query.{Query}
use Rattle.vpc_base.proofs.Lemmas.{none-some, same_Some}
use Rattle.std.specs.declared.cmp.Ordering.{Ordering}
use Rattle.std.specs.declared.cmp.Ordering.TheVariants as orderings
use Rattle.vpc_base.specs.Header.{echo_reply, exchanged, order_of, reply_of}
use Rattle.vpc_laws.specs.Types.{Box5, Description, Header}
use Rattle.vpc_model.specs.Accepted.{IsAccepted}
use Rattle.vpc_model.specs.Filter.{is_between, matches_proto}
use Rattle.unused_rules.proofs.Ports.{HasPortsOf}
use Rattle.unused_rules.proofs.Unmatched.{unmatched_decides_nothing}
use Rattle.unused_rules.specs.Concerned.{DecidesWithin, IsFirstIn, IsFirstOf, answered_box, asked_box, filter_of, first_of, is_in_part, kept_by, matches_ports, part_before, proto_side}
use Rattle.unused_rules.specs.Needed.{DecidesNothing, IsAskedIn}
use Rattle.unused_rules.specs.declared.concerned.Concerned.{Concerned}
use Rattle.unused_rules.specs.declared.concerned.Filter.{Filter}
use Rattle.unused_rules.specs.declared.rules.RuleName.{RuleName}

-- ---- requests that are matched

abbrev LiesIn : ℕ × ℕ → ℕ → Type 0
LiesIn side x = (side.0 ≤ x) × (x ≤ side.1)

in-one : (n x : ℕ) → n ≡ x → LiesIn (n, n) x
in-one n x same = (omega arith, omega arith)

proto-in : (proto : Option ℕ) (side : ℕ × ℕ) (x : ℕ) → LiesIn side x → matches_proto proto x ≡ true → LiesIn (proto_side proto side) x
proto-in None side x held matched = held
proto-in (Some n) side x held matched = in-one n x (eqb-true n x matched)

matched-asked : (b : Box5) (f : Filter) (h : Header) → holds h b ≡ true → matches_ports f h ≡ true → holds h (asked_box b f) ≡ true
matched-asked b f h held matched =
    let i = in_from_holds h b held in
    let parts = and_parts (matches_proto f.proto h.proto) (is_between f.from f.to h.q) matched in
    holds_from_in h (asked_box b f) (record {
      proto = proto-in f.proto b.proto h.proto i.proto parts.0;
      src = i.src;
      dst = i.dst;
      p = i.p;
      q = range_in (f.from, f.to) h.q parts.1;
    })

-- ---- requests whose replies are

reply-cases : (a b : Bool) (x y r : Header) → cond a (cond b (Some x) None) (Some y) ≡ Some r → (x ≡ r) ⊎ (y ≡ r)
reply-cases true true x y r e = inl (same_Some x r e)
reply-cases true false x y r e = absurd (none-some r e)
reply-cases false b x y r e = inr (same_Some y r e)

-- the protocol of a reply, and its q: 0, or the p of what it answers
reply-ports : (k r : Header) → reply_of k ≡ Some r → (r.proto ≡ k.proto) × ((r.q ≡ 0) ⊎ (r.q ≡ k.p))
reply-ports k r e = elim (reply-cases (k.proto == 1) (k.q == 2048) (echo_reply k) (exchanged k) r e) [
  | inl same ↦ (ap (λ (j : Header). j.proto) (sym same), inl (ap (λ (j : Header). j.q) (sym same)))
  | inr same ↦ (ap (λ (j : Header). j.proto) (sym same), inr (ap (λ (j : Header). j.q) (sym same)))
]

not-zero : (from to q : ℕ) → LiesIn (from, to) q → q ≡ 0 → (from == 0) ≡ false → ⊥
not-zero from to q held nought not = let below : from ≤ q = held.0 in grind (arith, nat_tests)

moved-in : (from to q x : ℕ) → LiesIn (from, to) q → q ≡ x → LiesIn (from, to) x
moved-in from to q x held same = subst (λ (y : ℕ). LiesIn (from, to) y) same held

p-in : (from to q x : ℕ) (side : ℕ × ℕ) → LiesIn side x → LiesIn (from, to) q → (q ≡ 0) ⊎ (q ≡ x) → LiesIn (cond (from == 0) side (from, to)) x
p-in from to q x side held matched which =
    cond_both (from == 0) side (from, to) (λ (s : ℕ × ℕ). LiesIn s x) (λ _. held)
    (λ not. elim which [ inl nought ↦ absurd (not-zero from to q matched nought not) | inr same ↦ moved-in from to q x matched same ])

p-or-zero : (q k h : ℕ) → (q ≡ 0) ⊎ (q ≡ k) → k ≡ h → (q ≡ 0) ⊎ (q ≡ h)
p-or-zero q k h (inl nought) same = inl nought
p-or-zero q k h (inr own) same = inr (own ∙ same)

matched-answered : (b : Box5) (f : Filter) (h k r : Header) → holds h b ≡ true → HasPortsOf h k → reply_of k ≡ Some r → matches_ports f r ≡ true
    → holds h (answered_box b f) ≡ true
matched-answered b f h k r held has reply matched =
    let i = in_from_holds h b held in
    let parts = and_parts (matches_proto f.proto r.proto) (is_between f.from f.to r.q) matched in
    let ports = reply-ports k r reply in
    holds_from_in h (answered_box b f) (record {
      proto = proto-in f.proto b.proto h.proto i.proto (subst (λ (x : ℕ). matches_proto f.proto x ≡ true) (ports.0 ∙ has.proto) parts.0);
      src = i.src;
      dst = i.dst;
      p = p-in f.from f.to r.q h.p b.p i.p (range_in (f.from, f.to) r.q parts.1) (p-or-zero r.q k.p h.p ports.1 has.p);
      q = i.q;
    })

pub kept_of : (d : Description) (rule : RuleName) (filter o : Option Filter) → filter ≡ filter_of d rule → IfSome o (λ f. filter ≡ Some f) → d.nats ≡ []
    → IfSome o (λ f. (filter_of d rule ≡ Some f) × (d.nats ≡ []))
kept_of d rule filter None is own none = tt
kept_of d rule filter (Some f) is own none = (sym is ∙ own, none)

-- ---- outside

-- what a part of a box that lies in another one doesn't hold, the other one doesn't
not-in : (part : Option Box5) (b other : Box5) → IfSome part (λ m. (h : Header) → holds h m ≡ (holds h b && holds h other)) → IfNone part (AreDisjoint b other)
    → (h : Header) → holds h b ≡ true → is_in_part part h ≡ false → holds h other ≡ false
not-in None b other some none h held out = false_from_ne_true (holds h other) (λ too. none h held too)
not-in (Some m) b other some none h held out = ap (λ (c : Bool). c && holds h other) (sym held) ∙ (sym (some h) ∙ out)

-- what the meeting of two boxes says
pub record IsMeeting (b other : Box5) (part : Option Box5) : Type 0 where
  pub within : IfSome part (λ m. IsWithin m b)
  pub some : IfSome part (λ m. (h : Header) → holds h m ≡ (holds h b && holds h other))
  pub none : IfNone part (AreDisjoint b other)

outside : (d : Description) (rule : RuleName) (query : Query) (f : Filter) (first second : Option Box5) → IsAccepted d → d.nats ≡ [] → filter_of d rule ≡ Some f
    → IsAskedIn d query → IsMeeting query.sides (asked_box query.sides f) first → IsMeeting query.sides (answered_box query.sides f) second
    → DecidesWithin d rule query (record { asked = first; answered = second })
outside d rule query f first second accepted none is known one other = record {
  asked = one.within;
  answered = other.within;
  outside = λ h held out too.
      unmatched_decides_nothing d rule f query.start query.goal h accepted none is known.start known.goal
      (false_from_ne_true (matches_ports f h) (λ matched.
      both_ways (holds h (asked_box query.sides f)) (not-in first query.sides (asked_box query.sides f) one.some one.none h held out)
      (matched-asked query.sides f h held matched)))
      (λ k r has reply. false_from_ne_true (matches_ports f r) (λ matched.
      both_ways (holds h (answered_box query.sides f)) (not-in second query.sides (answered_box query.sides f) other.some other.none h held too)
      (matched-answered query.sides f h k r held has reply matched)));
}

-- of the network that was read
pub decides_within : (d n e : Description) (rule : RuleName) (query : Query) (f : Filter) (first second : Option Box5) (one other : Box5) → n ≡ d → e ≡ n → IsAccepted n
    → (filter_of e rule ≡ Some f) × (e.nats ≡ []) → IsAskedIn d query → one ≡ asked_box query.sides f → other ≡ answered_box query.sides f
    → IsMeeting query.sides one first → IsMeeting query.sides other second → DecidesWithin d rule query (record { asked = first; answered = second })
decides_within d n e rule query f first second one other same own accepted of known is_one is_other a b =
    let there = own ∙ same in
    outside d rule query f first second (subst (λ (x : Description). IsAccepted x) same accepted) (subst (λ (x : Description). x.nats ≡ []) there of.1)
    (subst (λ (x : Description). filter_of x rule ≡ Some f) there of.0) known (subst (λ (x : Box5). IsMeeting query.sides x first) is_one a)
    (subst (λ (x : Box5). IsMeeting query.sides x second) is_other b)

-- the whole query
pub decides_anywhere : (d : Description) (rule : RuleName) (query : Query) → IsAskedIn d query → DecidesWithin d rule query (record { asked = Some query.sides; answered = None })
decides_anywhere d rule query known = record {
  asked = within_itself query.sides known.sides;
  answered = tt;
  outside = λ h held out too. absurd (both_ways (holds h query.sides) out held);
}

-- nothing, where there are no parts
pub decides_nothing : (d : Description) (rule : RuleName) (query : Query) (parts : Concerned) → DecidesWithin d rule query parts → (parts.asked ≡ None) × (parts.answered ≡ None)
    → DecidesNothing d rule query
decides_nothing d rule query parts within empty h held =
    within.outside h held (ap (λ (o : Option Box5). is_in_part o h) empty.0) (ap (λ (o : Option Box5). is_in_part o h) empty.1)

pub valid_part : (part : Option Box5) (b : Box5) → IfSome part (λ m. IsWithin m b) → IfSome part IsValid
valid_part None b within = tt
valid_part (Some m) b within = valid_if_within m b within

pub valid_before : (part : Option Box5) (found : Option Header) → IfSome part IsValid → IfSome (part_before part found) IsValid
valid_before None found valid = tt
valid_before (Some b) None valid = valid
valid_before (Some b) (Some h) valid = by (order_of (low_of b) h)
  where
    by : (o : Ordering) → IfSome (kept_by o b) IsValid
    by orderings.Less = valid
    by orderings.Equal = tt
    by orderings.Greater = tt

-- ---- the search of a part

pub first_in_none : {W : Type 0} (meaning : Header → Option W) (part : Option Box5) → part ≡ None → IsFirstIn meaning part None
first_in_none meaning None is = refl
first_in_none meaning (Some b) is = absurd (cc)

pub first_in_some : {E W : Type 0} (meaning : Header → Option W) (part : Option Box5) (b : Box5) (r : Result (Option Header) E) → part ≡ Some b → IfOk r (IsFirst meaning b)
    → IfOk r (IsFirstIn meaning part)
first_in_some meaning part b (Ok found) is first = subst (λ (o : Option Box5). IsFirstIn meaning o found) (sym is) first
first_in_some meaning part b (Err no_memory) is first = tt

-- of both parts
pub first_of_two : {W : Type 0} (meaning : Header → Option W) (parts : Concerned) (rest : Option Box5) (one other found : Option Header) → rest ≡ part_before parts.answered one
    → IsFirstIn meaning parts.asked one → IsFirstIn meaning rest other → found ≡ first_of one other → IsFirstOf meaning parts found
first_of_two meaning parts rest one other found left first second is =
    record { asked = one; answered = other; is_asked = first; is_answered = subst (λ (o : Option Box5). IsFirstIn meaning o other) left second; found_is = is }

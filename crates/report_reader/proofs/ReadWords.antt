-- The words of a printed report read as what they were.
use Rattle.std.proofs.Common.{◌≡◌, ◌∙◌, ◌≤◌, ◌<◌, ◌^◌, ◌==◌, ◌++◌, ◌∷◌, [], List, Option, Some, ap, append_assoc, arith, le-leb, lit<, nat_le, refl, true, if◌then◌else◌, None, ℕ}
use Rattle.std.specs.List.{after_first, before_first}
use Rattle.std.specs.Option.{option_zip}
use Rattle.std.proofs.lemmas.Bool.{and_from, cond-true}
use Rattle.header_boxes.specs.Boxes.{IsRangeWithin, IsValid, IsWithin}
use Rattle.prefix_text.proofs.AddrLaws.{All-addr_text, addr_of-addr_text}
use Rattle.prefix_text.proofs.PartLemmas.{after_first-separator, before_first-separator}
use Rattle.prefix_text.proofs.RangeLaws.{range_of-range_text}
use Rattle.prefix_text.specs.Addr.{addr_of, addr_text}
use Rattle.prefix_text.specs.Range.{range_text}
use Rattle.vpc_laws.specs.Types.{Box5, Phase, StopName, StopText}
use Rattle.vpc_model.specs.declared.outcomes.Phase.TheVariants as phases
use Rattle.vpc_model.specs.Id.{is_id}
use Rattle.block_report.specs.Reports.{addresses_text}
use Rattle.vpc_model.specs.Names.{name_spelled, name_text}
use Rattle.vpc_model.proofs.Names.{name_spelled-name_text}
use Rattle.block_report.specs.Walks.{phase_text}
use Rattle.report_reader.specs.Boxes.{◌>>=◌, addresses_of, box_of, is_inside, lies_in, ports_of, protos_of, range_between}
use Rattle.report_reader.specs.ReadsBack.{Fits}
use Rattle.report_reader.specs.Stops.{id_of, phase_of, told_of}

-- ---- ranges

range_between-valid : (r : ℕ × ℕ) → r.0 ≤ r.1 → range_between r ≡ Some r
range_between-valid r valid = cond-true _ _ _ (le-leb r.0 r.1 valid)

ports_of-range_text : (r : ℕ × ℕ) → r.0 ≤ r.1 → r.1 < 2 ^ 16 → ports_of (range_text r) ≡ Some r
ports_of-range_text r valid fits =
    ap (λ (o : Option (ℕ × ℕ)). o >>= range_between) (range_of-range_text r (omega (arith, valid, fits)) fits) ∙ range_between-valid r valid

abbrev up_to_byte : ℕ × ℕ → Option (ℕ × ℕ)
up_to_byte r = if nat_le r.1 255 then Some r else None

protos_of-range_text : (r : ℕ × ℕ) → r.0 ≤ r.1 → r.1 < 2 ^ 8 → protos_of (range_text r) ≡ Some r
protos_of-range_text r valid fits =
    ap (λ (o : Option (ℕ × ℕ)). o >>= up_to_byte) (ports_of-range_text r valid (omega (arith, fits))) ∙ cond-true _ _ _ (le-leb r.1 255 (omega (arith, fits)))

addresses_of-addresses_text : (r : ℕ × ℕ) → r.0 ≤ r.1 → r.1 < 2 ^ 32 → addresses_of (addresses_text r) ≡ Some r
addresses_of-addresses_text r valid fits =
    let first : r.0 < 2 ^ 32 = omega (arith, valid, fits) in
    let apart = All-addr_text r.0 45 first (lit< tt) (omega arith) in
    let text : addresses_text r ≡ addr_text r.0 ++ 45 ∷ addr_text r.1 = append_assoc (addr_text r.0) (45 ∷ []) (addr_text r.1) in
    let read : option_zip (addr_of (before_first (λ c. c == 45) (addresses_text r))) (addr_of (after_first (λ c. c == 45) (addresses_text r))) ≡ Some r =
    rw (text, before_first-separator 45 (addr_text r.0) (addr_text r.1) apart, after_first-separator 45 (addr_text r.0) (addr_text r.1) apart, addr_of-addr_text r.0 first, addr_of-addr_text r.1 fits) refl in
    ap (λ (o : Option (ℕ × ℕ)). o >>= range_between) read ∙ range_between-valid r valid

-- ---- boxes

-- a box of five ranges that were read
abbrev box_read : Option (ℕ × ℕ) → Option (ℕ × ℕ) → Option (ℕ × ℕ) → Option (ℕ × ℕ) → Option (ℕ × ℕ) → Option Box5
box_read proto src dst p q = do
  proto ← proto
  src ← src
  dst ← dst
  p ← p
  q ← q
  Some (record { proto = proto; src = src; dst = dst; p = p; q = q })

box_from : (proto src dst p q : Option (ℕ × ℕ)) (b : Box5) → proto ≡ Some b.proto → src ≡ Some b.src → dst ≡ Some b.dst → p ≡ Some b.p → q ≡ Some b.q
    → box_read proto src dst p q ≡ Some b
box_from proto src dst p q b a_is b_is c_is d_is e_is = rw (a_is, b_is, c_is, d_is, e_is) refl

pub box_of-texts : (b : Box5) → IsValid b → Fits b
    → box_of (range_text b.proto) (addresses_text b.src) (addresses_text b.dst) (range_text b.p) (range_text b.q) ≡ Some b
box_of-texts b valid fits =
    let proto = protos_of-range_text b.proto valid.proto fits.proto in
    let src = addresses_of-addresses_text b.src valid.src fits.src in
    let dst = addresses_of-addresses_text b.dst valid.dst fits.dst in
    let p = ports_of-range_text b.p valid.p fits.p in
    let q = ports_of-range_text b.q valid.q fits.q in
    box_from (protos_of (range_text b.proto)) (addresses_of (addresses_text b.src)) (addresses_of (addresses_text b.dst)) (ports_of (range_text b.p)) (ports_of (range_text b.q)) b proto src dst p q

lies_in-within : (part whole : ℕ × ℕ) → IsRangeWithin part whole → lies_in part whole ≡ true
lies_in-within part whole h = and_from _ _ (le-leb whole.0 part.0 h.begins) (le-leb part.1 whole.1 h.ends)

pub is_inside-within : (part whole : Box5) → IsWithin part whole → is_inside part whole ≡ true
is_inside-within part whole h =
    and_from _ _ (lies_in-within _ _ h.proto)
    (and_from _ _ (lies_in-within _ _ h.src) (and_from _ _ (lies_in-within _ _ h.dst) (and_from _ _ (lies_in-within _ _ h.p) (lies_in-within _ _ h.q))))

-- a part fits where the whole does
pub fits-within : (part whole : Box5) → IsWithin part whole → Fits whole → Fits part
fits-within part whole h fits = record {
  proto = omega (arith, h.proto.ends, fits.proto);
  src = omega (arith, h.src.ends, fits.src);
  dst = omega (arith, h.dst.ends, fits.dst);
  p = omega (arith, h.p.ends, fits.p);
  q = omega (arith, h.q.ends, fits.q);
}

-- ---- stops

phase_of-phase_text : (phase : Phase) → phase_of (phase_text phase) ≡ Some phase
phase_of-phase_text phases.Request = refl
phase_of-phase_text phases.Reply = refl

id_of-id : (id : List ℕ) → is_id id ≡ true → id_of id ≡ Some id
id_of-id id is = cond-true _ _ _ is

abbrev ids_read : Option (List ℕ) → Option (List ℕ) → Option (List ℕ × List ℕ)
ids_read id rule = do
  id ← id
  rule ← rule
  Some (id, rule)

-- what is told by four words that were read
abbrev told_read : Option Phase → Option StopName → Option (List ℕ) → Option (List ℕ) → Option StopText
told_read phase name id rule = do
  phase ← phase
  name ← name
  ids ← ids_read id rule
  Some (record { phase = phase; name = name; id = ids.0; rule = ids.1 })

told_from : (phase : Option Phase) (name : Option StopName) (id rule : Option (List ℕ)) (t : StopText) → phase ≡ Some t.phase → name ≡ Some t.name → id ≡ Some t.id → rule ≡ Some t.rule
    → told_read phase name id rule ≡ Some t
told_from phase name id rule t a_is b_is c_is d_is = rw (a_is, b_is, c_is, d_is) refl

pub told_of-texts : (t : StopText) → is_id t.id ≡ true → is_id t.rule ≡ true → told_of (phase_text t.phase) (name_text t.name) t.id t.rule ≡ Some t
told_of-texts t id rule =
    told_from (phase_of (phase_text t.phase)) (name_spelled (name_text t.name)) (id_of t.id) (id_of t.rule) t
    (phase_of-phase_text t.phase) (name_spelled-name_text t.name) (id_of-id t.id id) (id_of-id t.rule rule)

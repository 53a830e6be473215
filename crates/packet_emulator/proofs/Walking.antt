-- A walk by its next place.
use Rattle.std.proofs.Common.{◌≡◌, ◌∙◌, ◌++◌, ◌-◌, ◌∷◌, [], List, ap, arith, false, refl, subst, suc, sym, true, zero, ℕ}
use Rattle.packet_emulator.specs.Moments.{at_place}
use Rattle.vpc_laws.proofs.Sounding.{steps_are_sound}
use Rattle.vpc_laws.specs.Sound.{LeadsWell}
use Rattle.vpc_laws.specs.Types.{By, Description, Header, Hop, Label, Place}
use Rattle.vpc_model.specs.Accepted.{IsAccepted}
use Rattle.vpc_model.specs.Appliances.{Appliances}
use Rattle.vpc_model.specs.Connections.{Connection}
use Rattle.vpc_model.specs.Nat.{Translation}
use Rattle.vpc_model.specs.Sound.{is_sound}
use Rattle.vpc_model.specs.Step.{step_of}
use Rattle.vpc_model.specs.Step.Words.{Next, Step, go}
use Rattle.vpc_model.specs.Walk.{ended, is_visited, walk_of, walk_on}
use Rattle.vpc_model.specs.declared.outcomes.Outcome.TheVariants as outcomes
use Rattle.vpc_model.specs.declared.stops.Stop.TheVariants as stops

-- a place that was visited
pub walk_on-loop : (d : Description) (a : Appliances) (label : Label) (left : ℕ) (hops : List Hop) (h k : Header) (p : Place) (conns : List Connection) (nats : List Translation)
    → is_visited hops p ≡ true → walk_on d a label left hops h (go p k) conns nats ≡ ended hops (outcomes.Stopped (stops.Loop p)) conns nats
walk_on-loop d a label zero hops h k p conns nats visited = rw visited refl
walk_on-loop d a label (suc n) hops h k p conns nats visited = rw visited refl

-- a place too many
pub walk_on-too_far : (d : Description) (a : Appliances) (label : Label) (hops : List Hop) (h k : Header) (p : Place) (conns : List Connection) (nats : List Translation)
    → is_visited hops p ≡ false → walk_on d a label 0 hops h (go p k) conns nats ≡ ended hops (outcomes.Stopped (stops.TooFar p)) conns nats
walk_on-too_far d a label hops h k p conns nats new = rw new refl

after-step : (d : Description) (a : Appliances) (label : Label) (n : ℕ) (hops : List Hop) (h k : Header) (p : Place) (conns : List Connection) (nats : List Translation) (s : Step)
    → is_visited hops p ≡ false → step_of d a label (at_place p k conns nats) ≡ s
    → walk_on d a label (suc n) hops h (go p k) conns nats ≡ walk_on d a label n (hops ++ record { place = p; header = k; by = s.by } ∷ []) k s.next s.conns s.nats
after-step d a label n hops h k p conns nats s new is = rw new (ap (λ (x : Step). walk_on d a label n (hops ++ record { place = p; header = k; by = x.by } ∷ []) k x.next x.conns x.nats) is)

-- a new place
pub walk_on-step : (d : Description) (a : Appliances) (label : Label) (left n : ℕ) (hops longer : List Hop) (h k : Header) (p : Place) (conns conns2 : List Connection) (nats nats2 : List Translation) (by : By) (after : Next)
    → left ≡ suc n → is_visited hops p ≡ false
    → (let s = step_of d a label (at_place p k conns nats) in after ≡ s.next) → (let s = step_of d a label (at_place p k conns nats) in by ≡ s.by)
    → (let s = step_of d a label (at_place p k conns nats) in conns2 ≡ s.conns) → (let s = step_of d a label (at_place p k conns nats) in nats2 ≡ s.nats)
    → longer ≡ hops ++ record { place = p; header = k; by = by } ∷ []
    → walk_on d a label n longer k after conns2 nats2 ≡ walk_on d a label left hops h (go p k) conns nats
walk_on-step d a label left n hops longer h k p conns conns2 nats nats2 by after is new next_is by_is conns_is nats_is longer_is =
    let s = step_of d a label (at_place p k conns nats) in
    let step = after-step d a label n hops h k p conns nats s new refl in
    ap (λ (xs : List Hop). walk_on d a label n xs k after conns2 nats2) (longer_is ∙ ap (λ (b : By). hops ++ record { place = p; header = k; by = b } ∷ []) by_is)
    ∙ ap (λ (y : Next). walk_on d a label n (hops ++ record { place = p; header = k; by = s.by } ∷ []) k y conns2 nats2) next_is
    ∙ ap (λ (c : List Connection). walk_on d a label n (hops ++ record { place = p; header = k; by = s.by } ∷ []) k s.next c nats2) conns_is
    ∙ ap (λ (t : List Translation). walk_on d a label n (hops ++ record { place = p; header = k; by = s.by } ∷ []) k s.next s.conns t) nats_is
    ∙ sym step
    ∙ ap (λ (m : ℕ). walk_on d a label m hops h (go p k) conns nats) (sym is)

-- the walk goes on from the next place
pub walk_on-next : (d : Description) (a : Appliances) (label : Label) (left : ℕ) (hops longer : List Hop) (h k : Header) (p : Place) (next after : Next) (conns conns2 : List Connection) (nats nats2 : List Translation) (by : By)
    → (left ≡ 0 → ⊥) → is_visited hops p ≡ false → next ≡ go p k
    → (let s = step_of d a label (at_place p k conns nats) in after ≡ s.next) → (let s = step_of d a label (at_place p k conns nats) in by ≡ s.by)
    → (let s = step_of d a label (at_place p k conns nats) in conns2 ≡ s.conns) → (let s = step_of d a label (at_place p k conns nats) in nats2 ≡ s.nats)
    → longer ≡ hops ++ record { place = p; header = k; by = by } ∷ []
    → walk_on d a label (left - 1) longer k after conns2 nats2 ≡ walk_on d a label left hops h next conns nats
walk_on-next d a label left hops longer h k p next after conns conns2 nats nats2 by some new is next_is by_is conns_is nats_is longer_is =
    walk_on-step d a label left (left - 1) hops longer h k p conns conns2 nats nats2 by after (pred left some) new next_is by_is conns_is nats_is longer_is
    ∙ ap (λ (y : Next). walk_on d a label left hops h y conns nats) (sym is)
  where
    pred : (n : ℕ) → (n ≡ 0 → ⊥) → n ≡ suc (n - 1)
    pred zero nonzero = absurd (nonzero refl)
    pred (suc n) nonzero = omega arith

-- a walk by its first place
pub walk_of-first : (d : Description) (a : Appliances) (label : Label) (h : Header) (p : Place) (before hops : List Hop) (after : Next) (conns conns2 : List Connection) (nats nats2 : List Translation) (by : By)
    → before ≡ []
    → (let s = step_of d a label (at_place p h conns nats) in after ≡ s.next) → (let s = step_of d a label (at_place p h conns nats) in by ≡ s.by)
    → (let s = step_of d a label (at_place p h conns nats) in conns2 ≡ s.conns) → (let s = step_of d a label (at_place p h conns nats) in nats2 ≡ s.nats)
    → hops ≡ before ++ record { place = p; header = h; by = by } ∷ []
    → walk_on d a label 63 hops h after conns2 nats2 ≡ walk_of d a label (at_place p h conns nats)
walk_of-first d a label h p before hops after conns conns2 nats nats2 by empty next_is by_is conns_is nats_is hops_are =
    let s = step_of d a label (at_place p h conns nats) in
    ap (λ (xs : List Hop). walk_on d a label 63 xs h after conns2 nats2)
    (hops_are ∙ ap (λ (xs : List Hop). xs ++ record { place = p; header = h; by = by } ∷ []) empty ∙ ap (λ (b : By). record { place = p; header = h; by = b } ∷ []) by_is)
    ∙ ap (λ (y : Next). walk_on d a label 63 (record { place = p; header = h; by = s.by } ∷ []) h y conns2 nats2) next_is
    ∙ ap (λ (c : List Connection). walk_on d a label 63 (record { place = p; header = h; by = s.by } ∷ []) h s.next c nats2) conns_is
    ∙ ap (λ (t : List Translation). walk_on d a label 63 (record { place = p; header = h; by = s.by } ∷ []) h s.next s.conns t) nats_is

-- a step from where the packet goes leads well
pub leads-on : (d n : Description) (a : Appliances) (label : Label) (k : Header) (p : Place) (next after : Next) (conns : List Connection) (nats : List Translation) → n ≡ d → IsAccepted n → LeadsWell d next → next ≡ go p k
    → (let s = step_of d a label (at_place p k conns nats) in after ≡ s.next) → LeadsWell d after
leads-on d n a label k p next after conns nats same accepted well is next_is =
    let sound : is_sound d p ≡ true = subst (λ (x : Next). LeadsWell d x) is well in
    subst (λ (x : Next). LeadsWell d x) (sym next_is) (steps_are_sound d a label (at_place p k conns nats) (subst IsAccepted same accepted) sound).0

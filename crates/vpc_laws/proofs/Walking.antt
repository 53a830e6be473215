-- Walks: what each of their steps keeps, they keep.
use Rattle.std.proofs.Common.{Contains, List, Some, [], add-one, ap, append_assoc, arith, false, inl, inr, length, length-append, refl, subst, suc, sym, true, zero, ℕ, ◌++◌, ◌+◌, ◌<◌, ◌^◌, ◌||◌, ◌∙◌, ◌∷◌, ◌≡◌, ◌≤◌, ◌⊎◌}
use Rattle.std.specs.List.{list_any, IsDistinct}
use Rattle.vpc_base.proofs.Lemmas.{Contains-append_left, Contains-push, Contains-push_cases, cond_both}
use Rattle.vpc_base.specs.declared.headers.Label.TheVariants.{Opening, Answer}
use Rattle.vpc_model.specs.declared.outcomes.Outcome.TheVariants.{Stopped}
use Rattle.vpc_model.specs.declared.places.Place.TheVariants.{NatOut}
use Rattle.vpc_model.specs.declared.stops.Stop.TheVariants.{Loop, TooFar}
use Rattle.vpc_laws.specs.Types.{Description, Header, Hop, Label, Place}
use Rattle.vpc_laws.specs.Terms.{AddsOwn, AddsTranslation, Begins, IsBook, own_connection, places_of}
use Rattle.vpc_model.specs.Terms.{Appliances, Connection, Moment, Next, Translation, Walk, arrive, ended, go, is_visited, same_place, step_of, stop, walk_of, walk_on}
use Rattle.vpc_laws.proofs.Books.{IsDistinct-push_new, step_keeps_book}
use Rattle.vpc_laws.proofs.Flow.{Flows, step_at-flow}
use Rattle.vpc_laws.proofs.Growth.{answer_adds_nothing, step_adds_own, step_adds_translation, step_keeps}

-- ---- the step of a walk

abbrev pub moment : Place → Header → List Connection → List Translation → Moment
moment p k conns nats = record { place = p; header = k; conns = conns; nats = nats }

abbrev pub hop_at : Description → Appliances → Label → Moment → Hop
hop_at d appliances label m = let s = step_of d appliances label m in record { place = m.place; header = m.header; by = s.by }

-- what holds with the hops so far, by what comes next, also holds after each step to a new place
abbrev pub IsKept : Description → Appliances → Label → (Next → List Hop → List Connection → List Translation → Type 0) → Type 0
IsKept d appliances label Good = (hops : List Hop) (m : Moment) → is_visited hops m.place ≡ false → Good (go m.place m.header) hops m.conns m.nats
    → let s = step_of d appliances label m in Good s.next (hops ++ hop_at d appliances label m ∷ []) s.conns s.nats

-- so it holds at the end, by what came next there
pub walk_on-keeps : (d : Description) (appliances : Appliances) (label : Label) (Good : Next → List Hop → List Connection → List Translation → Type 0) → IsKept d appliances label Good
    → (n : ℕ) (hops : List Hop) (h : Header) (x : Next) (conns : List Connection) (nats : List Translation) → Good x hops conns nats
    → let w = walk_on d appliances label n hops h x conns nats in (y : Next) × Good y w.hops w.conns w.nats
walk_on-keeps d appliances label Good keep n hops h (arrive end) conns nats good = (arrive end, good)
walk_on-keeps d appliances label Good keep n hops h (stop s) conns nats good = (stop s, good)
walk_on-keeps d appliances label Good keep zero hops h (go p k) conns nats good = (go p k, good)
walk_on-keeps d appliances label Good keep (suc n) hops h (go p k) conns nats good =
    let m = moment p k conns nats in
    let s = step_of d appliances label m in
    cond_both (is_visited hops p) (ended hops (Stopped (Loop p)) conns nats) (walk_on d appliances label n (hops ++ hop_at d appliances label m ∷ []) k s.next s.conns s.nats)
    (λ (w : Walk). (y : Next) × Good y w.hops w.conns w.nats)
    (λ _. (go p k, good))
    (λ new. walk_on-keeps d appliances label Good keep n (hops ++ hop_at d appliances label m ∷ []) k s.next s.conns s.nats (keep hops m new good))

-- what holds after the first step holds at the end of a walk
pub walk_of-keeps : (d : Description) (appliances : Appliances) (label : Label) (Good : Next → List Hop → List Connection → List Translation → Type 0) → IsKept d appliances label Good
    → (m : Moment) → (let s = step_of d appliances label m in Good s.next (hop_at d appliances label m ∷ []) s.conns s.nats)
    → let w = walk_of d appliances label m in (y : Next) × Good y w.hops w.conns w.nats
walk_of-keeps d appliances label Good keep m good =
    let s = step_of d appliances label m in
    walk_on-keeps d appliances label Good keep 63 (hop_at d appliances label m ∷ []) m.header s.next s.conns s.nats good

-- ---- one more place

-- a new place, where more are allowed
pub walk_on-goes_on : (d : Description) (appliances : Appliances) (label : Label) (n k : ℕ) (hops : List Hop) (h : Header) (m : Moment) → n ≡ k + 1 → is_visited hops m.place ≡ false
    → let s = step_of d appliances label m in walk_on d appliances label n hops h (go m.place m.header) m.conns m.nats ≡ walk_on d appliances label k (hops ++ hop_at d appliances label m ∷ []) m.header s.next s.conns s.nats
walk_on-goes_on d appliances label n k hops h m e new = rw (e, add-one, new)

-- a place that is there
pub walk_on-loops : (d : Description) (appliances : Appliances) (label : Label) (n : ℕ) (hops : List Hop) (h : Header) (m : Moment) → is_visited hops m.place ≡ true
    → walk_on d appliances label n hops h (go m.place m.header) m.conns m.nats ≡ ended hops (Stopped (Loop m.place)) m.conns m.nats
walk_on-loops d appliances label zero hops h m there = rw there
walk_on-loops d appliances label (suc n) hops h m there = rw there

-- a new place, where no more are allowed
pub walk_on-goes_far : (d : Description) (appliances : Appliances) (label : Label) (hops : List Hop) (h : Header) (m : Moment) → is_visited hops m.place ≡ false
    → walk_on d appliances label 0 hops h (go m.place m.header) m.conns m.nats ≡ ended hops (Stopped (TooFar m.place)) m.conns m.nats
walk_on-goes_far d appliances label hops h m new = rw new

-- ---- places

walk_on-length : (d : Description) (appliances : Appliances) (label : Label) (n : ℕ) (hops : List Hop) (h : Header) (x : Next) (conns : List Connection) (nats : List Translation)
    → let w = walk_on d appliances label n hops h x conns nats in (length hops ≤ length w.hops) × (length w.hops ≤ length hops + n)
walk_on-length d appliances label n hops h (arrive end) conns nats = (omega arith, omega arith)
walk_on-length d appliances label n hops h (stop s) conns nats = (omega arith, omega arith)
walk_on-length d appliances label zero hops h (go p k) conns nats = (omega arith, omega arith)
walk_on-length d appliances label (suc n) hops h (go p k) conns nats =
    let m = moment p k conns nats in
    let s = step_of d appliances label m in
    cond_both (is_visited hops p) (ended hops (Stopped (Loop p)) conns nats) (walk_on d appliances label n (hops ++ hop_at d appliances label m ∷ []) k s.next s.conns s.nats)
    (λ (w : Walk). (length hops ≤ length w.hops) × (length w.hops ≤ length hops + suc n))
    (λ _. (omega arith, omega arith))
    (λ _.
    let rest = walk_on-length d appliances label n (hops ++ hop_at d appliances label m ∷ []) k s.next s.conns s.nats in
    let longer = length-append hops (hop_at d appliances label m ∷ []) in
    let one : length (hop_at d appliances label m ∷ []) ≡ 1 = refl in
    (omega arith, omega arith))

pub walk_is_short : (d : Description) (appliances : Appliances) (label : Label) (m : Moment) → let w = walk_of d appliances label m in (1 ≤ length w.hops) × (length w.hops ≤ 64)
walk_is_short d appliances label m =
    let s = step_of d appliances label m in
    walk_on-length d appliances label 63 (hop_at d appliances label m ∷ []) m.header s.next s.conns s.nats

pub places_of-push : (hops : List Hop) (h : Hop) → places_of (hops ++ h ∷ []) ≡ places_of hops ++ h.place ∷ []
places_of-push [] h = refl
places_of-push (x ∷ hops) h = ap (λ (ps : List Place). x.place ∷ ps) (places_of-push hops h)

is_visited-places : (hops : List Hop) (p : Place) → list_any (λ q. same_place q p) (places_of hops) ≡ is_visited hops p
is_visited-places [] p = refl
is_visited-places (x ∷ hops) p = ap (λ b. same_place x.place p || b) (is_visited-places hops p)

abbrev AreApart : Next → List Hop → List Connection → List Translation → Type 0
AreApart x hops conns nats = IsDistinct same_place (places_of hops)

AreApart-kept : (d : Description) (appliances : Appliances) (label : Label) → IsKept d appliances label AreApart
AreApart-kept d appliances label hops m new apart =
    subst (IsDistinct same_place) (sym (places_of-push hops (hop_at d appliances label m)))
    (IsDistinct-push_new same_place (places_of hops) m.place apart (is_visited-places hops m.place ∙ new))

IsDistinct-one : (p : Place) → IsDistinct same_place (p ∷ [])
unfolding IsDistinct
IsDistinct-one p = (tt, tt)

pub no_place_twice : (d : Description) (appliances : Appliances) (label : Label) (m : Moment) → let w = walk_of d appliances label m in IsDistinct same_place (places_of w.hops)
no_place_twice d appliances label m = (walk_of-keeps d appliances label AreApart (AreApart-kept d appliances label) m (IsDistinct-one m.place)).1

-- ---- what is left

pub Begins-trans : {X : Type 0} (a b c : List X) → Begins a b → Begins b c → Begins a c
Begins-trans a b c (x, e) (y, f) = (x ++ y, f ∙ ap (λ l. l ++ y) e ∙ append_assoc a x y)

abbrev Keeps : Moment → Next → List Hop → List Connection → List Translation → Type 0
Keeps m x hops conns nats = Begins m.conns conns × Begins m.nats nats

Keeps-kept : (d : Description) (appliances : Appliances) (label : Label) (start : Moment) → IsKept d appliances label (Keeps start)
Keeps-kept d appliances label start hops m new keeps =
    let step = step_keeps d appliances label m in
    (Begins-trans start.conns m.conns _ keeps.0 step.0, Begins-trans start.nats m.nats _ keeps.1 step.1)

pub walk_keeps : (d : Description) (appliances : Appliances) (label : Label) (m : Moment) → let w = walk_of d appliances label m in Begins m.conns w.conns × Begins m.nats w.nats
walk_keeps d appliances label m = (walk_of-keeps d appliances label (Keeps m) (Keeps-kept d appliances label m) m (step_keeps d appliances label m)).1

abbrev Leaves : Moment → Next → List Hop → List Connection → List Translation → Type 0
Leaves m x hops conns nats = (conns ≡ m.conns) × (nats ≡ m.nats)

Leaves-kept : (d : Description) (appliances : Appliances) (start : Moment) → IsKept d appliances Answer (Leaves start)
Leaves-kept d appliances start hops m new leaves =
    let step = answer_adds_nothing d appliances m in
    (step.0 ∙ leaves.0, step.1 ∙ leaves.1)

pub answer_leaves_all : (d : Description) (appliances : Appliances) (m : Moment) → let w = walk_of d appliances Answer m in (w.conns ≡ m.conns) × (w.nats ≡ m.nats)
answer_leaves_all d appliances m = (walk_of-keeps d appliances Answer (Leaves m) (Leaves-kept d appliances m) m (answer_adds_nothing d appliances m)).1

-- ---- whose the connections and translations are

-- the connection was there at the start, or is that of an open at one of the hops
abbrev IsOwn : Label → Moment → List Hop → Connection → Type 0
IsOwn label start hops c = Contains start.conns c ⊎ ((label ≡ Opening) × ((h : Hop) × (Contains hops h × (own_connection h.place h.header ≡ Some c))))

abbrev AreOwn : Label → Moment → Next → List Hop → List Connection → List Translation → Type 0
AreOwn label start x hops conns nats = (c : Connection) → Contains conns c → IsOwn label start hops c

IsOwn-more : (label : Label) (start : Moment) (hops : List Hop) (h : Hop) (c : Connection) → IsOwn label start hops c → IsOwn label start (hops ++ h ∷ []) c
IsOwn-more label start hops h c (inl old) = inl old
IsOwn-more label start hops h c (inr (opens, (g, (there, own)))) = inr (opens, (g, (Contains-append_left hops (h ∷ []) g there, own)))

AreOwn-after : (label : Label) (start : Moment) (hops : List Hop) (h : Hop) (before after : List Connection) → AddsOwn label h.place h.header before after
    → ((c : Connection) → Contains before c → IsOwn label start hops c) → (c : Connection) → Contains after c → IsOwn label start (hops ++ h ∷ []) c
AreOwn-after label start hops h before after (inl e) own c has = IsOwn-more label start hops h c (own c (subst (λ (cs : List Connection). Contains cs c) e has))
AreOwn-after label start hops h before after (inr (c', (opens, (is, e)))) own c has =
    elim (Contains-push_cases before c' c (subst (λ (cs : List Connection). Contains cs c) e has)) [
      | inl old ↦ IsOwn-more label start hops h c (own c old)
      | inr same ↦ inr (opens, (h, (Contains-push hops h, is ∙ ap Some same)))
    ]

AreOwn-kept : (d : Description) (appliances : Appliances) (label : Label) (start : Moment) → IsKept d appliances label (AreOwn label start)
AreOwn-kept d appliances label start hops m new own = AreOwn-after label start hops (hop_at d appliances label m) m.conns _ (step_adds_own d appliances label m) own

pub left_connections_are_own : (d : Description) (appliances : Appliances) (label : Label) (m : Moment) (c : Connection)
    → let w = walk_of d appliances label m in Contains w.conns c → Contains m.conns c ⊎ ((label ≡ Opening) × ((h : Hop) × (Contains w.hops h × (own_connection h.place h.header ≡ Some c))))
left_connections_are_own d appliances label m c =
    (walk_of-keeps d appliances label (AreOwn label m) (AreOwn-kept d appliances label m) m (AreOwn-after label m [] (hop_at d appliances label m) m.conns _ (step_adds_own d appliances label m) (λ k has. inl has))).1 c

-- the translation was there at the start, or is of an open at one of the hops
abbrev IsOurs : Label → Moment → List Hop → Translation → Type 0
IsOurs label start hops t = Contains start.nats t ⊎ ((label ≡ Opening) × ((h : Hop) × (Contains hops h × ((h.place ≡ NatOut t.nat) × (t.before ≡ h.header)))))

abbrev AreOurs : Label → Moment → Next → List Hop → List Connection → List Translation → Type 0
AreOurs label start x hops conns nats = (t : Translation) → Contains nats t → IsOurs label start hops t

IsOurs-more : (label : Label) (start : Moment) (hops : List Hop) (h : Hop) (t : Translation) → IsOurs label start hops t → IsOurs label start (hops ++ h ∷ []) t
IsOurs-more label start hops h t (inl old) = inl old
IsOurs-more label start hops h t (inr (opens, (g, (there, ours)))) = inr (opens, (g, (Contains-append_left hops (h ∷ []) g there, ours)))

AreOurs-after : (label : Label) (start : Moment) (hops : List Hop) (h : Hop) (before after : List Translation) → AddsTranslation label h.place h.header before after
    → ((t : Translation) → Contains before t → IsOurs label start hops t) → (t : Translation) → Contains after t → IsOurs label start (hops ++ h ∷ []) t
AreOurs-after label start hops h before after (inl e) ours t has = IsOurs-more label start hops h t (ours t (subst (λ (ts : List Translation). Contains ts t) e has))
AreOurs-after label start hops h before after (inr (t', (opens, (here, (whole, e))))) ours t has =
    elim (Contains-push_cases before t' t (subst (λ (ts : List Translation). Contains ts t) e has)) [
      | inl old ↦ IsOurs-more label start hops h t (ours t old)
      | inr same ↦ inr (opens, (h, (Contains-push hops h, (here ∙ ap (λ (u : Translation). NatOut u.nat) same, sym (ap (λ (u : Translation). u.before) same) ∙ whole))))
    ]

AreOurs-kept : (d : Description) (appliances : Appliances) (label : Label) (start : Moment) → IsKept d appliances label (AreOurs label start)
AreOurs-kept d appliances label start hops m new ours = AreOurs-after label start hops (hop_at d appliances label m) m.nats _ (step_adds_translation d appliances label m) ours

pub left_translations_are_own : (d : Description) (appliances : Appliances) (label : Label) (m : Moment) (t : Translation)
    → let w = walk_of d appliances label m in Contains w.nats t → Contains m.nats t ⊎ ((label ≡ Opening) × ((h : Hop) × (Contains w.hops h × ((h.place ≡ NatOut t.nat) × (t.before ≡ h.header)))))
left_translations_are_own d appliances label m t =
    (walk_of-keeps d appliances label (AreOurs label m) (AreOurs-kept d appliances label m) m (AreOurs-after label m [] (hop_at d appliances label m) m.nats _ (step_adds_translation d appliances label m) (λ u has. inl has))).1 t

-- ---- the translations stay in order

-- the p of what comes next fits its field
abbrev pub NextFits : Next → Type 0
NextFits (go p k) = k.p < 2 ^ 16
NextFits (arrive end) = Unit {0}
NextFits (stop s) = Unit {0}

Flows-NextFits : (opens : Type 0) (d : Description) (p : Place) (h : Header) (x : Next) → opens → Flows opens d p h x → h.p < 2 ^ 16 → NextFits x
Flows-NextFits opens d p h (go q k) o (on, flow) fits = flow.p o fits
Flows-NextFits opens d p h (arrive end) o flow fits = tt
Flows-NextFits opens d p h (stop s) o flow fits = tt

abbrev InOrder : Next → List Hop → List Connection → List Translation → Type 0
InOrder x hops conns nats = NextFits x × IsBook nats

pub open-in_order : (d : Description) (appliances : Appliances) (m : Moment) → m.header.p < 2 ^ 16 → IsBook m.nats → let s = step_of d appliances Opening m in NextFits s.next × IsBook s.nats
open-in_order d appliances m fits book =
    (Flows-NextFits _ d m.place m.header (step_of d appliances Opening m).next (refl, book.translations) (step_at-flow d appliances Opening m.place m) fits, step_keeps_book d appliances Opening m fits book)

InOrder-kept : (d : Description) (appliances : Appliances) → IsKept d appliances Opening InOrder
InOrder-kept d appliances hops m new good = open-in_order d appliances m good.0 good.1

pub walk_keeps_book : (d : Description) (appliances : Appliances) (label : Label) (m : Moment) → m.header.p < 2 ^ 16 → IsBook m.nats → let w = walk_of d appliances label m in IsBook w.nats
walk_keeps_book d appliances Opening m fits book = ((walk_of-keeps d appliances Opening InOrder (InOrder-kept d appliances) m (open-in_order d appliances m fits book)).1).1
walk_keeps_book d appliances Answer m fits book = subst IsBook (sym (answer_leaves_all d appliances m).1) book

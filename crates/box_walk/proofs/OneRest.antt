-- The rest of one walk by its first step.
use Rattle.std.proofs.Common.{Bool, Contains, List, [], ap, false, refl, subst, suc, sym, zero, ℕ, ◌++◌, ◌+◌, ◌||◌, ◌∙◌, ◌∷◌, ◌≡◌}
use Rattle.vpc_base.proofs.Lemmas.{Contains-append_left, Contains-push}
use Rattle.box_walk.specs.Terms.{is_among, rest_of}
use Rattle.cut_laws.proofs.Among.{row_among}
use Rattle.vpc_base.specs.Cuts.{AreAmong}
use Rattle.vpc_laws.proofs.Walking.{hop_at, places_of-push, walk_on-goes_on, walk_on-keeps}
use Rattle.vpc_laws.specs.Types.{Description, Header, Hop, Label, Place}
use Rattle.vpc_laws.specs.Walk.{places_of}
use Rattle.vpc_model.specs.Terms.{Appliances, Connection, Moment, Next, Translation, Walk, cuts_at, cuts_of_hops, go, is_visited, same_place, step_of, walk_on}

-- ---- places of hops

is_among-places_of : (hops : List Hop) (p : Place) → is_among (places_of hops) p ≡ is_visited hops p
is_among-places_of [] p = refl
is_among-places_of (x ∷ hops) p = ap (λ (b : Bool). same_place x.place p || b) (is_among-places_of hops p)

pub is_visited-at : (hops : List Hop) (places : List Place) (p : Place) (v : Bool) → places_of hops ≡ places → is_among places p ≡ v → is_visited hops p ≡ v
is_visited-at hops places p v at e = sym (is_among-places_of hops p) ∙ (ap (λ (ps : List Place). is_among ps p) at ∙ e)

-- one more hop
pub pushed_at : (d : Description) (a : Appliances) (label : Label) (hops : List Hop) (places : List Place) (m : Moment) → places_of hops ≡ places
    → places_of (hops ++ hop_at d a label m ∷ []) ≡ places ++ m.place ∷ []
pushed_at d a label hops places m at = places_of-push hops (hop_at d a label m) ∙ ap (λ (ps : List Place). ps ++ m.place ∷ []) at

-- ---- the rest of one walk

-- the header of the last hop doesn't count where the packet goes on
pub walk_on-last : (d : Description) (a : Appliances) (label : Label) (n : ℕ) (hops : List Hop) (h other k : Header) (p : Place) (conns : List Connection) (nats : List Translation)
    → walk_on d a label n hops h (go p k) conns nats ≡ walk_on d a label n hops other (go p k) conns nats
walk_on-last d a label zero hops h other k p conns nats = refl
walk_on-last d a label (suc n) hops h other k p conns nats = refl

-- the rest by what its first step leads to
pub rest_of-step : (d : Description) (a : Appliances) (label : Label) (left n : ℕ) (hops : List Hop) (m : Moment) (next : Next) (conns : List Connection) (nats : List Translation)
    → left ≡ n + 1 → is_visited hops m.place ≡ false
    → (let s = step_of d a label m in s.next ≡ next) → (let s = step_of d a label m in s.conns ≡ conns) → (let s = step_of d a label m in s.nats ≡ nats)
    → rest_of d a label left hops m ≡ walk_on d a label n (hops ++ hop_at d a label m ∷ []) m.header next conns nats
rest_of-step d a label left n hops m next conns nats one new next_is conns_are nats_are =
    let s = step_of d a label m in
    let longer = hops ++ hop_at d a label m ∷ [] in
    walk_on-goes_on d a label left n hops m.header m one new
    ∙ ap (λ (x : Next). walk_on d a label n longer m.header x s.conns s.nats) next_is
    ∙ ap (λ (c : List Connection). walk_on d a label n longer m.header next c s.nats) conns_are
    ∙ ap (λ (t : List Translation). walk_on d a label n longer m.header next conns t) nats_are

-- the hops so far are among those of the whole walk
walk_on-hops : (d : Description) (a : Appliances) (label : Label) (n : ℕ) (hops : List Hop) (h : Header) (next : Next) (conns : List Connection) (nats : List Translation) (hop : Hop)
    → Contains hops hop → let w = walk_on d a label n hops h next conns nats in Contains w.hops hop
walk_on-hops d a label n hops h next conns nats hop has =
    (walk_on-keeps d a label (λ x hs cs ts. Contains hs hop) (λ hs m new there. Contains-append_left hs (hop_at d a label m ∷ []) hop there) n hops h next conns nats has).1

-- so the cuts of the first place are among those of the rest
pub first_among : (d : Description) (a : Appliances) (label : Label) (left n : ℕ) (hops : List Hop) (m : Moment) → left ≡ n + 1 → is_visited hops m.place ≡ false
    → let w = rest_of d a label left hops m in AreAmong (cuts_at d m.place) (cuts_of_hops d w.hops)
first_among d a label left n hops m one new =
    let s = step_of d a label m in
    let hop = hop_at d a label m in
    let w = walk_on d a label n (hops ++ hop ∷ []) m.header s.next s.conns s.nats in
    subst (λ (v : Walk). AreAmong (cuts_at d m.place) (cuts_of_hops d v.hops)) (sym (walk_on-goes_on d a label left n hops m.header m one new))
    (row_among (λ (x : Hop). cuts_at d x.place) w.hops hop (walk_on-hops d a label n (hops ++ hop ∷ []) m.header s.next s.conns s.nats hop (Contains-push hops hop)))

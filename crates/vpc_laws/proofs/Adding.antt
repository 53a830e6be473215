-- What a walk adds to connections and translations.
use Rattle.std.proofs.Common.{◌≡◌, ◌≤◌, ◌==◌, ◌⊎◌, Bool, List, [], ◌∷◌, ◌++◌, ap, append_assoc, arith, false, inl, inr, length, length-append, refl, subst, sym, true, ◌∙◌, ap₂}
use Rattle.std.specs.List.{AllByRecursion, IsDistinct, list_any}
use Rattle.vpc_base.proofs.Lemmas.{and_parts, append-nil, both_ways, false_from_ne_true, list_any-append, or_from, or_left, or_right}
use Rattle.vpc_base.specs.Dir.{same_dir}
use Rattle.vpc_model.specs.declared.places.Place.TheVariants.{NatOut}
use Rattle.vpc_laws.specs.Types.{Description, Header, Hop, Label, Place}
use Rattle.vpc_model.specs.Terms.{Appliances, Connection, Moment, Next, Translation, is_visited, same_place, step_of, walk_of}
use Rattle.vpc_laws.specs.Terms.{AddsFew, AddsOwn, AddsTranslation, same_door, same_gateway}
use Rattle.vpc_laws.proofs.Books.{AllByRecursion-push, IsDistinct-push_new}
use Rattle.vpc_laws.proofs.ByMemory.{own_connection-made, place_by}
use Rattle.vpc_laws.proofs.Growth.{step_adds_own, step_adds_translation}
use Rattle.vpc_laws.proofs.Same.{EniNo-same, NatNo-same, same_dir-true, same_place-refl}
use Rattle.vpc_laws.proofs.Walking.{IsKept, hop_at, walk_is_short, walk_of-keeps}

-- ---- any items that places add

-- what was added so far, each at a place of its own among the hops
record IsAdded {X : Type 0} (place_of : X → Place) (alike : X → X → Bool) (hops : List Hop) (before after : List X) : Type 0 where
  pub more : List X
  pub is : after ≡ before ++ more
  pub few : length more ≤ length hops
  pub apart : IsDistinct alike more
  pub visited : AllByRecursion (λ x. is_visited hops (place_of x) ≡ true) more

pub is_visited-more : (hops : List Hop) (h : Hop) (p : Place) → is_visited hops p ≡ true → is_visited (hops ++ h ∷ []) p ≡ true
is_visited-more hops h p there = list_any-append (λ (g : Hop). same_place g.place p) hops (h ∷ []) ∙ or_left (is_visited hops p) (is_visited (h ∷ []) p) there

pub is_visited-last : (hops : List Hop) (h : Hop) → is_visited (hops ++ h ∷ []) h.place ≡ true
is_visited-last hops h =
    list_any-append (λ (g : Hop). same_place g.place h.place) hops (h ∷ [])
    ∙ or_right (is_visited hops h.place) (is_visited (h ∷ []) h.place) (or_left (same_place h.place h.place) false (same_place-refl h.place))

all-more : {X : Type 0} (place_of : X → Place) (hops : List Hop) (h : Hop) (xs : List X) → AllByRecursion (λ x. is_visited hops (place_of x) ≡ true) xs → AllByRecursion (λ x. is_visited (hops ++ h ∷ []) (place_of x) ≡ true) xs
all-more place_of hops h [] all = tt
all-more place_of hops h (x ∷ xs) all = (is_visited-more hops h (place_of x) all.0, all-more place_of hops h xs all.1)

-- an item of a new place is like none of a visited one
unlike : {X : Type 0} (place_of : X → Place) (alike : X → X → Bool) → ((x y : X) → alike x y ≡ true → place_of x ≡ place_of y) → (hops : List Hop) (y : X) → is_visited hops (place_of y) ≡ false
    → (xs : List X) → AllByRecursion (λ x. is_visited hops (place_of x) ≡ true) xs → list_any (λ x. alike x y) xs ≡ false
unlike place_of alike one hops y new [] all = refl
unlike place_of alike one hops y new (x ∷ xs) all =
    or_from (alike x y) (list_any (λ z. alike z y) xs)
    (false_from_ne_true (alike x y) (λ same. both_ways (is_visited hops (place_of y)) new (subst (λ p. is_visited hops p ≡ true) (one x y same) all.0)))
    (unlike place_of alike one hops y new xs all.1)

IsDistinct-none : {X : Type 0} (alike : X → X → Bool) → IsDistinct alike []
unfolding IsDistinct
IsDistinct-none alike = tt

added-none : {X : Type 0} (place_of : X → Place) (alike : X → X → Bool) (xs : List X) → IsAdded place_of alike [] xs xs
added-none place_of alike xs = record { more = []; is = sym (append-nil xs); few = omega arith; apart = IsDistinct-none alike; visited = tt }

added-step : {X : Type 0} (place_of : X → Place) (alike : X → X → Bool) → ((x y : X) → alike x y ≡ true → place_of x ≡ place_of y) → (hops : List Hop) (h : Hop) → is_visited hops h.place ≡ false
    → (start before after : List X) → (after ≡ before) ⊎ ((x : X) × ((place_of x ≡ h.place) × (after ≡ before ++ x ∷ []))) → IsAdded place_of alike hops start before → IsAdded place_of alike (hops ++ h ∷ []) start after
added-step place_of alike one hops h new start before after (inl same) added =
    let longer = length-append hops (h ∷ []) in
    let few = added.few in
    record { more = added.more; is = same ∙ added.is; few = omega arith; apart = added.apart; visited = all-more place_of hops h added.more added.visited }
added-step place_of alike one hops h new start before after (inr (x, (here, is))) added =
    let longer = length-append hops (h ∷ []) in
    let long = length-append added.more (x ∷ []) in
    let one_hop : length (h ∷ []) ≡ 1 = refl in
    let one_item : length (x ∷ []) ≡ 1 = refl in
    let few = added.few in
    record {
      more = added.more ++ x ∷ [];
      is = is ∙ ap (λ l. l ++ x ∷ []) added.is ∙ append_assoc start added.more (x ∷ []);
      few = omega arith;
      apart = IsDistinct-push_new alike added.more x added.apart (unlike place_of alike one hops x (subst (λ p. is_visited hops p ≡ false) (sym here) new) added.more added.visited);
      visited = AllByRecursion-push (λ y. is_visited (hops ++ h ∷ []) (place_of y) ≡ true) added.more x (all-more place_of hops h added.more added.visited)
          (subst (λ p. is_visited (hops ++ h ∷ []) p ≡ true) (sym here) (is_visited-last hops h));
    }

few-added : {X : Type 0} (place_of : X → Place) (alike : X → X → Bool) (hops : List Hop) (before after : List X) → length hops ≤ 64 → IsAdded place_of alike hops before after → AddsFew alike before after
few-added place_of alike hops before after short added = let few = added.few in record { more = added.more; is = added.is; few = omega arith; apart = added.apart }

-- ---- connections and translations

abbrev place_of_connection : Connection → Place
place_of_connection c = place_by c.eni c.dir

abbrev place_of_translation : Translation → Place
place_of_translation t = NatOut t.nat

one_door : (a b : Connection) → same_door a b ≡ true → place_of_connection a ≡ place_of_connection b
one_door a b e =
    let parts = and_parts (a.eni.0 == b.eni.0) (same_dir a.dir b.dir) e in
    ap₂ place_by (EniNo-same a.eni b.eni parts.0) (same_dir-true a.dir b.dir parts.1)

one_gateway : (s t : Translation) → same_gateway s t ≡ true → place_of_translation s ≡ place_of_translation t
one_gateway s t e = ap NatOut (NatNo-same s.nat t.nat e)

own-added : (label : Label) (p : Place) (h : Header) (before after : List Connection) → AddsOwn label p h before after → (after ≡ before) ⊎ ((c : Connection) × ((place_of_connection c ≡ p) × (after ≡ before ++ c ∷ [])))
own-added label p h before after (inl same) = inl same
own-added label p h before after (inr (c, (opens, (own, is)))) = let made = own_connection-made p h c own in inr (c, (sym made.place, is))

translation-added : (label : Label) (p : Place) (h : Header) (before after : List Translation) → AddsTranslation label p h before after → (after ≡ before) ⊎ ((t : Translation) × ((place_of_translation t ≡ p) × (after ≡ before ++ t ∷ [])))
translation-added label p h before after (inl same) = inl same
translation-added label p h before after (inr (t, (opens, (here, (whole, is))))) = inr (t, (sym here, is))

-- ---- walks

abbrev Adds : Moment → Next → List Hop → List Connection → List Translation → Type 0
Adds start x hops conns nats = IsAdded place_of_connection same_door hops start.conns conns × IsAdded place_of_translation same_gateway hops start.nats nats

adds-step : (d : Description) (appliances : Appliances) (label : Label) (start : Moment) (hops : List Hop) (m : Moment) → is_visited hops m.place ≡ false
    → IsAdded place_of_connection same_door hops start.conns m.conns → IsAdded place_of_translation same_gateway hops start.nats m.nats
    → let s = step_of d appliances label m in Adds start s.next (hops ++ hop_at d appliances label m ∷ []) s.conns s.nats
adds-step d appliances label start hops m new conns nats =
    let s = step_of d appliances label m in
    let h = hop_at d appliances label m in (
      added-step place_of_connection same_door one_door hops h new start.conns m.conns s.conns (own-added label m.place m.header m.conns s.conns (step_adds_own d appliances label m)) conns,
      added-step place_of_translation same_gateway one_gateway hops h new start.nats m.nats s.nats (translation-added label m.place m.header m.nats s.nats (step_adds_translation d appliances label m)) nats,
    )

Adds-kept : (d : Description) (appliances : Appliances) (label : Label) (start : Moment) → IsKept d appliances label (Adds start)
Adds-kept d appliances label start hops m new adds = adds-step d appliances label start hops m new adds.0 adds.1

pub walks_add_few : (d : Description) (appliances : Appliances) (label : Label) (m : Moment) → let w = walk_of d appliances label m in AddsFew same_door m.conns w.conns × AddsFew same_gateway m.nats w.nats
walks_add_few d appliances label m =
    let w = walk_of d appliances label m in
    let short = (walk_is_short d appliances label m).1 in
    let first = adds-step d appliances label m [] m refl (added-none place_of_connection same_door m.conns) (added-none place_of_translation same_gateway m.nats) in
    let all = (walk_of-keeps d appliances label (Adds m) (Adds-kept d appliances label m) m first).1 in
    (few-added place_of_connection same_door w.hops m.conns w.conns short all.0, few-added place_of_translation same_gateway w.hops m.nats w.nats short all.1)

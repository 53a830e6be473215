-- What packets of a moment remember of their walk.
use Rattle.std.proofs.Common.{Bool, List, [], ap, arith, false, inl, inr, length, length-append, refl, sym, true, ℕ, ⊎_elim, ◌++◌, ◌+◌, ◌<◌, ◌||◌, ◌∙◌, ◌∷◌, ◌≡◌, ◌≤◌, ◌⊎◌}
use Rattle.vpc_base.proofs.Lemmas.{false_from_ne_true, false≢true, list_any-append}
use Rattle.box_steps.specs.Moments.{CanRemember, RemembersMore, has_conn, has_left, has_nat, remembers}
use Rattle.box_steps.specs.declared.moment.BoxMoment.{BoxMoment}
use Rattle.box_steps.specs.declared.moment.ImageNat.{ImageNat}
use Rattle.box_walk.specs.Terms.{BeginsFresh, IsLeftAt, is_among}
use Rattle.conn_tracking.specs.declared.on_images.ImageEntry.{ImageEntry}
use Rattle.vpc_base.specs.declared.headers.Label.TheVariants as labels
use Rattle.vpc_laws.specs.Terms.{Memory, connection, memory_at, nothing, translation}
use Rattle.vpc_laws.specs.Types.{Label, Place}
use Rattle.vpc_model.specs.Terms.{same_place}

-- the place of the step besides
left_known : (b c : Bool) → (b ≡ true) ⊎ (c ≡ true) → (b || (c || false)) ≡ true
left_known true c k = refl
left_known false true k = refl
left_known false false k = absurd (⊎_elim (λ e. false≢true e) (λ e. false≢true e) k)

-- a step leaves something at its place at most
pub left_after_step : (label : Label) (places : List Place) (old mid : BoxMoment) → IsLeftAt label places old → RemembersMore old mid → IsLeftAt label (places ++ old.place ∷ []) mid
left_after_step labels.Opening places old mid was more = record {
  conns = let few = was.conns in let one = more.conns in let longer = length-append places (old.place ∷ []) in omega (arith, few, one, longer, at_one old.place);
  nats = let few = was.nats in let one = more.nats in let longer = length-append places (old.place ∷ []) in omega (arith, few, one, longer, at_one old.place);
  known = λ p has.
      list_any-append (λ q. same_place q p) places (old.place ∷ [])
      ∙ left_known (is_among places p) (same_place old.place p) (⊎_elim (λ e. inl (was.known p e)) (λ e. inr e) (more.known p has));
}
  where
    at_one : (p : Place) → length (p ∷ []) ≡ 1
    at_one p = refl
left_after_step labels.Answer places old mid was more = tt

nothing_left : (m : BoxMoment) (x : Memory) → m.conns.items ≡ [] → m.nats.items ≡ [] → has_left m x ≡ false
nothing_left m (connection i dir) conns nats = ap (λ (es : List ImageEntry). has_conn es i dir) conns
nothing_left m (translation n) conns nats = ap (λ (ts : List ImageNat). has_nat ts n) nats
nothing_left m nothing conns nats = refl

-- nothing is remembered
pub left_fresh : (label : Label) (m : BoxMoment) → BeginsFresh label m → IsLeftAt label [] m
left_fresh labels.Opening m fresh = record {
  conns = let e : length m.conns.items ≡ 0 = ap length fresh.0 in omega (arith, e);
  nats = let e : length m.nats.items ≡ 0 = ap length fresh.1 in omega (arith, e);
  known = λ p has. absurd (false≢true (sym (nothing_left m (memory_at p) fresh.0 fresh.1) ∙ has));
}
left_fresh labels.Answer m fresh = tt

-- what was left at other places leaves room at a new one
pub has_room : (label : Label) (places : List Place) (left : ℕ) (m : BoxMoment) → IsLeftAt label places m → is_among places m.place ≡ false → 0 < left → length places + left ≤ 64 → CanRemember label m
has_room labels.Opening places left m was new some few = record {
  conns = let k = was.conns in omega (arith, k, some, few);
  nats = let k = was.nats in omega (arith, k, some, few);
  fresh = false_from_ne_true (remembers m m.place) (λ e. false≢true (sym new ∙ was.known m.place e));
}
has_room labels.Answer places left m was new some few = tt

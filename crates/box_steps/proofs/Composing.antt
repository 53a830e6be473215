-- Moments of a body of a body, and of the whole part; images of a moment.
use Rattle.std.proofs.Common.{◌≡◌, ◌∙◌, ◌∷◌, [], All, List, ap, map, refl, subst, ℕ}
use Rattle.std.proofs.lemmas.List.Elements.{All-head, All-tail}
use Rattle.header_boxes.specs.declared.boxes.Box5.{Box5}
use Rattle.conn_tracking.specs.declared.on_images.ImageEntry.{ImageEntry}
use Rattle.vpc_laws.specs.Types.{Description, Label}
use Rattle.vpc_model.specs.Lookup.{addresses_in}
use Rattle.box_steps.specs.Moments.{IsBoxMoment, IsNarrowed, IsOpenOver, IsTranslatedOver, entry_over, image_over, nat_over}
use Rattle.box_steps.specs.declared.moment.BoxMoment.{BoxMoment}
use Rattle.box_steps.specs.declared.moment.ImageNat.{ImageNat}

entries-over : (b c : Box5) (es : List ImageEntry) → map (entry_over c) (map (entry_over b) es) ≡ map (entry_over c) es
entries-over b c [] = refl
entries-over b c (e ∷ es) = ap (λ rest. entry_over c e ∷ rest) (entries-over b c es)

nats-over : (b c : Box5) (ts : List ImageNat) → map (nat_over c) (map (nat_over b) ts) ≡ map (nat_over c) ts
nats-over b c [] = refl
nats-over b c (t ∷ ts) = ap (λ rest. nat_over c t ∷ rest) (nats-over b c ts)

pub narrowed_through : (b c : Box5) (old mid new : BoxMoment) → IsNarrowed b old mid → IsNarrowed c mid new → IsNarrowed c old new
narrowed_through b c old mid new n k = record {
  place = k.place ∙ n.place;
  header = k.header ∙ ap (image_over c) n.header;
  conns = k.conns ∙ ap (map (entry_over c)) n.conns ∙ entries-over b c old.conns.items;
  nats = k.nats ∙ ap (map (nat_over c)) n.nats ∙ nats-over b c old.nats.items;
}

-- the whole part is a body
entry-itself : (e : ImageEntry) (part : Box5) → e.header.part ≡ part → e ≡ entry_over part e
entry-itself e part is = subst (λ (b : Box5). e ≡ entry_over b e) is refl

entries-themselves : (addresses : List ℕ) (part : Box5) (es : List ImageEntry) → All (λ e. IsOpenOver addresses part e.header) es → es ≡ map (entry_over part) es
entries-themselves addresses part [] k = refl
entries-themselves addresses part (e ∷ es) k =
    let open_of = λ (x : ImageEntry). IsOpenOver addresses part x.header in
    let first = All-head open_of e es k in
    let one = entry-itself e part first.over in
    let rest = entries-themselves addresses part es (All-tail open_of e es k) in cc

nat-itself : (t : ImageNat) (part : Box5) → t.before.part ≡ part → t.after.part ≡ part → t ≡ nat_over part t
nat-itself t part before after =
    subst (λ (b : Box5). t ≡ record { nat = t.nat; before = image_over b t.before; after = image_over part t.after }) before
    (subst (λ (b : Box5). t ≡ record { nat = t.nat; before = t.before; after = image_over b t.after }) after refl)

nats-themselves : (addresses : List ℕ) (part : Box5) (ts : List ImageNat) → All (IsTranslatedOver addresses part) ts → ts ≡ map (nat_over part) ts
nats-themselves addresses part [] k = refl
nats-themselves addresses part (t ∷ ts) k =
    let first = All-head (IsTranslatedOver addresses part) t ts k in
    let one = nat-itself t part first.origin.over first.sent.over in
    let rest = nats-themselves addresses part ts (All-tail (IsTranslatedOver addresses part) t ts k) in cc

pub narrowed_itself : (d : Description) (label : Label) (m : BoxMoment) → IsBoxMoment d label m → IsNarrowed m.header.part m m
narrowed_itself d label m k = record {
  place = refl;
  header = refl;
  conns = entries-themselves (addresses_in d) m.header.part m.conns.items k.conns;
  nats = nats-themselves (addresses_in d) m.header.part m.nats.items k.nats;
}

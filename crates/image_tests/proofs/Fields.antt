-- The fields of images in walks, and which of their values are cuts.
use Rattle.std.proofs.Common.{◌≡◌, ℕ, ◌≤◌, ◌-◌, ◌⊎◌, ◌∷◌, List, [], zero, suc, refl, ap, sym, subst, ◌∙◌, arith, inl, inr, ⊎_elim}
use Rattle.std.specs.List.{Contains, filter}
use Rattle.std.specs.Prelude.{map, nat_le}
use Rattle.std.proofs.lemmas.Bool.Decides.{nat_tests}
use Rattle.std.proofs.lemmas.List.Elements.{Contains-append_left, Contains-append_right}
use Rattle.vpc_base.specs.Cuts.{CutLists}
use Rattle.vpc_base.proofs.Members.{Contains-filter}
use Rattle.box_images.specs.Bodies.{IsCut}
use Rattle.box_images.specs.Fields.{greatest_on}
use Rattle.box_images.specs.Images.{IsAddress, IsImageOfWalk, IsPort, field_of}
use Rattle.box_images.specs.declared.fields.Field.{Field}
use Rattle.box_images.specs.declared.fields.Field.TheVariants.{Fixed, Of}
use Rattle.box_images.specs.declared.fields.Side.{Side}
use Rattle.box_images.specs.declared.fields.Side.TheVariants.{Proto, Src, Dst, P, Q}
use Rattle.box_images.specs.declared.images.Image.{Image}
use Rattle.vpc_model.specs.Cuts.{shifted_edges}
use Rattle.cut_laws.specs.Dividing.{Divide}
use Rattle.image_tests.specs.Tests.{IsAddressSide}

-- a constant, or an address of the request as it is
abbrev pub ReadsAddress : Field → Type 0
ReadsAddress (Fixed n) = Unit {0}
ReadsAddress (Of Proto add) = ⊥
ReadsAddress (Of Src add) = add ≡ 0
ReadsAddress (Of Dst add) = add ≡ 0
ReadsAddress (Of P add) = ⊥
ReadsAddress (Of Q add) = ⊥

-- a constant, or a port of the request: q as it is, p perhaps shifted
abbrev pub ReadsPort : Field → Type 0
ReadsPort (Fixed n) = Unit {0}
ReadsPort (Of Proto add) = ⊥
ReadsPort (Of Src add) = ⊥
ReadsPort (Of Dst add) = ⊥
ReadsPort (Of P add) = (add ≡ 0) ⊎ (add ≡ 1024)
ReadsPort (Of Q add) = add ≡ 0

-- an address has 32 bits (RFC 791)
pub greatest_address : (s : Side) → IsAddressSide s → greatest_on s ≡ 4294967295
greatest_address s k = ⊎_elim
    (λ e. subst (λ (t : Side). greatest_on t ≡ 4294967295) (sym e) refl)
    (λ e. subst (λ (t : Side). greatest_on t ≡ 4294967295) (sym e) refl)
    k

-- ---- the fields of each kind

address_reads : (addresses : List ℕ) (s : Side) (f : Field) → IsAddressSide s → IsAddress addresses s f → ReadsAddress f
address_reads addresses s (Fixed a) k h = tt
address_reads addresses s (Of t add) k h =
    ⊎_elim
    (λ e. subst (λ (u : Side). ReadsAddress (Of u add)) (sym (h.0 ∙ e)) h.1)
    (λ e. subst (λ (u : Side). ReadsAddress (Of u add)) (sym (h.0 ∙ e)) h.1)
    k

-- on both sides where one of them reads the source and the other the destination
both_read : (i : Image) (s : Side) → ReadsAddress i.src → ReadsAddress i.dst → IsAddressSide s → ReadsAddress (field_of i s)
both_read i s src dst k = ⊎_elim
    (λ e. subst (λ (t : Side). ReadsAddress (field_of i t)) (sym e) src)
    (λ e. subst (λ (t : Side). ReadsAddress (field_of i t)) (sym e) dst)
    k

pub address_field : (i : Image) (s : Side) → IsImageOfWalk i → IsAddressSide s → ReadsAddress (field_of i s)
address_field i s (addresses, kind) k = ⊎_elim
    (λ o. both_read i s (address_reads addresses Src i.src (inl refl) o.src) (address_reads addresses Dst i.dst (inr refl) o.dst) k)
    (λ a. ⊎_elim
    (λ r. both_read i s (address_reads addresses Dst i.src (inr refl) r.src) (address_reads addresses Src i.dst (inl refl) r.dst) k)
    (λ r. both_read i s (address_reads addresses Dst i.src (inr refl) r.src) (address_reads addresses Src i.dst (inl refl) r.dst) k)
    a)
    kind

port_reads : (f : Field) → IsPort P f → ReadsPort f
port_reads f k = ⊎_elim
    (λ e. subst ReadsPort (sym e) (inl refl))
    (λ e. subst ReadsPort (sym e) (inr refl))
    k

pub p_field : (i : Image) → IsImageOfWalk i → ReadsPort i.p
p_field i (addresses, kind) = ⊎_elim
    (λ o. port_reads i.p o.p)
    (λ a. ⊎_elim (λ r. port_reads i.p r.p) (λ r. subst ReadsPort (sym r.p) refl) a)
    kind

pub q_field : (i : Image) → IsImageOfWalk i → ReadsPort i.q
q_field i (addresses, kind) = ⊎_elim
    (λ o. subst ReadsPort (sym o.q) refl)
    (λ a. ⊎_elim (λ r. subst ReadsPort (sym r.q) tt) (λ r. port_reads i.q r.q) a)
    kind

pub proto_field : (i : Image) → IsImageOfWalk i → i.proto ≡ Of Proto 0
proto_field i (addresses, kind) = ⊎_elim (λ o. o.proto) (λ a. ⊎_elim (λ r. r.proto) (λ r. r.proto) a) kind

-- ---- values at cuts

pub proto_is_cut : (cuts : CutLists) (f : Field) (v : ℕ) → f ≡ Of Proto 0 → (v ≤ 255 → Contains cuts.proto v) → IsCut cuts 255 f v
proto_is_cut cuts f v e has = subst (λ (g : Field). IsCut cuts 255 g v) (sym e) (λ x k some le. subst (Contains cuts.proto) (omega arith) (has le))

pub address_is_cut : (cuts : CutLists) (f : Field) (v : ℕ) → ReadsAddress f → (v ≤ 4294967295 → Contains cuts.addr v) → IsCut cuts 4294967295 f v
address_is_cut cuts (Fixed n) v reads has = tt
address_is_cut cuts (Of Proto add) v reads has = absurd reads
address_is_cut cuts (Of Src add) v reads has = λ x k some le. subst (Contains cuts.addr) (omega arith) (has le)
address_is_cut cuts (Of Dst add) v reads has = λ x k some le. subst (Contains cuts.addr) (omega arith) (has le)
address_is_cut cuts (Of P add) v reads has = absurd reads
address_is_cut cuts (Of Q add) v reads has = absurd reads

-- an edge of a range is a cut, and so is the port from which it may have been shifted
edge_shifts : (es : List ℕ) (v : ℕ) → Contains es v → 1024 ≤ v → Contains (shifted_edges es) (v - 1024)
edge_shifts es v has le =
    Contains-append_right es (map (λ e. e - 1024) (filter (nat_le 1024) es)) (v - 1024)
    (shifts (filter (nat_le 1024) es) (Contains-filter (nat_le 1024) es v has (grind (arith, nat_tests))))
  where
    shifts : (xs : List ℕ) → Contains xs v → Contains (map (λ e. e - 1024) xs) (v - 1024)
    shifts [] (k, below, e) = absurd (omega arith)
    shifts (x ∷ xs) (zero, below, e) = (0, omega arith, ap (λ n. n - 1024) e)
    shifts (x ∷ xs) (suc k, below, e) = Contains-append_right ((x - 1024) ∷ []) (map (λ n. n - 1024) xs) (v - 1024) (shifts xs (k, omega arith, e))

pub port_is_cut : (cuts few : CutLists) (es : List ℕ) (f : Field) (v : ℕ) → ReadsPort f → few.p ≡ shifted_edges es → few.q ≡ es
    → Contains es v → Divide few cuts → IsCut cuts 65535 f v
port_is_cut cuts few es (Fixed n) v reads p q has divide = tt
port_is_cut cuts few es (Of Proto add) v reads p q has divide = absurd reads
port_is_cut cuts few es (Of Src add) v reads p q has divide = absurd reads
port_is_cut cuts few es (Of Dst add) v reads p q has divide = absurd reads
port_is_cut cuts few es (Of P add) v reads p q has divide = λ x k some le. ⊎_elim
    (λ z. subst (Contains cuts.p) (omega arith)
    (on_p v (omega arith) (Contains-append_left es (map (λ e. e - 1024) (filter (nat_le 1024) es)) v has)))
    (λ z. subst (Contains cuts.p) (omega arith)
    (on_p (v - 1024) (omega arith) (edge_shifts es v has (omega arith))))
    reads
  where
    on_p : (x : ℕ) → x ≤ 65535 → Contains (shifted_edges es) x → Contains cuts.p x
    on_p x le h = divide.p x (Contains-filter (λ n. nat_le n 65535) few.p x (subst (λ l. Contains l x) (sym p) h) (grind (arith, nat_tests)))
port_is_cut cuts few es (Of Q add) v reads p q has divide = λ x k some le. subst (Contains cuts.q) (omega arith)
    (divide.q v (Contains-filter (λ n. nat_le n 65535) few.q v (subst (λ l. Contains l v) (sym q) has) (grind (arith, nat_tests))))

-- Laws of places, by what they remember of opens.
use Rattle.std.proofs.Common.{List, Some, ap, refl, sym, ◌||◌, ◌≡◌, ◌∙◌}
use Rattle.vpc_base.proofs.Lemmas.{cond_both, none-some, same_Some}
use Rattle.vpc_base.specs.declared.headers.Dir.TheVariants.{Inward, Outward}
use Rattle.vpc_base.specs.declared.headers.Label.TheVariants.{Answer, Opening}
use Rattle.vpc_model.specs.declared.places.Place.TheVariants.{OutOf, Router, Enter, Into, IgwOut, Internet, IgwIn, NatOut, NatIn, Peer, Tgw, TgwLeave, FarOut, FarIn, Inspect}
use Rattle.vpc_laws.specs.Types.{Description, Dir, EniNo, Group, Header, Label, NatNo, Place}
use Rattle.vpc_model.specs.Terms.{Appliances, Connection, Moment, Step, is_unroutable, plain, step_at, step_internet, step_nat_in}
use Rattle.vpc_laws.specs.Memory.{Memory, memory_at, nothing, translation}
use Rattle.vpc_laws.specs.Step.{connection_of, own_connection}

-- a step that asks no groups, and leaves connections and translations as they are
abbrev IsPlainStep : Moment → Step → Type 0
IsPlainStep m s = s ≡ plain m s.next

-- a place that remembers nothing
pub record IsPlain (p : Place) : Type 0 where
  pub memory : memory_at p ≡ nothing
  pub step : (d : Description) (appliances : Appliances) (label : Label) (m : Moment) → IsPlainStep m (step_at d appliances label p m)
  pub groups : (d : Description) (groups : List Group) (appliances : Appliances) (label : Label) (m : Moment)
      → step_at (record d { groups = groups }) appliances label p m ≡ step_at d appliances label p m

internet-plain : (d : Description) (m : Moment) → IsPlainStep m (step_internet d m)
internet-plain d m = cond_both (is_unroutable m.header.src || is_unroutable m.header.dst) _ _ (IsPlainStep m) (λ _. refl) (λ _. refl)

nat_in-plain : (d : Description) (label : Label) (n : NatNo) (m : Moment) → IsPlainStep m (step_nat_in d label n m)
nat_in-plain d Opening n m = refl
nat_in-plain d Answer n m = refl

-- a law holds at every place that holds out of and into interfaces, out by NAT gateways, and where nothing is remembered
pub by_memory : (P : Place → Type 0) → ((i : EniNo) → P (OutOf i)) → ((i : EniNo) → P (Into i)) → ((n : NatNo) → P (NatOut n)) → ((p : Place) → IsPlain p → P p) → (p : Place) → P p
by_memory P out into nat rest (OutOf i) = out i
by_memory P out into nat rest (Into i) = into i
by_memory P out into nat rest (NatOut n) = nat n
by_memory P out into nat rest (Router s came) = rest (Router s came) (record { memory = refl; step = λ d a label m. refl; groups = λ d gs a label m. refl })
by_memory P out into nat rest (Enter v by) = rest (Enter v by) (record { memory = refl; step = λ d a label m. refl; groups = λ d gs a label m. refl })
by_memory P out into nat rest (IgwOut v) = rest (IgwOut v) (record { memory = refl; step = λ d a label m. refl; groups = λ d gs a label m. refl })
by_memory P out into nat rest Internet = rest Internet (record { memory = refl; step = λ d a label m. internet-plain d m; groups = λ d gs a label m. refl })
by_memory P out into nat rest (IgwIn v) = rest (IgwIn v) (record { memory = refl; step = λ d a label m. refl; groups = λ d gs a label m. refl })
by_memory P out into nat rest (NatIn n) = rest (NatIn n) (record { memory = refl; step = λ d a label m. nat_in-plain d label n m; groups = λ d gs a label m. refl })
by_memory P out into nat rest (Peer x v) = rest (Peer x v) (record { memory = refl; step = λ d a label m. refl; groups = λ d gs a label m. refl })
by_memory P out into nat rest (Tgw a s) = rest (Tgw a s) (record { memory = refl; step = λ d a label m. refl; groups = λ d gs a label m. refl })
by_memory P out into nat rest (TgwLeave a s) = rest (TgwLeave a s) (record { memory = refl; step = λ d a label m. refl; groups = λ d gs a label m. refl })
by_memory P out into nat rest (FarOut k) = rest (FarOut k) (record { memory = refl; step = λ d a label m. refl; groups = λ d gs a label m. refl })
by_memory P out into nat rest (FarIn k) = rest (FarIn k) (record { memory = refl; step = λ d a label m. refl; groups = λ d gs a label m. refl })
by_memory P out into nat rest (Inspect e) = rest (Inspect e) (record { memory = refl; step = λ d a label m. refl; groups = λ d gs a label m. refl })

-- no NAT gateway is one of these, on the way out
pub plain-other : (p : Place) (n : NatNo) → IsPlain p → p ≡ NatOut n → ⊥
plain-other p n rest e = translation≢nothing (ap memory_at e) rest.memory
  where
    translation≢nothing : {x : Memory} → x ≡ translation n → x ≡ nothing → ⊥
    translation≢nothing e none = cc

-- ---- connections

-- the place where a connection is made
abbrev pub place_by : EniNo → Dir → Place
place_by i Outward = OutOf i
place_by i Inward = Into i

-- the place and header of a connection
pub record IsMadeAt (p : Place) (h : Header) (c : Connection) : Type 0 where
  pub place : p ≡ place_by c.eni c.dir
  pub header : h ≡ c.header

pub own_connection-made : (p : Place) (h : Header) (c : Connection) → own_connection p h ≡ Some c → IsMadeAt p h c
own_connection-made p h c own = by_memory (λ q. own_connection q h ≡ Some c → IsMadeAt q h c) (at Outward) (at Inward) (λ n e. absurd (none-some c e))
    (λ q rest e. absurd (none-some c (ap (λ (x : Memory). connection_of x h) (sym rest.memory) ∙ e))) p own
  where
    at : (dir : Dir) (i : EniNo) → Some (record { eni = i; dir = dir; header = h }) ≡ Some c → IsMadeAt (place_by i dir) h c
    at dir i e =
        let same = same_Some (record { eni = i; dir = dir; header = h }) c e in
        record { place = ap (λ (k : Connection). place_by k.eni k.dir) same; header = ap (λ (k : Connection). k.header) same }

-- NAT gateways on images, in walks that start without translations.
use Rattle.std.specs.Prelude.{◌≡◌, ◌==◌, ◌∷◌, [], if◌then◌else◌, List, None, Option, Some, false, ℕ}
use Rattle.std.specs.List.{list_any}
use Rattle.box_images.specs.Answers.{AnswersImage}
use Rattle.box_images.specs.Images.{IsImageOfAnswer, IsImageOfOpen, header_at}
use Rattle.box_images.specs.declared.images.Image.{Image}
use Rattle.box_images.specs.declared.images.Part.{Part}
use Rattle.cut_laws.specs.Dividing.{Divide, DivideAddresses}
use Rattle.vpc_base.specs.Header.{IsHeader}
use Rattle.vpc_base.specs.declared.headers.Header.{Header}
use Rattle.vpc_model.specs.Cuts.{fixed_cuts}
use Rattle.vpc_model.specs.declared.numbers.NatNo.{NatNo}
use Rattle.vpc_model.specs.Nat.{Translation, first_port, inward, is_full, is_translatable, new_translation, translation_of}

-- ---- outward

-- what an open becomes that nothing was translated before: from the gateway's own address, and from the port that is tried first (profile)
abbrev pub from_gateway : ℕ → Header → Header
from_gateway own h = record h { src = own; p = first_port h.p }

-- TCP, UDP and ICMP alone go out (VPC User Guide, "NAT gateways")
abbrev pub sent_first : ℕ → Header → Option Header
sent_first own h = if is_translatable h.proto then Some (from_gateway own h) else None

-- no translation is of the gateway
abbrev pub HasNone : NatNo → List Translation → Type 0
HasNone n ts = list_any (λ t. t.nat.0 == n.0) ts ≡ false

-- a gateway translates an open so where it has no translation yet
pub record IsSentFirst (ts : List Translation) (n : NatNo) (own : ℕ) (h : Header) : Type 0 where
  pub unknown : translation_of ts n h ≡ None
  pub room : is_full ts n h ≡ false
  pub sent : (let t = new_translation ts n own h in t.after) ≡ from_gateway own h

-- whatever other gateways have translated
abbrev pub FirstOpenIsSent : Type 0
FirstOpenIsSent = (ts : List Translation) (n : NatNo) (own : ℕ) (h : Header) → IsHeader h → HasNone n ts → IsSentFirst ts n own h

-- ---- inward

-- a gateway's one translation at a header of the request
abbrev pub translation_at : NatNo → Image → Image → Header → Translation
translation_at n before after h = record { nat = n; before = header_at before h; after = header_at after h }

-- a walk over these addresses makes them of an answer, and of an open before and after its translation
pub record AreAnswerAndTranslated (addresses : List ℕ) (i before after : Image) : Type 0 where
  pub answer : IsImageOfAnswer addresses i
  pub origin : IsImageOfOpen addresses before
  pub sent : IsImageOfOpen addresses after

-- ---- what is told

-- what an open becomes; the cuts of every network divide enough
abbrev pub GivesSent : ℕ → Image → Part (Option Image) → Type 0
GivesSent own i x = AnswersImage (Divide fixed_cuts) (λ h. sent_first own (header_at i h)) i.part x

-- what an answer becomes at a gateway with the one translation; cuts before and after the addresses, with those of every network, divide enough
abbrev pub GivesInward : List ℕ → NatNo → Image → Image → Image → Part (Option Image) → Type 0
GivesInward addresses n before after i x =
    AnswersImage (DivideAddresses addresses) (λ h. inward (translation_at n before after h ∷ []) n (header_at i h)) i.part x

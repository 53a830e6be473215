-- Images: what a walk has made of the headers of a box of requests.
use Rattle.std.specs.Prelude.{ℕ, ◌≡◌, ◌≤◌, ◌+◌, ◌⊎◌, false, List, Contains, nat_lt, if◌then◌else◌}
use Rattle.vpc_base.specs.declared.headers.Header.{Header}
use Rattle.header_boxes.specs.Boxes.{in_range, IsValid}
use Rattle.box_images.specs.Fields.{AreComparable, HasOffset, greatest_of, greatest_on, value_of}
use Rattle.box_images.specs.declared.fields.Field.{Field}
use Rattle.box_images.specs.declared.fields.Field.TheVariants.{Fixed, Of}
use Rattle.box_images.specs.declared.fields.Side.{Side}
use Rattle.box_images.specs.declared.fields.Side.TheVariants.{Proto, Src, Dst, P, Q}
use Rattle.box_images.specs.declared.images.Image.{Image}

-- the field of an image on a side
abbrev pub field_of : Image → Side → Field
field_of i Proto = i.proto
field_of i Src = i.src
field_of i Dst = i.dst
field_of i P = i.p
field_of i Q = i.q

-- the header that an image stands for at a header of the request
abbrev pub header_at : Image → Header → Header
header_at i h = record { proto = value_of i.proto h; src = value_of i.src h; dst = value_of i.dst h; p = value_of i.p h; q = value_of i.q h }

-- the port that a NAT gateway tries first: p, or p plus 1,024 where p is a well-known port (profile)
abbrev pub first_port : ℕ → ℕ
first_port p = if nat_lt p 1024 then p + 1024 else p

-- the header with that port
abbrev pub shifted : Header → Header
shifted h = record h { p = first_port h.p }

-- the part holds some header, 0 or 1,024 is added, and no field has a value over the part that is too great for its side
pub record IsValidImage (i : Image) : Type 0 where
  pub part : IsValid i.part
  pub offset : (s : Side) → HasOffset (field_of i s)
  pub fits : (s : Side) → greatest_of (field_of i s) i.part ≤ greatest_on s

-- the two images are over one part, and no field reads one side in the one image and another side in the other
pub record CanCompare (i j : Image) : Type 0 where
  pub part : i.part ≡ j.part
  pub proto : AreComparable i.proto j.proto
  pub src : AreComparable i.src j.src
  pub dst : AreComparable i.dst j.dst
  pub p : AreComparable i.p j.p
  pub q : AreComparable i.q j.q

-- ---- the two kinds of images in a walk, over the addresses that a walk may put into a header

-- the request's address on that side, or one of the addresses
abbrev pub IsAddress : List ℕ → Side → Field → Type 0
IsAddress addresses s (Fixed a) = Contains addresses a
IsAddress addresses s (Of t add) = (t ≡ s) × (add ≡ 0)

-- the request's port on that side, as it was or as a NAT gateway shifts it (profile)
abbrev pub IsPort : Side → Field → Type 0
IsPort s f = (f ≡ Of s 0) ⊎ (f ≡ Of s 1024)

-- what a walk makes of an open
pub record IsImageOfOpen (addresses : List ℕ) (i : Image) : Type 0 where
  pub proto : i.proto ≡ Of Proto 0
  pub src : IsAddress addresses Src i.src
  pub dst : IsAddress addresses Dst i.dst
  pub p : IsPort P i.p
  pub q : i.q ≡ Of Q 0

-- what a walk makes of the echo reply to an ICMP request (RFC 792): it goes back, with the identifier of the request
pub record IsImageOfEchoReply (addresses : List ℕ) (i : Image) : Type 0 where
  pub icmp : i.part.proto ≡ (1, 1)
  pub proto : i.proto ≡ Of Proto 0
  pub src : IsAddress addresses Dst i.src
  pub dst : IsAddress addresses Src i.dst
  pub p : IsPort P i.p
  pub q : i.q ≡ Fixed 0

-- what a walk makes of the answer to a request that isn't ICMP: it goes back, from port to port
pub record IsImageOfReturn (addresses : List ℕ) (i : Image) : Type 0 where
  pub other : in_range i.part.proto 1 ≡ false
  pub proto : i.proto ≡ Of Proto 0
  pub src : IsAddress addresses Dst i.src
  pub dst : IsAddress addresses Src i.dst
  pub p : i.p ≡ Of Q 0
  pub q : IsPort P i.q

-- what a walk makes of an answer
abbrev pub IsImageOfAnswer : List ℕ → Image → Type 0
IsImageOfAnswer addresses i = IsImageOfEchoReply addresses i ⊎ IsImageOfReturn addresses i

-- what a walk makes of requests and answers, over some addresses that it may put into them
abbrev pub IsImageOfWalk : Image → Type 0
IsImageOfWalk i = (addresses : List ℕ) × (IsImageOfOpen addresses i ⊎ IsImageOfAnswer addresses i)

-- the later image is of the kind of the earlier one
pub record KeepsKind (addresses : List ℕ) (old new : Image) : Type 0 where
  pub of_open : IsImageOfOpen addresses old → IsImageOfOpen addresses new
  pub of_answer : IsImageOfAnswer addresses old → IsImageOfAnswer addresses new

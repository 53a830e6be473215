-- Fields: the numbers of a header, and expressions for them over the headers of a request.
use Rattle.std.specs.Prelude.{ℕ, ◌≡◌, ◌+◌, ◌⊎◌}
use Rattle.vpc_base.specs.declared.headers.Header.{Header}
use Rattle.header_boxes.specs.declared.boxes.Box5.{Box5}
use Rattle.box_images.specs.declared.fields.Field.{Field}
use Rattle.box_images.specs.declared.fields.Field.TheVariants.{Fixed, Of}
use Rattle.box_images.specs.declared.fields.Side.{Side}
use Rattle.box_images.specs.declared.fields.Side.TheVariants.{Proto, Src, Dst, P, Q}

-- the number of a header on a side
abbrev pub number_of : Header → Side → ℕ
number_of h Proto = h.proto
number_of h Src = h.src
number_of h Dst = h.dst
number_of h P = h.p
number_of h Q = h.q

-- the greatest number on a side (RFC 791)
abbrev pub greatest_on : Side → ℕ
greatest_on Proto = 255
greatest_on Src = 4294967295
greatest_on Dst = 4294967295
greatest_on P = 65535
greatest_on Q = 65535

-- the closed range of a box on a side
abbrev pub side_of : Box5 → Side → ℕ × ℕ
side_of b Proto = b.proto
side_of b Src = b.src
side_of b Dst = b.dst
side_of b P = b.p
side_of b Q = b.q

-- the value of a field at a header of the request: a constant, or the header's number on a side with something added
abbrev pub value_of : Field → Header → ℕ
value_of (Fixed n) h = n
value_of (Of s add) h = number_of h s + add

-- the greatest value of a field over a box: that at the upper end of the side it reads
abbrev pub greatest_of : Field → Box5 → ℕ
greatest_of (Fixed n) b = n
greatest_of (Of s add) b = (side_of b s).1 + add

-- what is added is nothing, or what a NAT gateway adds to a port (profile)
abbrev pub HasOffset : Field → Type 0
HasOffset (Fixed n) = Unit {0}
HasOffset (Of s add) = (add ≡ 0) ⊎ (add ≡ 1024)

-- the two fields don't read two different sides
abbrev pub AreComparable : Field → Field → Type 0
AreComparable (Of s add) (Of t more) = s ≡ t
AreComparable (Of s add) (Fixed n) = Unit {0}
AreComparable (Fixed n) (Of s add) = Unit {0}
AreComparable (Fixed m) (Fixed n) = Unit {0}

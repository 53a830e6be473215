-- How parts with answers are put together. Public clauses don't cite these: they say what an answer means.
use Rattle.std.specs.Prelude.{ℕ, ◌≡◌, ◌+◌, ◌++◌, ◌==◌, ◌&&◌, Bool, true}
use Rattle.vpc_base.specs.declared.headers.Header.{Header}
use Rattle.header_boxes.specs.Boxes.{holds, in_range}
use Rattle.header_boxes.specs.declared.boxes.Box5.{Box5}
use Rattle.box_images.specs.Fields.{value_of}
use Rattle.box_images.specs.Bodies.{Edges, EndsAtEdges, IsBody, meeting_edges, range_edges}
use Rattle.box_images.specs.declared.fields.Field.{Field}
use Rattle.box_images.specs.declared.fields.Field.TheVariants.{Fixed, Of}
use Rattle.box_images.specs.declared.fields.Side.{Side}
use Rattle.box_images.specs.declared.fields.Side.TheVariants.{Proto, Src, Dst, P, Q}
use Rattle.box_images.specs.declared.images.Image.{Image}
use Rattle.box_images.specs.declared.images.Part.{Part}

-- the box with another upper end on a side
abbrev pub ending_at : Box5 → Side → ℕ → Box5
ending_at b Proto x = record b { proto = (b.proto.0, x) }
ending_at b Src x = record b { src = (b.src.0, x) }
ending_at b Dst x = record b { dst = (b.dst.0, x) }
ending_at b P x = record b { p = (b.p.0, x) }
ending_at b Q x = record b { q = (b.q.0, x) }

-- the body ends at edges, and the test is told of each of its headers
pub record IsTold (edges : Edges) (part : Box5) (test : Header → Bool) (x : Part Bool) : Type 0 where
  pub told : (h : Header) → holds h x.body ≡ true → x.told ≡ test h
  pub body : IsBody x.body part
  pub ends : EndsAtEdges edges x.body part

-- it is told whether the field lies in the range
abbrev pub TellsRange : Field → ℕ → ℕ → Box5 → Part Bool → Type 0
TellsRange f lo hi part x = IsTold (range_edges f lo hi) part (λ h. in_range (lo, hi) (value_of f h)) x

-- it is told whether the two fields are the same
abbrev pub TellsSame : Field → Field → Box5 → Part Bool → Type 0
TellsSame f g part x = IsTold (meeting_edges f g) part (λ h. value_of f h == value_of g h) x

-- whatever tests the two tell, this tells whether both hold
abbrev pub IsBoth : Part Bool → Part Bool → Part Bool → Type 0
IsBoth a b both =
    (few more : Edges) (part : Box5) (s t : Header → Bool) → IsTold few part s a → IsTold more part t b
    → IsTold (few ++ more) part (λ h. s h && t h) both

-- 1,024 more than the field
abbrev pub raised : Field → Field
raised (Fixed n) = Fixed (n + 1024)
raised (Of s add) = Of s (add + 1024)

-- the image of the answer to a header that isn't ICMP, over the body
abbrev pub exchanged_image : Image → Box5 → Image
exchanged_image i body = record { part = body; proto = i.proto; src = i.dst; dst = i.src; p = i.q; q = i.p }

-- the image of the echo reply, over the body
abbrev pub echo_image : Image → Box5 → Image
echo_image i body = record { part = body; proto = i.proto; src = i.dst; dst = i.src; p = i.p; q = Fixed 0 }

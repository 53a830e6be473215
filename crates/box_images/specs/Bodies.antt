-- Bodies: parts of a box of requests on all of whose headers an answer is the same.
use Rattle.std.specs.Prelude.{ℕ, ◌≡◌, ◌≤◌, ◌<◌, ◌+◌, ◌⊎◌, ◌++◌, List, [], ◌∷◌, Contains, All}
use Rattle.vpc_base.specs.Cuts.{CutLists}
use Rattle.header_boxes.specs.Boxes.{IsWithin, low_of}
use Rattle.header_boxes.specs.declared.boxes.Box5.{Box5}
use Rattle.box_images.specs.Fields.{side_of}
use Rattle.box_images.specs.declared.fields.Field.{Field}
use Rattle.box_images.specs.declared.fields.Field.TheVariants.{Fixed, Of}
use Rattle.box_images.specs.declared.fields.Side.{Side}
use Rattle.box_images.specs.declared.fields.Side.TheVariants.{Proto, Src, Dst, P, Q}
use Rattle.box_images.specs.declared.images.Image.{Image}

-- a valid box that lies in the part and has its low corner
pub record IsBody (body part : Box5) : Type 0 where
  pub within : IsWithin body part
  pub low : low_of body ≡ low_of part

-- ---- where bodies end

-- edges: values of fields from which on an answer may be another one
abbrev pub Edges : Type 0
Edges = List (Field × ℕ)

-- the first value in a range, and the first one past it
abbrev pub range_edges : Field → ℕ → ℕ → Edges
range_edges f lo hi = (f, lo) ∷ (f, hi + 1) ∷ []

-- a field and a constant begin to be the same at the constant, and cease just past it
abbrev pub meeting_edges : Field → Field → Edges
meeting_edges (Of s add) (Fixed n) = range_edges (Of s add) n n
meeting_edges (Fixed n) (Of s add) = range_edges (Of s add) n n
meeting_edges (Of s add) (Of t more) = []
meeting_edges (Fixed m) (Fixed n) = []

-- those of all five fields
abbrev pub same_edges : Image → Image → Edges
same_edges i j =
    meeting_edges i.proto j.proto
    ++ ((meeting_edges i.src j.src ++ meeting_edges i.dst j.dst) ++ (meeting_edges i.p j.p ++ meeting_edges i.q j.q))

-- the well-known ports end (profile)
abbrev pub shift_edges : Image → Edges
shift_edges i = (i.p, 1024) ∷ []

-- ICMP, and its echo requests (RFC 792)
abbrev pub reply_edges : Image → Edges
reply_edges i = range_edges i.proto 1 1 ++ range_edges i.q 2048 2048

-- at the number x of the side, a field that reads it comes to an edge
abbrev pub IsEdge : Edges → Side → ℕ → Type 0
IsEdge edges s x = (add : ℕ) × Contains edges (Of s add, x + add)

-- each side of the body ends where that of the part does, or just before an edge
pub record EndsAtEdges (edges : Edges) (body part : Box5) : Type 0 where
  pub ends : (s : Side) → ((side_of body s).1 ≡ (side_of part s).1) ⊎ IsEdge edges s ((side_of body s).1 + 1)

-- ---- edges at cuts

-- the cuts of a side
abbrev pub cuts_on : CutLists → Side → List ℕ
cuts_on cuts Proto = cuts.proto
cuts_on cuts Src = cuts.addr
cuts_on cuts Dst = cuts.addr
cuts_on cuts P = cuts.p
cuts_on cuts Q = cuts.q

-- where the field comes to the value inside the part, that is at a cut of the side it reads
abbrev pub IsCutInside : CutLists → Box5 → Field → ℕ → Type 0
IsCutInside cuts part (Fixed n) v = Unit {0}
IsCutInside cuts part (Of s add) v = (x : ℕ) → x + add ≡ v → (side_of part s).0 < x → x ≤ (side_of part s).1 → Contains (cuts_on cuts s) x

-- the value, less what the field adds, is a cut of the side it reads; 0 divides nothing, and no value is past the greatest one
abbrev pub IsCut : CutLists → ℕ → Field → ℕ → Type 0
IsCut cuts greatest (Fixed n) v = Unit {0}
IsCut cuts greatest (Of s add) v = (x : ℕ) → x + add ≡ v → 0 < x → v ≤ greatest → Contains (cuts_on cuts s) x

-- all edges that lie inside the part are at cuts
abbrev pub AreCutInside : CutLists → Box5 → Edges → Type 0
AreCutInside cuts part edges = All (λ e. IsCutInside cuts part e.0 e.1) edges

-- Addresses by which sets and tables are asked, and how far from one on they are told alike.
use Rattle.std.specs.Prelude.{◌≡◌, ◌+◌, ◌<◌, ◌≤◌, ◌⊎◌, ◌==◌, Bool, Contains, List, false, true, ℕ}
use Rattle.std.specs.List.{list_any}
use Rattle.vpc_base.specs.Cuts.{CutLists}
use Rattle.vpc_base.specs.declared.headers.Header.{Header}
use Rattle.header_boxes.specs.Boxes.{holds, low_of}
use Rattle.header_boxes.specs.Cells.{IsAligned}
use Rattle.header_boxes.specs.declared.boxes.Box5.{Box5}
use Rattle.box_images.specs.Bodies.{IsBody}
use Rattle.box_images.specs.Fields.{number_of}
use Rattle.box_images.specs.Images.{header_at}
use Rattle.box_images.specs.declared.fields.Side.{Side}
use Rattle.box_images.specs.declared.images.Image.{Image}
use Rattle.number_tables.specs.Keys.{key_of}

-- the image's number on the side, at the low corner of its part
abbrev pub low_on : Image → Side → ℕ
low_on i s = number_of (header_at i (low_of i.part)) s

-- no number on the side is above the last; the body ends where the part does, or past the last
pub record EndsBy (i : Image) (s : Side) (last : ℕ) (b : Box5) : Type 0 where
  pub from : (h : Header) → holds h b ≡ true → low_on i s ≤ number_of (header_at i h) s
  pub to : (h : Header) → holds h b ≡ true → number_of (header_at i h) s ≤ last
  pub body : IsBody b i.part
  pub aligned : (cuts : CutLists) → (last < 4294967295 → Contains cuts.addr (last + 1)) → IsAligned cuts b i.part

-- the key of an address with this high half is one of the keys
abbrev pub has_key : List ℕ → ℕ → ℕ → Bool
has_key keys high a = list_any (λ n. n == key_of high a) keys

-- the addresses from a to the last have a key, or none has; one that has stands alone, and the gap ends at the next that has
pub record IsKeyStretch (keys : List ℕ) (high a : ℕ) (x : ℕ × Bool) : Type 0 where
  pub from : a ≤ x.0
  pub alike : (b : ℕ) → a ≤ b → b ≤ x.0 → has_key keys high b ≡ x.1
  pub alone : x.1 ≡ true → x.0 ≡ a
  pub gap : x.1 ≡ false → (x.0 ≡ 4294967295) ⊎ (has_key keys high (x.0 + 1) ≡ true)

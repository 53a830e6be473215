-- Valid images, and the kinds of images in a walk.
use Rattle.std.proofs.Common.{ℕ, ◌≤◌, arith}
use Rattle.header_boxes.specs.Boxes.{IsValid, IsWithin}
use Rattle.header_boxes.specs.declared.boxes.Box5.{Box5}
use Rattle.header_boxes.proofs.Held.{valid_if_within}
use Rattle.box_images.specs.Fields.{HasOffset, greatest_of, greatest_on}
use Rattle.box_images.specs.Images.{IsValidImage, field_of}
use Rattle.box_images.specs.declared.fields.Field.{Field}
use Rattle.box_images.specs.declared.fields.Field.TheVariants.{Fixed, Of}
use Rattle.box_images.specs.declared.fields.Side.{Side}
use Rattle.box_images.specs.declared.fields.Side.TheVariants.{Proto, Src, Dst, P, Q}
use Rattle.box_images.specs.declared.images.Image.{Image}
use Rattle.box_images.proofs.SideLemmas.{side_within}

-- a field that fits its side over a part
pub record FitsSide (b : Box5) (s : Side) (f : Field) : Type 0 where
  pub offset : HasOffset f
  pub fits : greatest_of f b ≤ greatest_on s

pub fits_side : (i : Image) → IsValidImage i → (s : Side) → FitsSide i.part s (field_of i s)
fits_side i v s = record { offset = v.offset s; fits = v.fits s }

pub fixed_fits : (b : Box5) (s : Side) (n : ℕ) → n ≤ greatest_on s → FitsSide b s (Fixed n)
fixed_fits b s n le = record { offset = tt; fits = le }

-- an image is valid where all five fields fit
pub valid_if_fit : (i : Image) → IsValid i.part → FitsSide i.part Proto i.proto → FitsSide i.part Src i.src → FitsSide i.part Dst i.dst
    → FitsSide i.part P i.p → FitsSide i.part Q i.q → IsValidImage i
valid_if_fit i v proto src dst p q = record { part = v; offset = λ s. (fit s).offset; fits = λ s. (fit s).fits }
  where
    fit : (s : Side) → FitsSide i.part s (field_of i s)
    fit Proto = proto
    fit Src = src
    fit Dst = dst
    fit P = p
    fit Q = q

-- a field that fits over a part fits over what lies within it
pub fits_within : (body part : Box5) (s : Side) (f : Field) → IsWithin body part → FitsSide part s f → FitsSide body s f
fits_within body part s (Fixed n) w k = record { offset = tt; fits = k.fits }
fits_within body part s (Of t add) w k = record { offset = k.offset; fits = let lower = (side_within body part w t).ends in let fits = k.fits in omega arith }

pub valid_with_src : (i : Image) (a : ℕ) → a ≤ 4294967295 → IsValidImage i → IsValidImage (record i { src = Fixed a })
valid_with_src i a le v =
    valid_if_fit (record i { src = Fixed a }) v.part (fits_side i v Proto) (fixed_fits i.part Src a le) (fits_side i v Dst) (fits_side i v P) (fits_side i v Q)

pub valid_with_dst : (i : Image) (a : ℕ) → a ≤ 4294967295 → IsValidImage i → IsValidImage (record i { dst = Fixed a })
valid_with_dst i a le v =
    valid_if_fit (record i { dst = Fixed a }) v.part (fits_side i v Proto) (fits_side i v Src) (fixed_fits i.part Dst a le) (fits_side i v P) (fits_side i v Q)

pub valid_over_body : (i : Image) (body : Box5) → IsWithin body i.part → IsValidImage i → IsValidImage (record i { part = body })
valid_over_body i body w v =
    valid_if_fit (record i { part = body }) (valid_if_within body i.part w)
    (fits_within body i.part Proto i.proto w (fits_side i v Proto))
    (fits_within body i.part Src i.src w (fits_side i v Src))
    (fits_within body i.part Dst i.dst w (fits_side i v Dst))
    (fits_within body i.part P i.p w (fits_side i v P))
    (fits_within body i.part Q i.q w (fits_side i v Q))

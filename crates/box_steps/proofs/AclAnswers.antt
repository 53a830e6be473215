-- What ACLs answer for all headers of a body.
use Rattle.std.proofs.Common.{◌≡◌, ◌∙◌, ◌==◌, Bool, None, Option, Some, cond, false, refl, true, ℕ}
use Rattle.std.proofs.lemmas.Bool.{eq-eqb, ne_eqb}
use Rattle.vpc_base.specs.Cuts.{CutLists}
use Rattle.header_boxes.specs.Boxes.{IsValid}
use Rattle.box_images.specs.Terms.{Answers, header_at}
use Rattle.image_tests.specs.Types.{Image, Part}
use Rattle.cut_laws.proofs.Among.{among_through}
use Rattle.image_tests.proofs.Answering.{answers_all, answers_more, answers_same}
use Rattle.network_acls.proofs.Standing.{tried_rows_are_standing}
use Rattle.network_acls.specs.Tried.{DivideRows, SortsRows, TriedRows, rows_tried}
use Rattle.vpc_laws.specs.Types.{AclNo, Box5, Description, Dir, Header, Stop, SubnetNo}
use Rattle.vpc_model.specs.Terms.{acl_at, acl_verdict, all_cuts, crossing, cuts_of_acl_row, entering, is_acl, leaving, on_sides, or_else, standing_cuts}
use Rattle.box_steps.proofs.Telling.{answers_kept, answers_then}
use Rattle.box_steps.specs.Cuts.{Standing}

-- the verdicts of an ACL, by its sorted rows
pub answers_of_acl : (d : Description) (a : AclNo) (rows : TriedRows) (dir : Dir) (i : Image) (x : Part (Bool × ℕ)) → is_acl d a ≡ true
    → SortsRows (acl_at d a).rows rows
    → Answers (DivideRows (rows_tried dir rows)) (λ h. acl_verdict (rows_tried dir rows) dir (header_at i h)) i.part x
    → Answers (Standing d) (λ h. acl_verdict (acl_at d a).rows dir (header_at i h)) i.part x
answers_of_acl d a rows dir i x lies sorts k =
    answers_same (Standing d) (λ h. acl_verdict (rows_tried dir rows) dir (header_at i h)) (λ h. acl_verdict (acl_at d a).rows dir (header_at i h)) i.part x
    (λ h. sorts.verdicts dir (header_at i h))
    (answers_more (DivideRows (rows_tried dir rows)) (Standing d) (λ h. acl_verdict (rows_tried dir rows) dir (header_at i h)) i.part x
    (λ cuts standing. among_through (on_sides (all_cuts cuts_of_acl_row (rows_tried dir rows))) (standing_cuts d) cuts (tried_rows_are_standing d a rows dir lies sorts) standing) k)

-- ---- one stop, or else another

or_else-some : {X : Type 0} (a b : Option X) (told : Option X) (x : X) → told ≡ Some x → a ≡ told → or_else a b ≡ told
or_else-some None b told x is e = absurd (let none : None ≡ Some x = e ∙ is in cc)
or_else-some (Some y) b told x is e = e

or_else-none : {X : Type 0} (a b : Option X) (told : Option X) → told ≡ None → a ≡ told → or_else a b ≡ b
or_else-none None b told is e = refl
or_else-none (Some y) b told is e = absurd (let some : Some y ≡ None = e ∙ is in cc)

pub answers_stopped : (enough : CutLists → Type 0) (f g : Header → Option Stop) (part : Box5) (x : Part (Option Stop)) (s : Stop) → x.told ≡ Some s
    → Answers enough f part x → Answers enough (λ h. or_else (f h) (g h)) part x
answers_stopped enough f g part x s is k = answers_kept enough f (λ h. or_else (f h) (g h)) part x (λ h e. or_else-some (f h) (g h) x.told s is e) k

pub answers_passed : (enough : CutLists → Type 0) (f g : Header → Option Stop) (i j : Image) (x y : Part (Option Stop)) → IsValid i.part
    → x.told ≡ None → j ≡ record i { part = x.body }
    → Answers enough (λ h. f (header_at i h)) i.part x → Answers enough (λ h. g (header_at j h)) j.part y
    → Answers enough (λ h. or_else (f (header_at i h)) (g (header_at i h))) i.part y
answers_passed enough f g i j x y valid is within k l =
    answers_then enough f (λ h. or_else (f h) (g h)) g i j x y valid within (λ h e. or_else-none (f (header_at i h)) (g (header_at i h)) x.told is e) k l

-- ---- crossing

crossing-same : (d : Description) (s t : SubnetNo) (h : Header) → s.0 ≡ t.0 → None ≡ crossing d s t h
crossing-same d s t h same = by (s.0 == t.0) (eq-eqb s.0 t.0 same)
  where
    by : (b : Bool) → b ≡ true → None ≡ cond b None (or_else (leaving d s h) (entering d t h))
    by true e = refl
    by false e = absurd cc

crossing-differs : (d : Description) (s t : SubnetNo) (h : Header) → (s.0 ≡ t.0 → ⊥) → or_else (leaving d s h) (entering d t h) ≡ crossing d s t h
crossing-differs d s t h differs = by (s.0 == t.0) (ne_eqb s.0 t.0 differs)
  where
    by : (b : Bool) → b ≡ false → or_else (leaving d s h) (entering d t h) ≡ cond b None (or_else (leaving d s h) (entering d t h))
    by true e = absurd cc
    by false e = refl

pub answers_inside : (d : Description) (s t : SubnetNo) (i : Image) → IsValid i.part → s.0 ≡ t.0
    → Answers (Standing d) (λ h. crossing d s t (header_at i h)) i.part (record { body = i.part; told = None })
answers_inside d s t i valid same = answers_all (Standing d) (λ h. crossing d s t (header_at i h)) i.part None valid (λ h. crossing-same d s t (header_at i h) same)

pub answers_across : (d : Description) (s t : SubnetNo) (i : Image) (x : Part (Option Stop)) → (s.0 ≡ t.0 → ⊥)
    → Answers (Standing d) (λ h. or_else (leaving d s (header_at i h)) (entering d t (header_at i h))) i.part x
    → Answers (Standing d) (λ h. crossing d s t (header_at i h)) i.part x
answers_across d s t i x differs k =
    answers_same (Standing d) (λ h. or_else (leaving d s (header_at i h)) (entering d t (header_at i h))) (λ h. crossing d s t (header_at i h)) i.part x
    (λ h. crossing-differs d s t (header_at i h) differs) k

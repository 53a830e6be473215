-- Nothing changes for requests that come to interfaces which let in the same.
use Rattle.std.proofs.Common.{Bool, None, Ok, Option, Some, ap, cond, false, refl, subst, sym, true, ◌∙◌, ◌≡◌}
use Rattle.box_images.proofs.Lemmas.{body_through, images_fit}
use Rattle.box_images.specs.Terms.{Answers, header_at}
use Rattle.box_images.specs.declared.images.Image.{Image}
use Rattle.box_walk.specs.Terms.{end_unless, lets_in}
use Rattle.box_walk.specs.declared.arriving.Arrivals.{Arrivals}
use Rattle.cut_laws.proofs.Among.{among_through, left_among, right_among}
use Rattle.header_boxes.proofs.Lemmas.{aligned_through, within_holds}
use Rattle.header_boxes.specs.Boxes.{holds, low_of}
use Rattle.vpc_base.specs.Cuts.{AreAmong}
use Rattle.vpc_laws.specs.Types.{Box5, EniNo, Header, Phase, Stop}
use Rattle.vpc_model.specs.declared.places.End.TheVariants as ends
use Rattle.journey_changes.proofs.Joining.{none_changes, ok_if_reached}
use Rattle.journey_changes.specs.Terms.{ComeTo, Fate, LetInAlike, Sent, change_by, change_cuts, change_of, fate, near, reached}

-- neither network's interface has replies that get back
pub none_returns : (before after : Sent) (sides : Box5) (one other : Arrivals) (t u : Phase × Stop) → one.back ≡ Some t → other.back ≡ Some u → ComeTo before sides one → ComeTo after one.header.part other
    → (h : Header) → holds h other.header.part ≡ true → change_of before after h ≡ None
none_returns before after sides one other t u is also k l h inside =
    none_changes before.network after.network (fate before h) (fate after h)
    (k.reached h (within_holds other.header.part one.header.part h l.body.within inside) ∙ kept one.end one.back t is (lets_in before.network one.end (header_at one.header h)))
    (l.reached h inside ∙ kept other.end other.back u also (lets_in after.network other.end (header_at other.header h)))
  where
    kept : (e : EniNo) (back : Option (Phase × Stop)) (t : Phase × Stop) → back ≡ Some t → (lets : Bool) → cond lets (end_unless e back) None ≡ None
    kept e back t is true = ap (end_unless e) is
    kept e back t is false = refl

-- both interfaces have one id, and let in the same
pub one_is_reached : (before after : Sent) (sides : Box5) (one other : Arrivals) (narrowed : Image) → one.back ≡ None → other.back ≡ None → ComeTo before sides one → ComeTo after one.header.part other
    → narrowed ≡ record one.header { part = other.header.part } → narrowed ≡ other.header
    → change_by before.network after.network (Ok (ends.Interface one.end)) (Ok (ends.Interface other.end)) ≡ None → LetInAlike before.network one.end after.network other.end
    → (h : Header) → holds h other.header.part ≡ true → change_of before after h ≡ None
one_is_reached before after sides one other narrowed is also k l narrowed_is same one_id alike h inside =
    by (lets_in before.network one.end (header_at one.header h)) refl
  where
    held : holds h one.header.part ≡ true
    held = within_holds other.header.part one.header.part h l.body.within inside

    one_header : header_at one.header h ≡ header_at other.header h
    one_header = sym (ap (λ (i : Image). header_at i h) narrowed_is) ∙ ap (λ (i : Image). header_at i h) same

    both : lets_in before.network one.end (header_at one.header h) ≡ lets_in after.network other.end (header_at other.header h)
    both = alike (header_at one.header h) (images_fit one.header h k.valid held) ∙ ap (lets_in after.network other.end) one_header

    first : (b : Bool) → lets_in before.network one.end (header_at one.header h) ≡ b → reached before h ≡ cond b (Some (ends.Interface one.end)) None
    first b lets = k.reached h held ∙ (ap (λ (x : Bool). cond x (end_unless one.end one.back) None) lets ∙ ap (λ (o : Option (Phase × Stop)). cond b (end_unless one.end o) None) is)

    second : (b : Bool) → lets_in before.network one.end (header_at one.header h) ≡ b → reached after h ≡ cond b (Some (ends.Interface other.end)) None
    second b lets =
        l.reached h inside ∙ (ap (λ (x : Bool). cond x (end_unless other.end other.back) None) (sym both ∙ lets) ∙ ap (λ (o : Option (Phase × Stop)). cond b (end_unless other.end o) None) also)

    by : (b : Bool) → lets_in before.network one.end (header_at one.header h) ≡ b → change_of before after h ≡ None
    by true lets =
        ap (λ (x : Fate). change_by before.network after.network x (fate after h)) (ok_if_reached (fate before h) (ends.Interface one.end) (first true lets))
        ∙ (ap (change_by before.network after.network (Ok (ends.Interface one.end))) (ok_if_reached (fate after h) (ends.Interface other.end) (second true lets)) ∙ one_id)
    by false lets = none_changes before.network after.network (fate before h) (fate after h) (first false lets) (second false lets)

-- so the body is one for which nothing changes
pub unchanged : (before after : Sent) (sides : Box5) (one other : Arrivals) → ComeTo before sides one → ComeTo after one.header.part other
    → ((h : Header) → holds h other.header.part ≡ true → change_of before after h ≡ None)
    → Answers (AreAmong (change_cuts before after (low_of sides))) (change_of before after) sides (record { body = other.header.part; told = None })
unchanged before after sides one other k l none = record {
  told = λ h inside. sym (none h inside);
  body = body_through other.header.part one.header.part sides l.body k.body;
  aligned = λ cuts e.
      let near_a = near before (low_of sides) in
      let near_b = near after (low_of sides) in
      let low : AreAmong (near after (low_of one.header.part)) cuts = subst (λ (h : Header). AreAmong (near after h) cuts) (sym k.body.low) (among_through near_b (change_cuts before after (low_of sides)) cuts (right_among near_a near_b) e) in
      aligned_through cuts other.header.part one.header.part sides (l.aligned cuts low)
      (k.aligned cuts (among_through near_a (change_cuts before after (low_of sides)) cuts (left_among near_a near_b) e));
}

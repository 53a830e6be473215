-- Replies on images.
use Rattle.std.proofs.Common.{◌≡◌, ◌↔◌, Bool, IfSome, IsTrue, List, None, Option, Some, true, false, arith, ap, option_map, refl, subst, sym, ◌∙◌, ℕ}
use Rattle.std.proofs.lemmas.Bool.Decides.{nat_tests}
use Rattle.vpc_base.specs.Header.{reply_of}
use Rattle.vpc_base.specs.declared.headers.Header.{Header}
use Rattle.header_boxes.specs.Boxes.{holds}
use Rattle.header_boxes.specs.Cells.{IsAligned}
use Rattle.header_boxes.specs.declared.boxes.Box5.{Box5}
use Rattle.header_boxes.proofs.Held.{holds_whole}
use Rattle.box_images.specs.Answers.{Answers}
use Rattle.box_images.specs.Bodies.{IsBody}
use Rattle.box_images.specs.Images.{header_at}
use Rattle.box_images.specs.declared.images.Image.{Image}
use Rattle.box_images.specs.declared.images.Part.{Part}
use Rattle.box_images.proofs.LawLemmas.{answers_follow}
use Rattle.box_images.proofs.NarrowLemmas.{same_headers, same_numbers}
use Rattle.cut_laws.specs.Dividing.{DivideAddresses}
use Rattle.vpc_model.specs.Connections.{is_header, same_header}
use Rattle.conn_tracking.specs.OnImages.{GivesReply, TellsReply, TellsSame}

same_header-numbers : (a b : Header) → same_numbers a b ≡ same_header a b
same_header-numbers a b = grind (arith, nat_tests)

-- a test that says whether two headers are the same is `same_header`
pub same_header-told : (a b : Header) (told : Bool) → IsTrue told ↔ (a ≡ b) → told ≡ same_header a b
same_header-told a b told k =
    let l = same_headers a b (same_numbers a b) refl in
    alike told (same_numbers a b) (λ t. l.1 (k.0 t)) (λ t. k.1 (l.0 t)) ∙ same_header-numbers a b
  where
    alike : (s t : Bool) → (s ≡ true → t ≡ true) → (t ≡ true → s ≡ true) → s ≡ t
    alike true t to from = sym (to refl)
    alike false true to from = absurd (let e = from refl in cc)
    alike false false to from = refl

-- what is known of an image, if there is one, is known of the one that there is
pub known_of_some : (o : Option Image) (r : Image) (A : Image → Type 0) → IfSome o A → o ≡ Some r → A r
known_of_some o r A k e = subst (λ (t : Option Image). IfSome t A) e k

-- the reply over its body, where there is one, told by comparing
pub tells_by_reply : (addresses : List ℕ) (i opened r over : Image) (reply : Part (Option Image)) (x : Part Bool)
    → opened.part ≡ i.part → GivesReply addresses opened reply → reply.told ≡ Some r → r.part ≡ reply.body → over ≡ record i { part = reply.body }
    → TellsSame addresses r over x → TellsReply addresses i opened x
tells_by_reply addresses i opened r over reply x part gives some at is same =
    let answer = λ (h : Header). same_header (header_at r h) (header_at i h) in
    let here = subst (λ (b : Box5). Answers (DivideAddresses addresses) answer b x) at
    (subst (λ (w : Image). TellsSame addresses r w x) is same) in
    answers_follow (DivideAddresses addresses) (λ h. is_header (header_at i h) (reply_of (header_at opened h))) reply.body i.part x
    (subst (IsBody reply.body) part gives.body)
    (λ cuts d. subst (IsAligned cuts reply.body) part (gives.aligned cuts d))
    (record {
      told = λ h t. here.told h t ∙ ap (is_header (header_at i h)) (reply_at h (holds_whole h x.body reply.body here.body.within t));
      body = here.body;
      aligned = here.aligned;
    })
  where
    reply_at : (h : Header) → holds h reply.body ≡ true → Some (header_at r h) ≡ reply_of (header_at opened h)
    reply_at h t = subst (λ (o : Option Image). option_map (λ i. header_at i h) o ≡ reply_of (header_at opened h)) some (gives.told h t)

-- no header is a reply that there isn't
pub tells_without_reply : (addresses : List ℕ) (i opened : Image) (reply : Part (Option Image))
    → opened.part ≡ i.part → GivesReply addresses opened reply → reply.told ≡ None
    → TellsReply addresses i opened (record { body = reply.body; told = false })
tells_without_reply addresses i opened reply part gives none = record {
  told = λ h t. ap (is_header (header_at i h)) (nothing_at h t);
  body = subst (IsBody reply.body) part gives.body;
  aligned = λ cuts d. subst (IsAligned cuts reply.body) part (gives.aligned cuts d);
}
  where
    nothing_at : (h : Header) → holds h reply.body ≡ true → None ≡ reply_of (header_at opened h)
    nothing_at h t = subst (λ (o : Option Image). option_map (λ i. header_at i h) o ≡ reply_of (header_at opened h)) none (gives.told h t)

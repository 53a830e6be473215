use Rattle.std.proofs.Common.{◌≡◌, ◌∙◌, ◌∷◌, [], All, List, ap, arith, refl, subst, sym, ℕ}
use Rattle.std.proofs.lemmas.List.Elements.{All-cons, All-nil}
use Rattle.box_images.specs.Images.{IsImageOfAnswer, IsImageOfOpen, IsValidImage}
use Rattle.box_images.specs.declared.images.Image.{Image}
use Rattle.conn_tracking.specs.declared.on_images.ImageEntry.{ImageEntry}
use Rattle.conn_tracking.proofs.ReplyLemmas.{known_of_some}
use Rattle.lookup_tests.proofs.connections.asked.Goals as goal

three : (A : Image → Type 0) (a b d : ImageEntry) (i j k : Image) → a.header ≡ i → b.header ≡ j → d.header ≡ k → A i → A j → A k
    → All (λ e. A e.header) (a ∷ b ∷ d ∷ [])
three A a b d i j k is at of first second third =
    All-cons (λ (e : ImageEntry). A e.header) a (b ∷ d ∷ []) (subst A (sym is) first)
    (All-cons (λ (e : ImageEntry). A e.header) b (d ∷ []) (subst A (sym at) second)
    (All-cons (λ (e : ImageEntry). A e.header) d [] (subst A (sym of) third)
    (All-nil (λ (e : ImageEntry). A e.header))))

pub tracked_on-requires-clause-valid_entries : goal.tracked_on-requires-clause-valid_entries
tracked_on-requires-clause-valid_entries c =
    three IsValidImage _ _ _ c.set_src.result c.set_dst.result c.within-opened.result c.entry.ensures c.entry-in-Some.ensures c.entry-in-Some-2.ensures
    c.set_src.ensures.valid c.set_dst.ensures.valid c.within-opened.ensures.valid

pub tracked_on-requires-clause-part : goal.tracked_on-requires-clause-part
tracked_on-requires-clause-part c =
    let body = c.reply-reply.result.body in
    let part = λ (i : Image). i.part in
    let answer = known_of_some c.reply-reply.result.told c.in-Some.answer (λ i. i.part ≡ body) c.reply-reply.ensures.part c.in-Some.is in
    let opened = ap part c.within-opened.ensures.image ∙ sym answer in
    three (λ i. i.part ≡ c.in-Some.answer.part) _ _ _ c.set_src.result c.set_dst.result c.within-opened.result
    c.entry.ensures c.entry-in-Some.ensures c.entry-in-Some-2.ensures
    (ap part c.set_src.ensures.image ∙ opened) (ap part c.set_dst.ensures.image ∙ opened) opened

pub tracked_on-requires-clause-kinds : goal.tracked_on-requires-clause-kinds
tracked_on-requires-clause-kinds c =
    let addresses : List ℕ = 15 ∷ 150 ∷ [] in
    let request = c.of-request.ensures.kind addresses in
    let opened = (c.within-opened.ensures.kind addresses).of_open request in (
      addresses,
      record {
        answer = known_of_some c.reply-reply.result.told c.in-Some.answer (IsImageOfAnswer addresses) (c.reply-reply.ensures.kind addresses request) c.in-Some.is;
        opens = three (IsImageOfOpen addresses) _ _ _ c.set_src.result c.set_dst.result c.within-opened.result
            c.entry.ensures c.entry-in-Some.ensures c.entry-in-Some-2.ensures
            ((c.set_src.ensures.kind addresses (0, omega arith, refl)).of_open opened)
            ((c.set_dst.ensures.kind addresses (1, omega arith, refl)).of_open opened)
            opened;
      },
    )
